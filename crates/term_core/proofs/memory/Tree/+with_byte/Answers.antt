use Rattle.std.proofs.Common.{◌≡◌, ℕ, ◌-◌, ◌^◌, ◌<◌, ap, ◌∙◌, arith, rules}
use Rattle.std.proofs.lemmas.Result.{IfOk-weaker}
use Rattle.term_core_spec.specs.Value.{with_byte}
use Rattle.term_core.specs.Memory.{byte_in}
use Rattle.term_core.proofs.Parts.{two_halves, one_address, set_low, set_high}
use Rattle.term_core.proofs.memory.Tree.+with_byte.Goals as goal

pub returns-then-depth-eq0 : goal.returns-then-depth-eq0
unfolding byte_in
returns-then-depth-eq0 t c = λ q below.
    one_address (byte_in c.args.self.now c.args.depth) c.args.depth c.args.address c.args.byte q c.if-depth-eq0.true c.requires.within below

pub with_byte-requires : goal.with_byte-requires
with_byte-requires t c = search (rules, arith)

pub with_byte-requires-else-address-half : goal.with_byte-requires-else-address-half
with_byte-requires-else-address-half t c =
    let twice = two_halves c.args.depth (omega arith) in
    search (rules, arith)

pub returns-in_ok-changed_lower : goal.returns-in_ok-changed_lower
returns-in_ok-changed_lower t c =
    let d : ℕ = c.args.depth - 1 in
    let same : c.deref.result.now ≡ c.in_ok-lower.lower.value = search rules in
    IfOk-weaker c.with_lower.result _ _
    (λ r h q below. h c.args.depth q ∙ set_low (byte_in c.args.self.now c.args.depth) (byte_in c.in_ok-lower.lower.value d) (byte_in c.in_ok-lower.upper.value d) (2 ^ d)
    (λ p. c.in_ok-lower.ensures c.args.depth p) (byte_in c.in_ok-changed_lower.changed_lower d) c.args.address c.args.byte q (omega arith)
    (λ p less. c.in_ok-changed_lower.ensures p less ∙ ap (λ tree. with_byte (byte_in tree d) c.args.address c.args.byte p) same))
    c.with_lower.ensures

pub returns-in_ok-changed_upper : goal.returns-in_ok-changed_upper
returns-in_ok-changed_upper t c =
    let d : ℕ = c.args.depth - 1 in
    let same : c.deref-else-address-half.result.now ≡ c.in_ok-lower.upper.value = search rules in
    let half : c.half_of-half.result ≡ 2 ^ d = c.half_of-half.ensures.value in
    let twice = two_halves c.args.depth (omega arith) in
    IfOk-weaker c.with_upper.result _ _
    (λ r h q below. h c.args.depth q ∙ set_high (byte_in c.args.self.now c.args.depth) (byte_in c.in_ok-lower.lower.value d) (byte_in c.in_ok-lower.upper.value d) (2 ^ d)
    (λ p. c.in_ok-lower.ensures c.args.depth p) (byte_in c.in_ok-changed_upper.changed_upper d) c.args.address c.args.byte q (omega arith) (omega arith)
    (λ p less. c.in_ok-changed_upper.ensures p less
    ∙ ap (λ tree. with_byte (byte_in tree d) (c.args.address - c.half_of-half.result) c.args.byte p) same
    ∙ ap (λ n. with_byte (byte_in c.in_ok-lower.upper.value d) (c.args.address - n) c.args.byte p) half))
    c.with_upper.ensures
