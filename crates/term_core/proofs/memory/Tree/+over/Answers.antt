use Rattle.std.proofs.Common.{◌≡◌, ℕ, ◌-◌, ◌^◌, ◌<◌, ap, sym, ◌∙◌, arith, rules}
use Rattle.std.proofs.lemmas.Result.{IfOk-weaker}
use Rattle.term_core_spec.specs.Value.{overlaid}
use Rattle.term_core.specs.Memory.{byte_in}
use Rattle.term_core.proofs.Parts.{two_halves, over_none, over_all, empty_between, past_between, covered, one_covered, over_halves}
use Rattle.term_core.proofs.memory.Tree.+over.Goals as goal

pub over-requires : goal.over-requires
over-requires t c = search (rules, arith)

pub over-requires-2 : goal.over-requires-2
over-requires-2 t c = search (rules, arith)

pub returns-then-high-low : goal.returns-then-high-low
returns-then-high-low t c =
    IfOk-weaker c.share.result _ _
    (λ r h q below. h c.args.depth q ∙ over_none (byte_in c.args.self.now c.args.depth) (byte_in c.args.zone.now c.args.depth) c.args.low c.args.high q (empty_between c.args.low c.args.high q c.if-high-low.true))
    c.share.ensures

pub returns-then-size-low : goal.returns-then-size-low
returns-then-size-low t c =
    IfOk-weaker c.share-then-size-low.result _ _
    (λ r h q below. h c.args.depth q ∙ over_none (byte_in c.args.self.now c.args.depth) (byte_in c.args.zone.now c.args.depth) c.args.low c.args.high q (past_between c.args.low c.args.high (2 ^ c.args.depth) q below (omega arith)))
    c.share-then-size-low.ensures

pub returns-then-covers : goal.returns-then-covers
returns-then-covers t c =
    IfOk-weaker c.share-then-covers.result _ _
    (λ r h q below. h c.args.depth q ∙ over_all (byte_in c.args.self.now c.args.depth) (byte_in c.args.zone.now c.args.depth) c.args.low c.args.high q
    (covered c.args.low c.args.high c.size_of-size.result q (sym c.covers.ensures ∙ c.if-covers.true) (omega arith)))
    c.share-then-covers.ensures

pub returns-then-depth-eq0 : goal.returns-then-depth-eq0
returns-then-depth-eq0 t c =
    IfOk-weaker c.share-then-depth-eq0.result _ _
    (λ r h q below. h c.args.depth q ∙ over_all (byte_in c.args.self.now c.args.depth) (byte_in c.args.zone.now c.args.depth) c.args.low c.args.high q
    (one_covered c.args.depth c.args.low c.args.high q c.if-depth-eq0.true (omega arith) (omega arith) below))
    c.share-then-depth-eq0.ensures

pub returns : goal.returns
returns t c =
    let d : ℕ = c.args.depth - 1 in
    let lower : ℕ → ℕ = byte_in c.in_ok-lower.lower.value d in
    let upper : ℕ → ℕ = byte_in c.in_ok-lower.upper.value d in
    let zone_lower : ℕ → ℕ = byte_in c.in_ok-zone_lower.zone_lower.value d in
    let zone_upper : ℕ → ℕ = byte_in c.in_ok-zone_lower.zone_upper.value d in
    let same1 : c.deref.result.now ≡ c.in_ok-lower.lower.value = search rules in
    let same2 : c.deref-2.result.now ≡ c.in_ok-zone_lower.zone_lower.value = search rules in
    let same3 : c.deref-3.result.now ≡ c.in_ok-lower.upper.value = search rules in
    let same4 : c.deref-4.result.now ≡ c.in_ok-zone_lower.zone_upper.value = search rules in
    let half : c.half_of-half.result ≡ 2 ^ d = c.half_of-half.ensures.value in
    let low_is : c.saturating_sub-low.result ≡ c.args.low - 2 ^ d = omega arith in
    let high_is : c.saturating_sub-high.result ≡ c.args.high - 2 ^ d = omega arith in
    let twice = two_halves c.args.depth (omega arith) in
    IfOk-weaker c.fork.result _ _
    (λ r h q below. h c.args.depth q ∙ over_halves (byte_in c.args.self.now c.args.depth) lower upper (2 ^ d) (λ p. c.in_ok-lower.ensures c.args.depth p)
    (byte_in c.args.zone.now c.args.depth) zone_lower zone_upper (byte_in c.in_ok-made_lower.made_lower d) (byte_in c.in_ok-made_upper.made_upper d) c.args.low c.args.high q
    (λ p. c.in_ok-zone_lower.ensures c.args.depth p) (omega arith)
    (λ p less. c.in_ok-made_lower.ensures p less
    ∙ ap (λ x. overlaid (byte_in x d) (byte_in c.deref-2.result.now d) c.args.low c.args.high p) same1
    ∙ ap (λ x. overlaid lower (byte_in x d) c.args.low c.args.high p) same2)
    (λ p less. c.in_ok-made_upper.ensures p less
    ∙ ap (λ x. overlaid (byte_in x d) (byte_in c.deref-4.result.now d) c.saturating_sub-low.result c.saturating_sub-high.result p) same3
    ∙ ap (λ x. overlaid upper (byte_in x d) c.saturating_sub-low.result c.saturating_sub-high.result p) same4
    ∙ ap (λ n. overlaid upper zone_upper n c.saturating_sub-high.result p) low_is
    ∙ ap (λ n. overlaid upper zone_upper (c.args.low - 2 ^ d) n p) high_is))
    c.fork.ensures
