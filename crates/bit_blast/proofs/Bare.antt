-- Builds that make no gate, and of one bit.
use Rattle.std.proofs.Common.{◌≡◌, ℕ, [], refl, ap, sym, ◌∙◌, subst}
use Rattle.clause_check_spec.specs.declared.Literal.{Literal}
use Rattle.clause_check_spec.specs.Clause.{Cnf}
use Rattle.term_core_spec.specs.declared.UnaryOperator.{UnaryOperator}
use Rattle.term_core_spec.specs.declared.UnaryOperator.TheVariants as unary
use Rattle.term_core_spec.specs.declared.QuaternaryOperator.{QuaternaryOperator}
use Rattle.term_core_spec.specs.declared.QuaternaryOperator.TheVariants as quaternary
use Rattle.bit_blast_spec.specs.Gates.{Made, Build, give, ◌>>=◌}
use Rattle.bit_blast_spec.specs.Circuits.{Bits}
use Rattle.bit_blast_spec.specs.Goal.{single, unary_bits, quaternary_bits}
use Rattle.bit_blast_circuits.specs.Built.{with_gates, IsBuilt}
use Rattle.bit_blast_circuits.proofs.Built.{no_gates_after, give_gives, then_gives}

pub single_gives : {build : Build Literal} {old new : Cnf} {o : Literal} → (out : Bits) → out ≡ single o → IsBuilt build old o new
    → IsBuilt (build >>= λ bit. give (single bit)) old out new
single_gives {build = build} {old = old} {new = new} {o = o} out e made =
    subst (λ (x : Bits). IsBuilt (build >>= λ bit. give (single bit)) old x new) (sym e) (then_gives (λ bit. give (single bit)) made (give_gives (single o) new))

abbrev bare : Bits → Made Bits
bare out = record { out = out; gates = [] }

bare_gives : (build : Build Bits) (out : Bits) (g : Cnf) → build g.variables ≡ bare out → IsBuilt build g out g
bare_gives build out g e = record {
  answer = ap (λ (made : Made Bits). made.out) (sym e);
  grown = sym (no_gates_after g) ∙ ap (λ (made : Made Bits). with_gates g made.gates) (sym e);
}

unary_bare : (operator : UnaryOperator) (x : Bits) (n : ℕ) → unary_bits operator x n ≡ bare (unary_bits operator x 0).out
unfolding unary_bits
unary_bare unary.Not x n = refl
unary_bare unary.Complement x n = refl
unary_bare (unary.ZeroExtend width) x n = refl
unary_bare (unary.SignExtend width) x n = refl
unary_bare (unary.Low width) x n = refl
unary_bare (unary.Byte index) x n = refl

pub unary_gives : (operator : UnaryOperator) (x given out : Bits) (g : Cnf) → given ≡ x → out ≡ (unary_bits operator given 0).out → IsBuilt (unary_bits operator x) g out g
unary_gives operator x given out g same e =
    bare_gives (unary_bits operator x) out g (unary_bare operator x g.variables ∙ ap bare (ap (λ (y : Bits). (unary_bits operator y 0).out) (sym same) ∙ sym e))

quaternary_bare : (operator : QuaternaryOperator) (a b c d : Bits) (n : ℕ) → quaternary_bits operator a b c d n ≡ bare (quaternary_bits operator a b c d 0).out
unfolding quaternary_bits
quaternary_bare quaternary.Over a b c d n = refl
quaternary_bare quaternary.Join a b c d n = refl

pub quaternary_gives : (operator : QuaternaryOperator) (a b c d p q r s out : Bits) (g : Cnf) → p ≡ a → q ≡ b → r ≡ c → s ≡ d
    → out ≡ (quaternary_bits operator p q r s 0).out → IsBuilt (quaternary_bits operator a b c d) g out g
quaternary_gives operator a b c d p q r s out g ep eq er es e =
    let same : out ≡ (quaternary_bits operator a b c d 0).out =
    e ∙ ap (λ (z : Bits). (quaternary_bits operator z q r s 0).out) ep ∙ ap (λ (z : Bits). (quaternary_bits operator a z r s 0).out) eq
    ∙ ap (λ (z : Bits). (quaternary_bits operator a b z s 0).out) er ∙ ap (λ (z : Bits). (quaternary_bits operator a b c z 0).out) es in
    bare_gives (quaternary_bits operator a b c d) out g (quaternary_bare operator a b c d g.variables ∙ ap bare (sym same))

pub given : (x out : Bits) (g : Cnf) → out ≡ x → IsBuilt (give x) g out g
given x out g e = subst (λ (bits : Bits). IsBuilt (give x) g bits g) (sym e) (give_gives x g)
