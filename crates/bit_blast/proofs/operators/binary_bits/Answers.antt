use Rattle.std.proofs.Common.{IfOk, sym, subst}
use Rattle.std.proofs.lemmas.Result.{IfOk-weaker}
use Rattle.term_core_spec.specs.declared.BinaryOperator.{BinaryOperator}
use Rattle.term_core_spec.specs.Term.{Term}
use Rattle.bit_blast_spec.specs.Goal.{binary_bits}
use Rattle.bit_blast_circuits.specs.Built.{IsBuilt}
use Rattle.bit_blast.proofs.operators.binary_bits.Goals as goal

pub returns-in-And : goal.returns-in-And
unfolding binary_bits
returns-in-And c =
    subst (λ (operator : BinaryOperator). IfOk c.each_two.result (λ out. (term : Term) → IsBuilt (binary_bits term operator c.args.x.now c.args.y.now) c.args.gates.now out.items c.each_two.new.self)) (sym c.in-And.is)
    (IfOk-weaker c.each_two.result _ _ (λ out h. λ term. h) c.each_two.ensures)

pub returns-in-Or : goal.returns-in-Or
unfolding binary_bits
returns-in-Or c =
    subst (λ (operator : BinaryOperator). IfOk c.each_two-in-Or.result (λ out. (term : Term) → IsBuilt (binary_bits term operator c.args.x.now c.args.y.now) c.args.gates.now out.items c.each_two-in-Or.new.self)) (sym c.in-Or.is)
    (IfOk-weaker c.each_two-in-Or.result _ _ (λ out h. λ term. h) c.each_two-in-Or.ensures)

pub returns-in-Equal : goal.returns-in-Equal
unfolding binary_bits
returns-in-Equal c =
    subst (λ (operator : BinaryOperator). IfOk c.equal.result (λ out. (term : Term) → IsBuilt (binary_bits term operator c.args.x.now c.args.y.now) c.args.gates.now out.items c.equal.new.gates)) (sym c.in-Equal.is)
    c.equal.ensures

pub returns-in-Less : goal.returns-in-Less
unfolding binary_bits
returns-in-Less c =
    subst (λ (operator : BinaryOperator). IfOk c.less.result (λ out. (term : Term) → IsBuilt (binary_bits term operator c.args.x.now c.args.y.now) c.args.gates.now out.items c.less.new.gates)) (sym c.in-Less.is)
    c.less.ensures

pub returns-in-Load : goal.returns-in-Load
unfolding binary_bits
returns-in-Load c =
    subst (λ (operator : BinaryOperator). IfOk c.new_bits.result (λ out. (term : Term) → IsBuilt (binary_bits term operator c.args.x.now c.args.y.now) c.args.gates.now out.items c.new_bits.new.self)) (sym c.in-Load.is)
    (IfOk-weaker c.new_bits.result _ _ (λ out h. λ term. h term 0) c.new_bits.ensures)
