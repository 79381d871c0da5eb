use Rattle.std.proofs.Common.{IfOk, sym, subst}
use Rattle.term_core_spec.specs.declared.WordOperator.{WordOperator}
use Rattle.bit_blast_spec.specs.Goal.{word_bits}
use Rattle.bit_blast_circuits.specs.Built.{IsBuilt}
use Rattle.bit_blast.proofs.operators.word_bits.Goals as goal

pub returns-in-And : goal.returns-in-And
unfolding word_bits
returns-in-And c =
    subst (λ (operator : WordOperator). IfOk c.each_two.result (λ out. IsBuilt (word_bits operator c.args.x.now c.args.y.now) c.args.gates.now out.items c.each_two.new.self)) (sym c.in-And.is) c.each_two.ensures

pub returns-in-Or : goal.returns-in-Or
unfolding word_bits
returns-in-Or c =
    subst (λ (operator : WordOperator). IfOk c.each_two-in-Or.result (λ out. IsBuilt (word_bits operator c.args.x.now c.args.y.now) c.args.gates.now out.items c.each_two-in-Or.new.self)) (sym c.in-Or.is) c.each_two-in-Or.ensures

pub returns-in-Xor : goal.returns-in-Xor
unfolding word_bits
returns-in-Xor c =
    subst (λ (operator : WordOperator). IfOk c.each_two-in-Xor.result (λ out. IsBuilt (word_bits operator c.args.x.now c.args.y.now) c.args.gates.now out.items c.each_two-in-Xor.new.self)) (sym c.in-Xor.is) c.each_two-in-Xor.ensures
