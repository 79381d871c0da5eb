use Rattle.std.proofs.Common.{◌≡◌, IfOk, subst}
use Rattle.term_core_spec.specs.declared.Variable.{Variable}
use Rattle.term_core.specs.Trees.{term_of}
use Rattle.term_core_spec.specs.Term.{bit_and, open_term}
use Rattle.sim_rules_spec.specs.Calling.{register, word}
use Rattle.sim_calls.proofs.callee.aligned.Goals as goal

pub returns : goal.returns
returns c =
    let r = subst (λ (v : Variable). IfOk c.open.result (λ x. term_of x.value ≡ open_term v)) c.machine_register.ensures c.open.ensures in
    c.over_two.ensures (bit_and (register c.args.register) (word c.args.mask)) (word 0) (c.over_two-masked.ensures (register c.args.register) (word c.args.mask) r c.word.ensures) c.word-2.ensures
