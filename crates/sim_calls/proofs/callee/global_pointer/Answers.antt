use Rattle.std.proofs.Common.{◌≡◌, IfOk, subst}
use Rattle.term_core_spec.specs.declared.Variable.{Variable}
use Rattle.term_core.specs.Trees.{term_of}
use Rattle.term_core_spec.specs.Term.{open_term}
use Rattle.sim_rules_spec.specs.Calling.{register, at_entry}
use Rattle.sim_calls.proofs.callee.global_pointer.Goals as goal

pub returns : goal.returns
returns c =
    let r = subst (λ (v : Variable). IfOk c.open.result (λ x. term_of x.value ≡ open_term v)) c.machine_register.ensures c.open.ensures in
    c.over_two.ensures (register 3) (at_entry 3) r c.open-2.ensures
