use Rattle.std.proofs.Common.{◌≡◌, IfOk, subst}
use Rattle.term_core_spec.specs.declared.Variable.{Variable}
use Rattle.term_core.specs.Trees.{term_of}
use Rattle.std.specs.Prelude.{◌+◌}
use Rattle.term_core_spec.specs.Term.{open_term}
use Rattle.c_graph_spec.specs.State.{local}
use Rattle.sim_rules_spec.specs.Calling.{register}
use Rattle.sim_calls.specs.Callees.{widened}
use Rattle.sim_calls.proofs.callee.argument_line.Goals as goal

pub returns : goal.returns
returns c =
    let r = subst (λ (v : Variable). IfOk c.open.result (λ x. term_of x.value ≡ open_term v)) c.machine_register.ensures c.open.ensures in
    let w = subst (λ (v : Variable). IfOk c.widened.result (λ x. term_of x.value ≡ widened c.args.of v)) c.local.ensures c.widened.ensures in
    c.over_two.ensures (register (10 + c.args.number)) (widened c.args.of (local c.args.number c.args.of)) r w
