use Rattle.std.proofs.Common.{◌≡◌, IfOk, subst}
use Rattle.term_core_spec.specs.declared.Variable.{Variable}
use Rattle.term_core.specs.Trees.{term_of}
use Rattle.c_graph_spec.specs.State.{result}
use Rattle.sim_rules_spec.specs.Calling.{register}
use Rattle.agreement_laws.specs.EntryFrame.{widened}
use Rattle.cert_check_relations.proofs.relations.has_result.Goals as goal

pub returns : goal.returns
returns c =
    let value = subst (λ (v : Variable). IfOk c.widened.result (λ x. term_of x.value ≡ widened c.args.of v)) c.result_of.ensures c.widened.ensures in
    c.over_two.ensures (register 10) (widened c.args.of (result c.args.of)) c.register.ensures value
