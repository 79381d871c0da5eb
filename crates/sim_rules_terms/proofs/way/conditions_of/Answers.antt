use Rattle.std.proofs.Common.{◌≡◌, subst, sym}
use Rattle.std.specs.HashMap.{get}
use Rattle.std.specs.Prelude.{IfOk}
use Rattle.term_core_spec.specs.Same.{same_variable}
use Rattle.term_core_spec.specs.Substitution.{State}
use Rattle.term_bank.proofs.Growth.{length-Extends}
use Rattle.term_substitution.specs.States.{state_of}
use Rattle.graph_core_spec.specs.Graph.{Graph}
use Rattle.path_cond_spec.specs.Junctions.{junctions}
use Rattle.path_cond.specs.Result.{AreConditions}
use Rattle.sim_rules_terms.proofs.Parts.{start_is}
use Rattle.sim_rules_terms.proofs.way.conditions_of.Goals as goal

pub returns-clause-longer : goal.returns-clause-longer
returns-clause-longer c = length-Extends c.args.bank.now c.conditions.new.bank c.conditions.ensures.extends

pub returns-clause-conditions : goal.returns-clause-conditions
returns-clause-conditions c = λ w maximum is listing.
    let js = junctions w.walk c.args.visits.now.visits in
    subst (λ (s : State). IfOk c.conditions.result (AreConditions c.conditions.new.bank s w.graph js)) (start_is c.args.bank.now (get same_variable c.args.way.now.terms.now) w.start is.terms)
    (subst (λ (g : Graph). IfOk c.conditions.result (AreConditions c.conditions.new.bank (state_of c.args.bank.now (get same_variable c.args.way.now.terms.now)) g js)) is.graph (c.conditions.ensures.conditions w.walk maximum listing))
