use Rattle.std.proofs.Common.{List, subst}
use Rattle.std.specs.HashMap.{get}
use Rattle.term_core_spec.specs.Same.{same_variable}
use Rattle.term_substitution.specs.States.{state_of}
use Rattle.graph_core.specs.Graphs.{graph_of}
use Rattle.path_cond_spec.specs.Junctions.{Junction}
use Rattle.path_cond.specs.Result.{AreConditions}
use Rattle.path_cond.proofs.Listed.{listed_earlier, listed_is}
use Rattle.path_cond.proofs.walk.conditions.Goals as goal

pub fill-requires-clause-earlier : goal.fill-requires-clause-earlier
fill-requires-clause-earlier c = listed_earlier c.requires.listing.0 c.requires.listing.1 c.args.visits.now c.requires.listing.2

pub returns-clause-conditions : goal.returns-clause-conditions
returns-clause-conditions c = λ w maximum is.
    subst (λ (js : List Junction). AreConditions c.fill.new.bank (state_of c.args.bank.now (get same_variable c.args.start.now)) (graph_of c.args.graph.now) js c.fill.new.conditions)
    (listed_is w maximum c.args.visits.now is) c.in_ok-fill.ensures.conditions
