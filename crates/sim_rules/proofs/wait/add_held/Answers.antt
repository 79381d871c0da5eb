use Rattle.std.proofs.lemmas.Option.{slice_get_within}
use Rattle.std.proofs.lemmas.Result.{on_ok_weaker}
use Rattle.std.specs.HashMap.{get}
use Rattle.term_core_spec.specs.Same.{same_variable}
use Rattle.term_bank.proofs.Substitution.{kept, extends_through}
use Rattle.sim_rules_spec.specs.Rules.{comes_to}
use Rattle.sim_rules_spec.specs.Sides.{visits_where}
use Rattle.sim_rules_terms.proofs.Later.{below_later, map_later, opening_in_later}
use Rattle.sim_rules.proofs.AtStops.{within_later}
use Rattle.sim_rules.proofs.Held.{added_two}
use Rattle.sim_rules.proofs.Made.{setup_later}
use Rattle.sim_rules.proofs.wait.add_held.Goals as goal

pub either-requires-clause-b : goal.either-requires-clause-b
either-requires-clause-b c = slice_get_within c.part.new.bank c.in-Ok-attempt.field-0.condition _ (c.in-Ok-attempt.ensures.part c.requires.main.0 c.requires.main.1).condition

pub related-requires-clause-denied : goal.related-requires-clause-denied
related-requires-clause-denied c =
    within_later c.args.bank.now c.either.new.bank (extends_through c.args.bank.now c.part.new.bank c.either.new.bank c.part.ensures.extends c.either.ensures.extends) c.args.denied c.requires.denied

pub related-requires-clause-opening : goal.related-requires-clause-opening
related-requires-clause-opening c =
    opening_in_later c.args.bank.now c.either.new.bank (extends_through c.args.bank.now c.part.new.bank c.either.new.bank c.part.ensures.extends c.either.ensures.extends) c.args.setup.now.opening c.requires.opening

pub related-requires-clause-binary : goal.related-requires-clause-binary
related-requires-clause-binary c =
    below_later c.part.new.bank c.either.new.bank c.either.ensures.extends (get same_variable c.in-Ok-attempt.field-0.terms) (c.in-Ok-attempt.ensures.part c.requires.main.0 c.requires.main.1).terms.below

pub returns-4-clause-added : goal.returns-4-clause-added
returns-4-clause-added c = λ k o t w is h sight.
    let b0 = c.args.bank.now in
    let b1 = c.part.new.bank in
    let b2 = c.either.new.bank in
    let b3 = c.related.new.bank in
    let e1 = c.part.ensures.extends in
    let e2 = extends_through b0 b1 b2 e1 c.either.ensures.extends in
    let e3 = extends_through b0 b2 b3 e2 c.related.ensures.extends in
    let there = visits_where w c.args.main.now.visits.now.visits (comes_to c.args.hold.now.nodes.binary) in
    let p = c.in-Ok-attempt.ensures.part w sight in
    let comes = c.in-Ok-attempt-comes.ensures.tree t _ (kept b0 b1 c.args.denied t e1 h) p.condition in
    let holds = c.in-Ok-attempt-holds.ensures.tree k o t there.state (setup_later b0 b2 e2 k o c.args.setup.now is) (kept b0 b2 c.args.denied t e2 h)
    (map_later b1 b2 c.either.ensures.extends (get same_variable c.in-Ok-attempt.field-0.terms) there.state p.terms) in
    on_ok_weaker c.add_two.result
    (λ items. added_two b0 b3 e3 c.args.ids.now.items c.add_two.new.ids.items c.in-Ok-attempt-comes.field-0 c.in-Ok-attempt-holds.field-0 _ _ items (kept b2 b3 c.in-Ok-attempt-comes.field-0 _ c.related.ensures.extends comes) holds) c.add_two.ensures
