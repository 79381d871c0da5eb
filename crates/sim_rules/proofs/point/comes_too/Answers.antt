use Rattle.term_bank.proofs.Substitution.{kept, extends_through}
use Rattle.sim_rules_terms.proofs.Later.{sight_later}
use Rattle.sim_rules.proofs.AtStops.{within_later}
use Rattle.sim_rules.proofs.point.comes_too.Goals as goal

pub condition-requires : goal.condition-requires
condition-requires c = c.requires.some_binary

pub condition-requires-2 : goal.condition-requires-2
condition-requires-2 c =
    (c.requires.some_source.0, sight_later c.args.bank.now c.condition.new.bank c.condition.ensures.extends c.requires.some_source.0 c.args.meeting.now.source c.requires.some_source.1)

pub either-requires-clause-a : goal.either-requires-clause-a
either-requires-clause-a c =
    let b0 = c.args.bank.now in
    let b2 = c.condition-2.new.bank in
    let b3 = c.implication.new.bank in
    within_later b0 b3 (extends_through b0 b2 b3 (extends_through b0 c.condition.new.bank b2 c.condition.ensures.extends c.condition-2.ensures.extends) c.implication.ensures.extends) c.args.meeting.now.denied c.requires.denied_in

pub returns-4-clause-tree : goal.returns-4-clause-tree
returns-4-clause-tree c = λ t k a d is.
    let b0 = c.args.bank.now in
    let b1 = c.condition.new.bank in
    let b2 = c.condition-2.new.bank in
    let b3 = c.implication.new.bank in
    let e1 = c.condition.ensures.extends in
    let e3 = extends_through b0 b2 b3 (extends_through b0 b1 b2 e1 c.condition-2.ensures.extends) c.implication.ensures.extends in
    let p = kept b1 b2 c.in-Ok-attempt.field-0 _ c.condition-2.ensures.extends (c.in-Ok-attempt.ensures.tree a is.of_binary) in
    let q = c.in-Ok-attempt-source.ensures.tree d (sight_later b0 b1 e1 d c.args.meeting.now.source is.of_source) in
    c.either.ensures.tree t _ (kept b0 b3 c.args.meeting.now.denied t e3 is.denied_is) (c.in-Ok-attempt-too.ensures.tree _ _ q p)
