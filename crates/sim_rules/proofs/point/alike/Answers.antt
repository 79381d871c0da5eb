use Rattle.term_bank.proofs.Substitution.{kept, extends_through}
use Rattle.sim_rules.proofs.AtStops.{within_later}
use Rattle.sim_rules.proofs.point.alike.Goals as goal

pub both-requires-clause-a : goal.both-requires-clause-a
both-requires-clause-a c = within_later c.args.bank.now c.related_if.new.bank c.related_if.ensures.extends c.args.binary.now.condition c.requires.parts.of_binary

pub both-requires-clause-b : goal.both-requires-clause-b
both-requires-clause-b c = within_later c.args.bank.now c.related_if.new.bank c.related_if.ensures.extends c.args.source.now.condition c.requires.parts.of_source

pub returns-4-clause-tree : goal.returns-4-clause-tree
returns-4-clause-tree c = λ t k a d v w s h is.
    let b0 = c.args.bank.now in
    let b1 = c.related_if.new.bank in
    let b2 = c.both.new.bank in
    let b3 = c.implication.new.bank in
    let e1 = c.related_if.ensures.extends in
    let e3 = extends_through b0 b2 b3 (extends_through b0 b1 b2 e1 c.both.ensures.extends) c.implication.ensures.extends in
    let p = c.args.binary.now in
    let q = c.args.source.now in
    let related = kept b1 b2 c.in-Ok-attempt.field-0 _ c.both.ensures.extends (c.in-Ok-attempt.ensures.tree k a d v w s is) in
    let there = c.in-Ok-attempt-there.ensures.tree _ _ (kept b0 b1 p.condition _ e1 is.of_binary.condition) (kept b0 b1 q.condition _ e1 is.of_source.condition) in
    c.either.ensures.tree t _ (kept b0 b3 c.args.meeting.now.denied t e3 h) (c.in-Ok-attempt-alike.ensures.tree _ _ there related)
