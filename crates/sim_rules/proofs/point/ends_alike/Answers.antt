use Rattle.std.proofs.Common.{refl}
use Rattle.term_bank.proofs.Substitution.{kept, extends_through}
use Rattle.sim_rules_terms.specs.Which.{test_of}
use Rattle.sim_rules_terms.proofs.Later.{part_later, sight_later}
use Rattle.sim_rules.specs.Stops.{binary_visits, source_visits, stop_at}
use Rattle.sim_rules.proofs.AtStops.{parts_in, within_later}
use Rattle.sim_rules.proofs.point.ends_alike.Goals as goal

pub part-requires : goal.part-requires
part-requires c = c.requires.some_binary

pub part-requires-2 : goal.part-requires-2
part-requires-2 c =
    (c.requires.some_source.0, sight_later c.args.bank.now c.part.new.bank c.part.ensures.extends c.requires.some_source.0 c.args.meeting.now.source c.requires.some_source.1)

pub alike-requires-clause-denied : goal.alike-requires-clause-denied
alike-requires-clause-denied c =
    let b0 = c.args.bank.now in
    let b2 = c.part-2.new.bank in
    within_later b0 b2 (extends_through b0 c.part.new.bank b2 c.part.ensures.extends c.part-2.ensures.extends) c.args.meeting.now.denied c.requires.denied_in

pub alike-requires-clause-parts : goal.alike-requires-clause-parts
alike-requires-clause-parts c =
    let b0 = c.args.bank.now in
    let b1 = c.part.new.bank in
    let b2 = c.part-2.new.bank in
    let m = c.args.meeting.now in
    let a = c.requires.some_binary.0 in
    let d = c.requires.some_source.0 in
    let p = part_later b1 b2 c.part-2.ensures.extends a (binary_visits m) (test_of a.walk.stops c.args.point.now.binary) c.in-Ok-attempt.field-0 (c.in-Ok-attempt.ensures.part a c.requires.some_binary.1) in
    let q = c.in-Ok-attempt-source.ensures.part d (sight_later b0 b1 c.part.ensures.extends d m.source c.requires.some_source.1) in
    parts_in b2 a d (binary_visits m) (source_visits m) (test_of a.walk.stops c.args.point.now.binary) (test_of d.walk.stops c.args.point.now.source) c.in-Ok-attempt.field-0 c.in-Ok-attempt-source.field-0 p q

pub returns-3-clause-tree : goal.returns-3-clause-tree
returns-3-clause-tree c = λ t k a d is.
    let b0 = c.args.bank.now in
    let b1 = c.part.new.bank in
    let b2 = c.part-2.new.bank in
    let m = c.args.meeting.now in
    let p = part_later b1 b2 c.part-2.ensures.extends a (binary_visits m) (test_of a.walk.stops c.args.point.now.binary) c.in-Ok-attempt.field-0 (c.in-Ok-attempt.ensures.part a is.of_binary) in
    let q = c.in-Ok-attempt-source.ensures.part d (sight_later b0 b1 c.part.ensures.extends d m.source is.of_source) in
    c.alike.ensures.tree t k a d (binary_visits m) (source_visits m) (stop_at a d c.args.point.now)
    (kept b0 b2 m.denied t (extends_through b0 b1 b2 c.part.ensures.extends c.part-2.ensures.extends) is.denied_is)
    (record { memory_is = is.memory_is; lines_are = refl; of_binary = p; of_source = q })
