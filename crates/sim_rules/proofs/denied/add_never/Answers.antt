use Rattle.std.proofs.Common.{List, Option, sym, subst}
use Rattle.visit_walk_spec.specs.Visits.{Visit}
use Rattle.sim_rules_terms.specs.Seen.{IsSeen}
use Rattle.sim_rules_terms.specs.Which.{test_of}
use Rattle.sim_rules_terms.proofs.Later.{itself}
use Rattle.sim_rules.specs.Held.{HasAdded}
use Rattle.sim_rules.specs.Terms.{never_in}
use Rattle.sim_rules.proofs.Held.{added_none, added_one}
use Rattle.sim_rules.proofs.denied.add_never.Goals as goal

pub never-requires-clause-sight : goal.never-requires-clause-sight
never-requires-clause-sight c =
    let seen = subst (IsSeen c.args.bank.now c.requires.sight.0) c.in-Some.is c.requires.sight.1 in
    (c.requires.sight.0.way, seen.1)

pub returns-in-Ok-attempt-2-clause-added : goal.returns-in-Ok-attempt-2-clause-added
returns-in-Ok-attempt-2-clause-added c = λ s t is h.
    let b0 = c.args.bank.now in
    let b1 = c.never.new.bank in
    let seen = subst (IsSeen b0 s) c.in-Some.is is in
    subst (λ (x : Option (List Visit)). HasAdded b0 b1 (never_in t s.way x (test_of s.way.walk.stops c.args.which)) c.args.ids.now.items c.push.new.self.items) (sym seen.0)
    (added_one b0 b1 c.never.ensures.extends c.args.ids.now.items c.push.new.self.items c.in-Ok-attempt.field-0 _ c.in-Ok-attempt-2.ensures.items (c.in-Ok-attempt.ensures.tree s.way t seen.1 h))

pub returns-in-None-clause-added : goal.returns-in-None-clause-added
returns-in-None-clause-added c = λ s t is h.
    let b0 = c.args.bank.now in
    subst (λ (x : Option (List Visit)). HasAdded b0 b0 (never_in t s.way x (test_of s.way.walk.stops c.args.which)) c.args.ids.now.items c.args.ids.now.items) (sym (subst (IsSeen b0 s) c.in-None.is is))
    (added_none b0 b0 (itself b0) c.args.ids.now.items)
