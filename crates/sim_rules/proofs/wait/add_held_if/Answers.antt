use Rattle.std.proofs.Common.{List, Option, OnOk, sym, subst}
use Rattle.visit_walk_spec.specs.Visits.{Visit}
use Rattle.proof_tree.specs.Frames.{hold_of}
use Rattle.sim_rules_terms.specs.Seen.{IsSeen}
use Rattle.sim_rules_terms.proofs.Later.{itself}
use Rattle.sim_rules.specs.Held.{HasAdded}
use Rattle.sim_rules.specs.Terms.{held_terms_if}
use Rattle.sim_rules.proofs.Held.{added_none}
use Rattle.sim_rules.proofs.wait.add_held_if.Goals as goal

pub add_held-requires-clause-opening : goal.add_held-requires-clause-opening
add_held-requires-clause-opening c = c.requires.see.opening

pub add_held-requires-clause-main : goal.add_held-requires-clause-main
add_held-requires-clause-main c =
    let a = c.requires.see.some_binary in
    (a.0.way, (subst (IsSeen c.args.bank.now a.0) c.in-Some.is a.1).1)

pub returns-in-Some-clause-added : goal.returns-in-Some-clause-added
returns-in-Some-clause-added c = λ k o a d t is are h.
    let seen = subst (IsSeen c.args.bank.now a) c.in-Some.is are.binary in
    subst (λ (x : Option (List Visit)). OnOk c.add_held.result (HasAdded c.args.bank.now c.add_held.new.bank (held_terms_if t k o a.way x (hold_of c.args.hold.now)) c.args.ids.now.items c.add_held.new.ids.items)) (sym seen.0)
    (c.add_held.ensures.added k o t a.way is h seen.1)

pub returns-in-None-clause-added : goal.returns-in-None-clause-added
returns-in-None-clause-added c = λ k o a d t is are h.
    let b0 = c.args.bank.now in
    subst (λ (x : Option (List Visit)). HasAdded b0 b0 (held_terms_if t k o a.way x (hold_of c.args.hold.now)) c.args.ids.now.items c.args.ids.now.items) (sym (subst (IsSeen b0 a) c.in-None.is are.binary))
    (added_none b0 b0 (itself b0) c.args.ids.now.items)
