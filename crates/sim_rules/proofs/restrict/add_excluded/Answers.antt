use Rattle.std.proofs.Common.{◌≡◌, ℕ, length, map, OnOk, arith, sym, subst}
use Rattle.std.proofs.lemmas.List.{length-map}
use Rattle.std.proofs.lemmas.Result.{on_ok_weaker}
use Rattle.term_core_spec.specs.Term.{Term}
use Rattle.proof_tree.specs.Frames.{frame_of, mark_of}
use Rattle.sim_rules_spec.specs.Rules.{premise_terms}
use Rattle.sim_rules_spec.specs.Sides.{breaks}
use Rattle.sim_rules_spec.specs.declared.Side.{Side}
use Rattle.sim_rules_terms.specs.Held.{AreHeld}
use Rattle.sim_rules.specs.Held.{HasAdded}
use Rattle.sim_rules.specs.Sides.{bounds_at}
use Rattle.sim_rules.specs.Terms.{denial, main_seen, never_if, restrict_all}
use Rattle.sim_rules.proofs.Held.{added_all}
use Rattle.sim_rules.proofs.Seen.{both_later, can_later}
use Rattle.sim_rules.proofs.restrict.add_excluded.Goals as goal

pub add_never-requires-clause-sight : goal.add_never-requires-clause-sight
add_never-requires-clause-sight c = (can_later c.args.bank.now c.denied.new.bank c.denied.ensures.extends c.args.both.now c.requires.see).some_binary

pub returns-in-Binary-clause-terms : goal.returns-in-Binary-clause-terms
returns-in-Binary-clause-terms c = λ k o a d is are.
    let b0 = c.args.bank.now in
    let b1 = c.denied.new.bank in
    let call = c.add_never in
    let both = c.args.both.now in
    let f = frame_of both.setup.now.frame.now in
    let t : Term = denial (premise_terms o f a d) in
    let t_is = c.in-Ok-attempt.ensures.tree o a d is.opening_is are in
    let bounds = both.setup.now.frame.now.start.binary_bounds.items in
    let count : c.len.result ≡ length (map mark_of bounds) = omega (arith, c.len.ensures, both.setup.now.frame.now.start.binary_bounds.ok.0, length-map bounds mark_of) in
    let main = a in
    subst (λ (s : Side). OnOk call.result (AreHeld call.new.bank call.new.ids.items (restrict_all o f a d (main_seen s a d) (bounds_at f s) c.args.bound))) (sym c.in-Binary.is)
    (on_ok_weaker call.result
    (λ added. added_all b1 call.new.bank _ c.args.ids.now.items call.new.ids.items c.requires.ids
    (subst (λ (n : ℕ). HasAdded b1 call.new.bank (never_if t main (breaks main.way.walk c.args.bound n)) c.args.ids.now.items call.new.ids.items) count added))
    (call.ensures.added main t (both_later b0 b1 c.denied.ensures.extends a d both are).binary t_is))

pub add_never-requires-in-Source-clause-sight : goal.add_never-requires-in-Source-clause-sight
add_never-requires-in-Source-clause-sight c = (can_later c.args.bank.now c.denied.new.bank c.denied.ensures.extends c.args.both.now c.requires.see).some_source

pub returns-in-Source-clause-terms : goal.returns-in-Source-clause-terms
returns-in-Source-clause-terms c = λ k o a d is are.
    let b0 = c.args.bank.now in
    let b1 = c.denied.new.bank in
    let call = c.add_never-in-Source in
    let both = c.args.both.now in
    let f = frame_of both.setup.now.frame.now in
    let t : Term = denial (premise_terms o f a d) in
    let t_is = c.in-Ok-attempt.ensures.tree o a d is.opening_is are in
    let bounds = both.setup.now.frame.now.start.source_bounds.items in
    let count : c.len-in-Source.result ≡ length (map mark_of bounds) = omega (arith, c.len-in-Source.ensures, both.setup.now.frame.now.start.source_bounds.ok.0, length-map bounds mark_of) in
    let main = d in
    subst (λ (s : Side). OnOk call.result (AreHeld call.new.bank call.new.ids.items (restrict_all o f a d (main_seen s a d) (bounds_at f s) c.args.bound))) (sym c.in-Source.is)
    (on_ok_weaker call.result
    (λ added. added_all b1 call.new.bank _ c.args.ids.now.items call.new.ids.items c.requires.ids
    (subst (λ (n : ℕ). HasAdded b1 call.new.bank (never_if t main (breaks main.way.walk c.args.bound n)) c.args.ids.now.items call.new.ids.items) count added))
    (call.ensures.added main t (both_later b0 b1 c.denied.ensures.extends a d both are).source t_is))
