use Rattle.std.proofs.lemmas.Result.{on_ok_weaker}
use Rattle.term_core_spec.specs.Term.{Term}
use Rattle.term_bank.proofs.Substitution.{kept, extends_through}
use Rattle.proof_tree.specs.Frames.{frame_of}
use Rattle.sim_rules_spec.specs.Rules.{premise_terms}
use Rattle.sim_rules.specs.Terms.{denial}
use Rattle.sim_rules.proofs.Held.{added_all, added_then}
use Rattle.sim_rules.proofs.Seen.{both_later, can_later}
use Rattle.sim_rules.proofs.leaf.add_leaf.Goals as goal

pub add_never-requires-clause-sight : goal.add_never-requires-clause-sight
add_never-requires-clause-sight c = (can_later c.args.bank.now c.denied.new.bank c.denied.ensures.extends c.args.both.now c.requires.see).some_binary

pub add_met_if-requires-clause-see : goal.add_met_if-requires-clause-see
add_met_if-requires-clause-see c =
    can_later c.args.bank.now c.add_never.new.bank (extends_through c.args.bank.now c.denied.new.bank c.add_never.new.bank c.denied.ensures.extends c.add_never.ensures.extends) c.args.both.now c.requires.see

pub returns-3-clause-terms : goal.returns-3-clause-terms
returns-3-clause-terms c = λ k o a d is are.
    let b0 = c.args.bank.now in
    let b1 = c.denied.new.bank in
    let b2 = c.add_never.new.bank in
    let b3 = c.add_met_if.new.bank in
    let e1 = c.denied.ensures.extends in
    let e2 = extends_through b0 b1 b2 e1 c.add_never.ensures.extends in
    let both = c.args.both.now in
    let i = c.in-Ok-attempt.field-0 in
    let t : Term = denial (premise_terms o (frame_of both.setup.now.frame.now) a d) in
    let t_is = c.in-Ok-attempt.ensures.tree o a d is.opening_is are in
    let first = c.in-Ok-attempt-2.ensures.added a t (both_later b0 b1 e1 a d both are).binary t_is in
    on_ok_weaker c.add_met_if.result
    (λ rest. added_all b1 b3 _ c.args.ids.now.items c.add_met_if.new.ids.items c.requires.ids (added_then b1 b2 b3 _ _ c.args.ids.now.items c.add_never.new.ids.items c.add_met_if.new.ids.items first rest))
    (c.add_met_if.ensures.added k a d t is.compared_are (both_later b0 b2 e2 a d both are) (kept b1 b2 i t c.add_never.ensures.extends t_is))
