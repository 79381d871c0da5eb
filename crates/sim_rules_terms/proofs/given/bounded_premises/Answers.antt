use Rattle.std.proofs.Common.{◌≡◌, ◌++◌, List, true, map, sym, subst}
use Rattle.std.specs.List.{fold}
use Rattle.term_core_spec.specs.Term.{Term, and_term, truth}
use Rattle.term_core_spec.specs.Substitution.{substituted}
use Rattle.term_bank.proofs.Substitution.{extends_through}
use Rattle.term_substitution.specs.States.{IsAt}
use Rattle.graph_core_spec.specs.declared.Mark.{Mark}
use Rattle.proof_tree_spec.specs.Frames.{Start}
use Rattle.proof_tree.specs.declared.frame.Premise.{Premise}
use Rattle.proof_tree.specs.Frames.{mark_of, premise_of}
use Rattle.sim_rules_spec.specs.Rules.{terms_at_start, unbroken_if}
use Rattle.sim_rules_terms.proofs.Folds.{fold_three}
use Rattle.sim_rules_terms.proofs.Later.{seen_later}
use Rattle.sim_rules_terms.proofs.given.bounded_premises.Goals as goal

pub and_bounds_if-requires-clause-sight : goal.and_bounds_if-requires-clause-sight
and_bounds_if-requires-clause-sight c =
    (c.requires.binary.0, seen_later c.args.bank.now c.frame_premises.new.bank c.frame_premises.ensures.extends c.requires.binary.0 c.args.binary c.requires.binary.1)

pub and_bounds_if-requires-2-clause-sight : goal.and_bounds_if-requires-2-clause-sight
and_bounds_if-requires-2-clause-sight c = (
  c.requires.source.0,
  seen_later c.args.bank.now c.and_bounds_if.new.bank (extends_through c.args.bank.now c.frame_premises.new.bank c.and_bounds_if.new.bank c.frame_premises.ensures.extends c.and_bounds_if.ensures.extends)
      c.requires.source.0 c.args.source c.requires.source.1,
)

pub returns-clause-tree : goal.returns-clause-tree
returns-clause-tree c = λ o f a d opening start of_a of_d.
    let b0 = c.args.bank.now in
    let b1 = c.frame_premises.new.bank in
    let b2 = c.and_bounds_if.new.bank in
    let e1 = c.frame_premises.ensures.extends in
    let e2 = extends_through b0 b1 b2 e1 c.and_bounds_if.ensures.extends in
    let given = λ (ps : List Premise) (bs cs : List Mark). fold and_term (truth true)
    (map (substituted (terms_at_start o)) (map premise_of ps) ++ (unbroken_if a.way a.visits (map mark_of bs) ++ unbroken_if d.way d.visits (map mark_of cs))) in
    let first = c.in_ok-given.ensures.tree o opening in
    let second = c.in_ok-given-2.ensures.tree a _ (seen_later b0 b1 e1 a c.args.binary of_a) first in
    let third = c.and_bounds_if-2.ensures.tree d _ (seen_later b0 b2 e2 d c.args.source of_d) second in
    let all = subst (IsAt c.and_bounds_if-2.new.bank c.and_bounds_if-2.result)
    (fold_three (truth true) (map (substituted (terms_at_start o)) (map premise_of c.as_slice.result.now)) (unbroken_if a.way a.visits (map mark_of c.as_slice-2.result.now)) (unbroken_if d.way d.visits (map mark_of c.as_slice-3.result.now))) third in
    let one = subst (λ (ps : List Premise). IsAt c.and_bounds_if-2.new.bank c.and_bounds_if-2.result (given ps c.as_slice-2.result.now c.as_slice-3.result.now)) c.as_slice.ensures.value all in
    let two = subst (λ (bs : List Mark). IsAt c.and_bounds_if-2.new.bank c.and_bounds_if-2.result (given c.args.start.now.premises.items bs c.as_slice-3.result.now)) c.as_slice-2.ensures.value one in
    let three = subst (λ (cs : List Mark). IsAt c.and_bounds_if-2.new.bank c.and_bounds_if-2.result (given c.args.start.now.premises.items c.args.start.now.binary_bounds.items cs)) c.as_slice-3.ensures.value two in
    subst (λ (s : Start). IsAt c.and_bounds_if-2.new.bank c.and_bounds_if-2.result
    (fold and_term (truth true) (map (substituted (terms_at_start o)) s.premises ++ (unbroken_if a.way a.visits s.binary_bounds ++ unbroken_if d.way d.visits s.source_bounds)))) (sym start) three
