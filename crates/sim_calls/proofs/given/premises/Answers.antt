use Rattle.std.proofs.Common.{◌≡◌, List, true, map, subst}
use Rattle.std.specs.HashMap.{get}
use Rattle.term_core_spec.specs.Same.{same_variable}
use Rattle.term_core_spec.specs.Substitution.{substituted}
use Rattle.term_core_spec.specs.Term.{Term, truth}
use Rattle.term_bank.proofs.Substitution.{extends_through}
use Rattle.term_substitution.specs.States.{IsAt}
use Rattle.proof_tree.specs.Frames.{terms_of}
use Rattle.sim_rules_spec.specs.Rules.{at_cut, terms_at_start}
use Rattle.sim_rules_terms.proofs.TwoMaps.{start_map}
use Rattle.sim_calls.proofs.Banks.{cut_later}
use Rattle.sim_rules_terms.proofs.Folds.{fold_both}
use Rattle.sim_calls.proofs.given.premises.Goals as goal

pub and_lines-requires-clause-terms : goal.and_lines-requires-clause-terms
and_lines-requires-clause-terms c =
    let b1 = c.truth.new.bank in
    let k = c.requires.0 in
    let is = cut_later c.args.bank.now b1 c.truth.ensures.extends k c.args.cut.now c.requires.1 in
    (start_map (get same_variable c.args.cut.now.binary) (get same_variable c.args.cut.now.source) b1 (at_cut k).binary (at_cut k).source is.of_binary is.of_source).below

pub and_lines-requires-2-clause-terms : goal.and_lines-requires-2-clause-terms
and_lines-requires-2-clause-terms c =
    let b0 = c.args.bank.now in
    let b2 = c.and_lines.new.bank in
    let k = c.requires.0 in
    let is = cut_later b0 b2 (extends_through b0 c.truth.new.bank b2 c.truth.ensures.extends c.and_lines.ensures.extends) k c.args.cut.now c.requires.1 in
    (start_map (get same_variable c.args.cut.now.binary) (get same_variable c.args.cut.now.source) b2 (at_cut k).binary (at_cut k).source is.of_binary is.of_source).below

pub returns-clause-tree : goal.returns-clause-tree
returns-clause-tree c = λ k is.
    let b0 : List Term = c.args.bank.now in
    let b1 : List Term = c.truth.new.bank in
    let b2 : List Term = c.and_lines.new.bank in
    let e1 = c.truth.ensures.extends in
    let A = get same_variable c.args.cut.now.binary in
    let C = get same_variable c.args.cut.now.source in
    let is1 = cut_later b0 b1 e1 k c.args.cut.now is in
    let is2 = cut_later b1 b2 c.and_lines.ensures.extends k c.args.cut.now is1 in
    let s = terms_at_start (at_cut k) in
    let first = c.in_ok-all.ensures.tree (truth true) s c.in_ok-always.ensures.tree (start_map A C b1 (at_cut k).binary (at_cut k).source is1.of_binary is1.of_source) in
    let second = c.and_lines-2.ensures.tree _ s first (start_map A C b2 (at_cut k).binary (at_cut k).source is2.of_binary is2.of_source) in
    subst (IsAt c.and_lines-2.new.bank c.and_lines-2.result) (fold_both (substituted s) (truth true) (terms_of c.args.entry.now) (terms_of c.args.before.now)) second
