use Rattle.std.proofs.Common.{◌≡◌, map, subst}
use Rattle.std.specs.List.{fold}
use Rattle.term_core_spec.specs.Term.{and_term}
use Rattle.term_core_spec.specs.Substitution.{substituted}
use Rattle.term_core.specs.Trees.{term_of}
use Rattle.term_bank.proofs.Substitution.{kept, extends_through}
use Rattle.term_substitution.specs.States.{IsAt}
use Rattle.proof_tree.specs.Frames.{terms_of}
use Rattle.sim_rules_terms.proofs.Later.{below_later, map_later}
use Rattle.sim_rules_terms.proofs.Folds.{all_three}
use Rattle.sim_rules_terms.proofs.lines.all_from.Goals as goal

pub and_lines-requires-clause-terms : goal.and_lines-requires-clause-terms
and_lines-requires-clause-terms g c = below_later c.args.bank.now c.line_at.new.bank c.line_at.ensures.extends (g.L.Lookup.terms c.args.terms.now) c.requires

pub line_at-requires-2 : goal.line_at-requires-2
line_at-requires-2 g c =
    below_later c.args.bank.now c.and_lines.new.bank (extends_through c.args.bank.now c.line_at.new.bank c.and_lines.new.bank c.line_at.ensures.extends c.and_lines.ensures.extends)
    (g.L.Lookup.terms c.args.terms.now) c.requires

pub returns-clause-tree : goal.returns-clause-tree
returns-clause-tree g c = λ s is.
    let b0 = c.args.bank.now in
    let b1 = c.line_at.new.bank in
    let b2 = c.and_lines.new.bank in
    let b3 = c.line_at-2.new.bank in
    let ids = g.L.Lookup.terms c.args.terms.now in
    let e1 = c.line_at.ensures.extends in
    let e2 = extends_through b0 b1 b2 e1 c.and_lines.ensures.extends in
    let first = substituted s (term_of c.args.first.now) in
    let last = substituted s (term_of c.args.last.now) in
    let so_far = c.in_ok-all-2.ensures.tree first s (c.in_ok-all.ensures.tree s is) (map_later b0 b1 e1 ids s is) in
    let next = c.in_ok-last.ensures.tree s (map_later b0 b2 e2 ids s is) in
    subst (IsAt c.both.new.bank c.both.result) (all_three (substituted s) (term_of c.args.first.now) (terms_of c.args.rest.now) (term_of c.args.last.now))
    (c.both.ensures.tree (fold and_term first (map (substituted s) (terms_of c.args.rest.now))) last (kept b2 b3 _ _ c.line_at-2.ensures.extends so_far) next)
