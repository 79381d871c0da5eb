use Rattle.std.proofs.Common.{◌≡◌, List, Option, Some, None, sym, subst}
use Rattle.std.specs.List.{fold}
use Rattle.term_core_spec.specs.Term.{and_term}
use Rattle.term_bank.specs.Nodes.{Holds}
use Rattle.term_substitution.specs.States.{IsAt}
use Rattle.visit_walk_spec.specs.Visits.{Visit}
use Rattle.proof_tree.specs.Frames.{mark_of}
use Rattle.sim_rules_spec.specs.Rules.{Seen, unbroken_if}
use Rattle.sim_rules_terms.specs.declared.sight.Sight.{Sight}
use Rattle.sim_rules_terms.specs.Seen.{IsSeen}
use Rattle.std.specs.Prelude.{map}
use Rattle.sim_rules_terms.proofs.given.and_bounds_if.Goals as goal

pub and_bounds-requires-clause-sight : goal.and_bounds-requires-clause-sight
and_bounds-requires-clause-sight c =
    let s : Seen = c.requires.sight.0 in
    let at : IsSeen c.args.bank.now s (Some c.in-Some.sight) = subst (IsSeen c.args.bank.now s) c.in-Some.is c.requires.sight.1 in (s.way, at.1)

pub returns-in-Some-clause-tree : goal.returns-in-Some-clause-tree
returns-in-Some-clause-tree c = λ s t is h.
    let at : IsSeen c.args.bank.now s (Some c.in-Some.sight) = subst (IsSeen c.args.bank.now s) c.in-Some.is is in
    subst (λ (o : Option (List Visit)). IsAt c.and_bounds.new.bank c.and_bounds.result (fold and_term t (unbroken_if s.way o (map mark_of c.args.bounds.now)))) (sym at.0) (c.and_bounds.ensures.tree s.way t at.1 h)

pub returns-in-None-clause-tree : goal.returns-in-None-clause-tree
returns-in-None-clause-tree c = λ s t is h.
    let at : IsSeen c.args.bank.now s None = subst (IsSeen c.args.bank.now s) c.in-None.is is in
    subst (λ (o : Option (List Visit)). Holds c.args.bank.now c.args.first (fold and_term t (unbroken_if s.way o (map mark_of c.args.bounds.now)))) (sym at) h
