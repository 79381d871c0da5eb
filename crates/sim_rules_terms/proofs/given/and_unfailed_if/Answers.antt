use Rattle.std.proofs.Common.{◌≡◌, List, Option, Some, None, sym, subst}
use Rattle.std.specs.List.{fold}
use Rattle.term_core_spec.specs.Term.{and_term}
use Rattle.term_bank.specs.Nodes.{Holds}
use Rattle.term_bank.proofs.Substitution.{kept, extends_through}
use Rattle.term_substitution.specs.States.{IsAt}
use Rattle.visit_walk_spec.specs.Visits.{Visit}
use Rattle.sim_rules_spec.specs.Rules.{Seen, unfailed_if}
use Rattle.sim_rules_terms.specs.Seen.{IsSeen}
use Rattle.sim_rules_terms.proofs.given.and_unfailed_if.Goals as goal

pub condition-requires : goal.condition-requires
condition-requires c =
    let s : Seen = c.requires.sight.0 in
    let at : IsSeen c.args.bank.now s (Some c.in-Some.sight) = subst (IsSeen c.args.bank.now s) c.in-Some.is c.requires.sight.1 in (s.way, at.1)

pub returns-in_ok-holds-in-Some-clause-tree : goal.returns-in_ok-holds-in-Some-clause-tree
returns-in_ok-holds-in-Some-clause-tree c = λ s t is h.
    let b0 = c.args.bank.now in
    let b1 = c.condition.new.bank in
    let b2 = c.negation.new.bank in
    let at : IsSeen b0 s (Some c.in-Some.sight) = subst (IsSeen b0 s) c.in-Some.is is in
    let both = c.both.ensures.tree t _ (kept b0 b2 c.args.first t (extends_through b0 b1 b2 c.condition.ensures.extends c.negation.ensures.extends) h)
    (c.in_ok-holds-in-Some.ensures.tree _ (c.in_ok-fails-in-Some.ensures.tree s.way at.1)) in
    subst (λ (o : Option (List Visit)). IsAt c.both.new.bank c.both.result (fold and_term t (unfailed_if s.way o))) (sym at.0) both

pub returns-in-None-clause-tree : goal.returns-in-None-clause-tree
returns-in-None-clause-tree c = λ s t is h.
    let at : IsSeen c.args.bank.now s None = subst (IsSeen c.args.bank.now s) c.in-None.is is in
    subst (λ (o : Option (List Visit)). Holds c.args.bank.now c.args.first (fold and_term t (unfailed_if s.way o))) (sym at) h
