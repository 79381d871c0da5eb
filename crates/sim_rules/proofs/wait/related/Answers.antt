use Rattle.std.proofs.Common.{◌∙◌, [], ◌∷◌, ◌++◌, map, sym, ap, subst}
use Rattle.term_core_spec.specs.Term.{Term, or_term}
use Rattle.term_core_spec.specs.Substitution.{substituted}
use Rattle.term_core.specs.Trees.{term_of}
use Rattle.term_core.specs.declared.term.Term.{Term as CodeTerm}
use Rattle.term_bank.proofs.Substitution.{kept}
use Rattle.term_substitution.specs.States.{IsAt}
use Rattle.proof_tree.specs.Frames.{terms_of}
use Rattle.sim_rules_spec.specs.Rules.{all_of, terms_at}
use Rattle.sim_rules.proofs.wait.related.Goals as goal

pub returns-2-clause-tree : goal.returns-2-clause-tree
returns-2-clause-tree c = λ k o t s is h of_s.
    let b0 = c.args.bank.now in
    let b1 = c.relation.new.bank in
    let related = c.in-Ok-attempt.ensures.tree s o.source of_s is.opening_is.of_source in
    let same = ap (λ (x : CodeTerm). term_of x) c.deref-memory.ensures ∙ sym is.compared_are.memory_is in
    subst (λ (m : Term). IsAt c.either.new.bank c.either.result (or_term t (all_of (map (substituted (terms_at s o.source)) (terms_of c.args.lines.now ++ m ∷ []))))) same
    (c.either.ensures.tree t _ (kept b0 b1 c.args.denied t c.relation.ensures.extends h) related)
