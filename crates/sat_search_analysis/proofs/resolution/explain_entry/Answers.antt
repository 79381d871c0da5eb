use Rattle.std.proofs.Common.{rules, ◌≡◌, ◌++◌, ◌∷◌, [], sym, subst}
use Rattle.clause_check_spec.specs.Clause.{negation}
use Rattle.sat_search_analysis.specs.Explained.{ExplainsBack}
use Rattle.sat_search_analysis.proofs.Explanations.{kept}
use Rattle.sat_search_analysis.proofs.resolution.explain_entry.Goals as goal

pub returns-clause-explains : goal.returns-clause-explains
returns-clause-explains c = λ marked explains.
    let pushed : c.push.new.self.items ≡ c.args.learnt.now.items ++ negation c.entry-entry.result.literal ∷ [] = search rules in
    subst (λ l. ExplainsBack c.args.clauses.now.clauses c.args.trail.now c.args.marks.now l c.args.hints.now.items c.args.place) (sym pushed)
    (kept c.args.clauses.now.clauses c.args.trail.now c.args.marks.now c.args.learnt.now.items c.args.hints.now.items c.args.place c.entry-entry.result
    c.requires.sound c.entry-entry.ensures marked explains)
