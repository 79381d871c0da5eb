use Rattle.std.proofs.Common.{rules, ◌≡◌, ◌-◌, ◌+◌, ◌++◌, ◌∷◌, [], sym, subst}
use Rattle.sat_search_analysis.specs.Explained.{ExplainsBack}
use Rattle.sat_search_analysis.proofs.Markings.{clause_of}
use Rattle.sat_search_analysis.proofs.Explanations.{reason_within, reason_marking, resolved}
use Rattle.sat_search_analysis.proofs.resolution.resolve.Goals as goal

pub clause-requires : goal.clause-requires
clause-requires c =
    reason_within c.args.clauses.now.clauses c.args.trail.now c.args.place c.entry-entry.result c.requires.sound c.entry-entry.ensures
    (c.requires.forced c.entry-entry.result c.entry-entry.ensures)

pub mark_clause-requires-clause-of_variables : goal.mark_clause-requires-clause-of_variables
mark_clause-requires-clause-of_variables c =
    clause_of c.args.trail.now.variables c.args.clauses.now.clauses (c.entry-entry.result.reason - 1) c.clause.result.now c.requires.sound.of_variables c.clause.ensures

pub returns-in_err-push-clause-kept : goal.returns-in_err-push-clause-kept
returns-in_err-push-clause-kept c =
    (reason_marking c.args.clauses.now.clauses c.args.trail.now c.args.place c.entry-entry.result c.clause.result.now c.args.marks.now c.mark_clause.new.marks
    c.requires.sound c.entry-entry.ensures (c.requires.forced c.entry-entry.result c.entry-entry.ensures) c.clause.ensures c.mark_clause.ensures.marking).kept

pub returns-clause-kept : goal.returns-clause-kept
returns-clause-kept c =
    (reason_marking c.args.clauses.now.clauses c.args.trail.now c.args.place c.entry-entry.result c.clause.result.now c.args.marks.now c.mark_clause.new.marks
    c.requires.sound c.entry-entry.ensures (c.requires.forced c.entry-entry.result c.entry-entry.ensures) c.clause.ensures c.mark_clause.ensures.marking).kept

pub returns-clause-explains : goal.returns-clause-explains
returns-clause-explains c = λ learnt marked explains.
    let positive = c.requires.forced c.entry-entry.result c.entry-entry.ensures in
    let marking =
    reason_marking c.args.clauses.now.clauses c.args.trail.now c.args.place c.entry-entry.result c.clause.result.now c.args.marks.now c.mark_clause.new.marks
    c.requires.sound c.entry-entry.ensures positive c.clause.ensures c.mark_clause.ensures.marking
    in
    let pushed : c.push.new.self.items ≡ c.args.hints.now.items ++ c.entry-entry.result.reason ∷ [] = search rules in
    subst (λ h. ExplainsBack c.args.clauses.now.clauses c.args.trail.now c.mark_clause.new.marks learnt h c.args.place) (sym pushed)
    (resolved c.args.clauses.now.clauses c.args.trail.now c.args.place c.entry-entry.result c.clause.result.now c.args.marks.now c.mark_clause.new.marks learnt
    c.args.hints.now.items c.requires.sound c.entry-entry.ensures positive c.clause.ensures marking marked explains)
