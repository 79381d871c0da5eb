use Rattle.std.proofs.Common.{rules, ◌≡◌, ◌-◌, ◌∙◌, false, length, replicate, drop, ap, sym, subst}
use Rattle.std.proofs.lemmas.List.{take_at, length-replicate}
use Rattle.sat_search_spec.specs.Analysis.{IsMarked}
use Rattle.sat_search_analysis.specs.Explained.{IsConflictMarked}
use Rattle.sat_search_analysis.proofs.Markings.{clause_of, none_of_replicate}
use Rattle.sat_search_analysis.proofs.Explanations.{conflict_marked}
use Rattle.sat_search_analysis.proofs.analysis.conflict_marks.Goals as goal

pub mark_clause-requires-clause-of_variables : goal.mark_clause-requires-clause-of_variables
mark_clause-requires-clause-of_variables c =
    clause_of c.args.trail.now.variables c.args.clauses.now.clauses (c.args.conflict - 1) c.clause.result.now c.requires.sound.of_variables c.clause.ensures

pub returns : goal.returns
returns c =
    let all : c.in_ok-marks.marks.items ≡ replicate c.len.result false = c.in_ok-marks.ensures.items_if_clones_equal (search rules) in
    let first : c.as_mut_slice.result.now ≡ replicate c.len.result false = c.as_mut_slice.ensures.value ∙ all in
    let size : length c.as_mut_slice.result.now ≡ length c.args.trail.now.entries = ap length first ∙ length-replicate c.len.result false ∙ c.len.ensures in
    let variable : c.new-foreign.result.variable ≡ 0 = ap (λ l. l.variable) c.new-foreign.ensures in
    let marked =
    conflict_marked c.args.clauses.now.clauses c.args.trail.now c.args.conflict c.clause.result.now c.new-foreign.result c.as_mut_slice.result.now c.mark_clause.new.marks
    c.requires.sound c.requires.conflict c.clause.ensures variable
    (λ i m. none_of_replicate c.len.result i (subst (λ xs. IsMarked xs i) first m)) size c.mark_clause.ensures.marking
    in
    let count : length c.mark_clause.new.marks ≡ c.in_ok-marks.marks.len = search rules in
    subst (λ m. IsConflictMarked c.args.clauses.now.clauses c.args.trail.now c.args.conflict m)
    (sym (take_at c.mark_clause.new.marks (drop (length c.mark_clause.new.marks) c.in_ok-marks.marks.items) c.in_ok-marks.marks.len count))
    marked
