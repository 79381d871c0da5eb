use Rattle.std.proofs.Common.{rules, ◌≡◌, ◌⊎◌, inl, inr, ◌++◌, ◌∷◌, ◌∙◌, [], get_or, take, Some, length, refl, ap, sym, subst}
use Rattle.std.specs.Prelude.{slice_get}
use Rattle.std.proofs.lemmas.Option.{slice_get_read}
use Rattle.std.proofs.lemmas.List.{take_more}
use Rattle.clause_check_spec.specs.declared.Literal.{Literal}
use Rattle.clause_check_spec.specs.Clause.{negation}
use Rattle.sat_search_spec.specs.Clauses.{Has}
use Rattle.sat_search_spec.specs.Trail.{IsTrueBefore}
use Rattle.sat_search_spec.specs.Analysis.{IsMarking}
use Rattle.sat_search_spec.proofs.Members.{has_at}
use Rattle.sat_search_analysis.proofs.Markings.{marking_excepted}
use Rattle.sat_search_analysis.proofs.marks.mark_clause.Goals as goal
use Rattle.sat_search_analysis.proofs.marks.mark_clause.Goals.{then-not-is_same, else-not-is_same}

pub loop-literal-preserved : goal.loop-literal-preserved
loop-literal-preserved c = λ others.
    let entries = c.args.trail.now.entries in
    let i = c.loop-literal.literal-index in
    let l = c.literal-item.result in
    let more = take_more c.args.clause.now i l c.loop-literal-test.true ∙ ap (λ m. take i c.args.clause.now ++ m ∷ []) (sym c.literal-item.is) in
    let has : Has c.args.clause.now l = has_at c.args.clause.now i l (slice_get_read c.args.clause.now (length c.args.clause.now) i l refl c.loop-literal-test.true c.literal-item.is) in
    let so_far = c.loop-literal.invariant others in
    subst (λ clause. IsMarking entries clause c.args.excepted c.args.marks.now c.if-not-is_same.marks) (sym more)
    (elim c.if-not-is_same.branch as (λ _. IsMarking entries (take i c.args.clause.now ++ l ∷ []) c.args.excepted c.args.marks.now c.if-not-is_same.marks) [
      | then-not-is_same w ↦
          let other : (l ≡ c.args.excepted) → ⊥ = search rules in
          let before : IsTrueBefore entries (length entries) (negation l) =
          (elim (others l has) as (λ _. IsTrueBefore entries (length entries) (negation l)) [ inl e ↦ absurd (other e) | inr b ↦ b ])
          in
          subst (λ marks. IsMarking entries (take i c.args.clause.now ++ l ∷ []) c.args.excepted c.args.marks.now marks) (sym w.marks-is)
          (w.mark_literal.ensures.marking (take i c.args.clause.now) c.args.excepted c.args.marks.now so_far before)
      | else-not-is_same w ↦
          let same : l ≡ c.args.excepted = search rules in
          subst (λ marks. IsMarking entries (take i c.args.clause.now ++ l ∷ []) c.args.excepted c.args.marks.now marks) (sym w.marks-is)
          (marking_excepted entries (take i c.args.clause.now) c.args.excepted l c.args.marks.now c.loop-literal.marks same so_far)
    ])
