-- The nodes without marks that follow each node.
use Rattle.std.proofs.Common.{◌≡◌, ℕ, zero, suc, ◌+◌, ◌≤◌, List, [], ◌∷◌, ◌++◌, length, refl, sym, ◌∙◌, ap, subst, inl, inr, arith, length-append}
use Rattle.std.specs.Prelude.{slice_get, unwrap_or, Option, Some, None}
use Rattle.std.proofs.lemmas.Option.{slice_get_past}
use Rattle.graph_core_spec.specs.declared.Next.TheVariants as next
use Rattle.graph_core_spec.specs.declared.Mark.{Mark}
use Rattle.visit_walk_spec.specs.declared.Successors.TheVariants.{One}
use Rattle.visit_walk_spec.specs.Shape.{Shape}
use Rattle.visit_walk.specs.declared.depth_first.Targets.{Targets}
use Rattle.visit_walk.specs.declared.depth_first.Targets.TheVariants as targets
use Rattle.visit_walk.specs.Search.{numbers_of, numbers_at}
use Rattle.visit_walk.specs.Nodes.{rounds, rounds_at, AreRounds}
use Rattle.visit_walk.proofs.Lists.{holds-cases}

pub record AreRoundsBelow (shape : Shape) (marks : List Mark) (count : ℕ) (found : List Targets) : Type 0 where
  pub number : length found ≡ count
  pub each : (n : ℕ) (t : Targets) → slice_get found n ≡ Some t → numbers_of t ≡ rounds_at shape marks n

pub rounds_begin : (shape : Shape) (marks : List Mark) (found : List Targets) → found ≡ [] → AreRoundsBelow shape marks 0 found
rounds_begin shape marks found e = record {
  number = ap length e;
  each = λ n t h. absurd (let nothing = subst (λ l. slice_get l n ≡ Some t) e h in cc);
}

pub rounds_next : (shape : Shape) (marks : List Mark) (count : ℕ) (found : List Targets) (t : Targets) → AreRoundsBelow shape marks count found
    → numbers_of t ≡ rounds_at shape marks count → AreRoundsBelow shape marks (count + 1) (found ++ t ∷ [])
rounds_next shape marks count found t r e = record {
  number = omega (arith, length-append found (t ∷ []), r.number);
  each = λ n u h. elim (holds-cases found (t ∷ []) n u h) [ inl old ↦ r.each n u old | inr (j, at, last) ↦ one n j u at last ];
}
  where
    one : (n j : ℕ) (u : Targets) → n ≡ length found + j → slice_get (t ∷ []) j ≡ Some u → numbers_of u ≡ rounds_at shape marks n
    one n zero u at h =
        let same : t ≡ u = cc in
        let here : count ≡ n = omega (arith, at, r.number) in
        subst (λ z. numbers_of z ≡ rounds_at shape marks n) same (subst (λ k. numbers_of t ≡ rounds_at shape marks k) here e)
    one n (suc j) u at h = absurd (cc)

pub rounds_all : (shape : Shape) (marks : List Mark) (count : ℕ) (found : List Targets) → AreRoundsBelow shape marks count found → length shape ≤ count → AreRounds shape marks found
unfolding numbers_at
rounds_all shape marks count found r all n = at (slice_get found n) refl
  where
    at : (o : Option Targets) → slice_get found n ≡ o → numbers_of (unwrap_or (slice_get found n) targets.Zero) ≡ rounds_at shape marks n
    at (Some t) e = ap (λ o. numbers_of (unwrap_or o targets.Zero)) e ∙ r.each n t e
    at None e =
        ap (λ o. numbers_of (unwrap_or o targets.Zero)) e
        ∙ sym (ap (λ o. rounds marks n (unwrap_or o (One next.Err))) (slice_get_past shape n (omega (arith, all, r.number, past n e))))
      where
        past : (n : ℕ) → slice_get found n ≡ None → length found ≤ n
        past n e = longer found n e
          where
            longer : (xs : List Targets) (n : ℕ) → slice_get xs n ≡ None → length xs ≤ n
            longer [] n e = omega arith
            longer (x ∷ xs) zero e = absurd (cc)
            longer (x ∷ xs) (suc n) e = let rest = longer xs n e in omega (arith, rest)
