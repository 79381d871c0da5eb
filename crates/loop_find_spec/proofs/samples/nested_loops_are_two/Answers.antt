use Rattle.std.proofs.Common.{◌≡◌, ◌<◌, ◌+◌, ℕ, [], ◌∷◌, get_or, refl, sym, subst, inl, inr, arith, lit<}
use Rattle.std.specs.Prelude.{Contains}
use Rattle.visit_walk_spec.proofs.Members.{contained_here, contained_later, contained_cases, only_contained}
use Rattle.loop_find_spec.specs.Loops.{nodes_from}
use Rattle.loop_find_spec.specs.Samples.{nested}
use Rattle.loop_find_spec.proofs.Walked.{walks}
use Rattle.loop_find_spec.proofs.samples.nested_loops_are_two.Goals as goal

swapped : (a b n : ℕ) → Contains (a ∷ b ∷ []) n → Contains (b ∷ a ∷ []) n
swapped a b n c = elim (contained_cases a (b ∷ []) n c) [
  | inl is ↦ contained_later b (a ∷ []) n (subst (Contains (a ∷ [])) (sym is) (contained_here a []))
  | inr other ↦ subst (Contains (b ∷ a ∷ [])) (sym (only_contained b n other)) (contained_here b (a ∷ []))
]

rising : (k : ℕ) → k + 1 < 2 → get_or (1 ∷ 2 ∷ []) k 0 < get_or (1 ∷ 2 ∷ []) (k + 1) 0
rising k less = let first : k ≡ 0 = omega (arith, less) in subst (λ (j : ℕ). get_or (1 ∷ 2 ∷ []) j 0 < get_or (1 ∷ 2 ∷ []) (j + 1) 0) (sym first) (lit< tt)

pub returns : goal.returns
returns c = record {
  left = 0 ∷ 1 ∷ 2 ∷ 5 ∷ 3 ∷ 4 ∷ [];
  heads = 2 ∷ 1 ∷ [];
  walk = walks (nodes_from nested) 20 [] [] (0 ∷ []) (0 ∷ 1 ∷ 2 ∷ 5 ∷ 3 ∷ 4 ∷ []) (2 ∷ 1 ∷ []) refl;
  ascending = λ k less. rising k less;
  are = λ n. (λ here. swapped 1 2 n here, λ here. swapped 2 1 n here);
}
