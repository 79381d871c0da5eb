-- Globals that aren't placed, marked by their numbers.
use Rattle.std.proofs.Common.{◌≡◌, ◌⊎◌, ◌+◌, ◌-◌, ◌<◌, ◌≤◌, ◌++◌, ◌∷◌, [], ℕ, List, length, get_or, refl, sym, ◌∙◌, ap, subst, inl, inr, arith, true≢false}
use Rattle.std.specs.Prelude.{◌↔◌, Bool, true, false}
use Rattle.std.proofs.lemmas.Bool.{cases_lt}
use Rattle.std.proofs.lemmas.List.{get_or_append_left, get_or-append_right, get_or_past, length-append}
use Rattle.std.proofs.lemmas.Option.{slice_get_within}
use Rattle.elf_read_spec.specs.Image.{Image}
use Rattle.c_types_spec.specs.Core.{Typed}
use Rattle.pair_setup.specs.Globals.{IsMisplacedAt, AreMisplaced}

module _ (image : Image) (unit : Typed) (names : List (List ℕ)) where
  -- each of the first so many is marked where it is to be
  pub record IsMarkedBelow (marks : List Bool) (count : ℕ) : Type 0 where
    pub long : length marks ≡ count
    pub marked : (k : ℕ) → k < count → (get_or marks k false ≡ true) ↔ IsMisplacedAt image unit names k

  pub marked-none : IsMarkedBelow [] 0
  marked-none = record { long = refl; marked = λ k below. absurd (omega (arith, below)) }

  pub marked-more : (marks : List Bool) (count : ℕ) (mark : Bool) → IsMarkedBelow marks count → (mark ≡ true) ↔ IsMisplacedAt image unit names count
      → IsMarkedBelow (marks ++ mark ∷ []) (count + 1)
  marked-more marks count mark so_far is = record {
    long = omega (arith, length-append marks (mark ∷ []), so_far.long);
    marked = λ k below. elim (split k below) [
      | inl before ↦ subst (λ b. (b ≡ true) ↔ IsMisplacedAt image unit names k)
          (sym (get_or_append_left marks (mark ∷ []) false k (omega (arith, before, so_far.long)))) (so_far.marked k before)
      | inr e ↦ subst (λ b. (b ≡ true) ↔ IsMisplacedAt image unit names k) (sym (last k e)) (subst (λ i. (mark ≡ true) ↔ IsMisplacedAt image unit names i) (sym e) is)
    ];
  }
    where
      split : (k : ℕ) → k < count + 1 → (k < count) ⊎ (k ≡ count)
      split k below = grind (arith, below)

      last : (k : ℕ) → k ≡ count → get_or (marks ++ mark ∷ []) k false ≡ mark
      last k e =
          let long = so_far.long in
          get_or-append_right marks (mark ∷ []) (length marks) k false refl (omega (arith, long, e))
          ∙ ap (λ i. get_or (mark ∷ []) i false) (let zero : k - length marks ≡ 0 = omega (arith, long, e) in zero)

  pub marked-all : (marks : List Bool) (count : ℕ) → IsMarkedBelow marks count → length names ≤ count → AreMisplaced image unit names marks
  marked-all marks count so_far over number = at (cases_lt number count)
    where
      at : (number < count) ⊎ (count ≤ number) → (get_or marks number false ≡ true) ↔ IsMisplacedAt image unit names number
      at (inl below) = so_far.marked number below
      at (inr from) = (
        λ set. absurd (let unset = get_or_past marks number false (omega (arith, from, so_far.long)) in true≢false (sym set ∙ unset)),
        λ m. absurd (let inside = slice_get_within names number m.declared.global m.number_is in omega (arith, inside, from, over)),
      )
