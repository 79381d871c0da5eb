-- Sizes and alignments of types by their layers.
use Rattle.std.proofs.Common.{◌≡◌, ℕ, zero, suc, ◌*◌, ◌/◌, ◌≤◌, min, refl, sym, ◌∙◌, ap, arith, inl, inr}
use Rattle.std.specs.Prelude.{Option, Some, None}
use Rattle.std.proofs.lemmas.Option.{slice_get-map}
use Rattle.std.proofs.lemmas.Bool.{cases_lt}
use Rattle.std.proofs.Math.Nat.{suc-mul, mul_comm, mul_assoc, one-mul}
use Rattle.c_types_spec.specs.declared.TheConstants.{POINTER_WIDTH, SIZE_LIMIT}
use Rattle.c_types_spec.specs.Types as tree
use Rattle.c_types_layout.specs.declared.types.Base.{Base}
use Rattle.c_types_layout.specs.declared.types.Layers.{Layers}
use Rattle.c_types_layout.specs.declared.types.Layers.TheVariants.{Nothing, Pointer', Array'}
use Rattle.c_types_layout.specs.Extents.{capped, extent_of, AreCounted}
use Rattle.c_types_layout.specs.Types.{base_of, wrapped}
use Rattle.c_types_layout.specs.Structs.{innermost_size, innermost_alignment}

-- a product is over the limit where it is with a factor limited
product-large : (n s limit : ℕ) → limit ≤ s → min (n * s) limit ≡ min (n * min s limit) limit
product-large zero s limit h = grind arith
product-large (suc m) s limit h =
    let small : min s limit ≡ limit = omega arith in
    rw small (omega (arith, suc-mul m s, suc-mul m limit))

limited-product : (n s limit : ℕ) → min (n * s) limit ≡ min (n * min s limit) limit
limited-product n s limit = elim (cases_lt s limit) [ inr h ↦ product-large n s limit h | inl h ↦ ap (λ k. min (n * k) limit) (let e : s ≡ min s limit = omega arith in e) ]

limited-count : (n s limit : ℕ) → min (n * s) limit ≡ min (min n limit * s) limit
limited-count n s limit = ap (λ k. min k limit) (mul_comm n s) ∙ limited-product s n limit ∙ ap (λ k. min k limit) (mul_comm s (min n limit))

-- so many arrays of a length
more-count : (count length size : Option ℕ) → capped (tree.times (capped (tree.times count length)) size) ≡ capped (tree.times count (tree.times length size))
more-count None length size = refl
more-count (Some c) None size = refl
more-count (Some c) (Some n) None = refl
more-count (Some c) (Some n) (Some s) = ap Some (sym (limited-count (c * n) s SIZE_LIMIT) ∙ ap (λ k. min k SIZE_LIMIT) (mul_assoc c n s))

capped-size : (count size : Option ℕ) → capped (tree.times count (capped size)) ≡ capped (tree.times count size)
capped-size None size = refl
capped-size (Some c) None = refl
capped-size (Some c) (Some s) = ap Some (sym (limited-product c s SIZE_LIMIT))

single : (size : Option ℕ) → tree.times (Some 1) size ≡ size
single None = refl
single (Some s) = ap Some (one-mul s)

module _ (structs : tree.Structs) (base : Base) where
  size-counted : (layers : Layers) → AreCounted layers → capped (tree.times (extent_of layers).count (innermost_size structs base (extent_of layers).of_pointers)) ≡ capped (tree.size_of structs (wrapped layers base))
  unfolding tree.size_of
  size-counted Nothing h = ap capped (single (tree.size_of structs (base_of base)))
  size-counted (Pointer' further p rest) h = ap capped (single (Some (POINTER_WIDTH / 8)))
  size-counted (Array' length extent p rest) h =
      ap (λ e. capped (tree.times e.count (innermost_size structs base e.of_pointers))) h.0
      ∙ more-count length (extent_of rest).count (innermost_size structs base (extent_of rest).of_pointers)
      ∙ sym (capped-size length (tree.times (extent_of rest).count (innermost_size structs base (extent_of rest).of_pointers)))
      ∙ ap (λ s. capped (tree.times length s)) (size-counted rest h.1)
      ∙ capped-size length (tree.size_of structs (wrapped rest base))

  -- a type has the size of so many of what is inside its outermost arrays
  pub size-by_extent : (layers : Layers) → AreCounted layers → capped (tree.times (extent_of layers).count (capped (innermost_size structs base (extent_of layers).of_pointers))) ≡ capped (tree.size_of structs (wrapped layers base))
  size-by_extent layers h = capped-size (extent_of layers).count (innermost_size structs base (extent_of layers).of_pointers) ∙ size-counted layers h

  -- and the alignment of that
  pub alignment-by_extent : (layers : Layers) → AreCounted layers → innermost_alignment structs base (extent_of layers).of_pointers ≡ tree.alignment_of structs (wrapped layers base)
  unfolding tree.alignment_of
  alignment-by_extent Nothing h = refl
  alignment-by_extent (Pointer' further p rest) h = refl
  alignment-by_extent (Array' length extent p rest) h = ap (λ e. innermost_alignment structs base e.of_pointers) h.0 ∙ alignment-by_extent rest h.1

pub ruleset looked_up = (slice_get-map)
