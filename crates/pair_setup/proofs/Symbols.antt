-- Whether the first OBJECT symbol of a name has a size of a global.
use Rattle.std.proofs.Common.{◌≡◌, ◌∙◌, ℕ, ◌<◌, List, min, refl, sym, ap, arith, true≢false}
use Rattle.std.specs.Prelude.{◌↔◌, Bool, true, false, not, IsTrue, Option, Some, None}
use Rattle.elf_read_spec.specs.declared.SymbolValues.{SymbolValues}
use Rattle.elf_read_spec.specs.declared.SymbolValues.TheVariants.{One}
use Rattle.elf_read_spec.specs.Image.{Image, object_named}
use Rattle.c_types_spec.specs.declared.TheConstants.{SIZE_LIMIT}
use Rattle.c_types_spec.specs.Types.{CType, Void, Integer, Pointer, Array, Struct, Structs, is_open_array, size_of}
use Rattle.c_types_spec.specs.Core.{GlobalSize}
use Rattle.c_types_spec.specs.Units.{global_size, known_size}
use Rattle.c_types_layout.specs.declared.types.Outer.{Outer}
use Rattle.c_types_layout.specs.declared.types.Outer.TheVariants as outer
use Rattle.c_types_layout.specs.Types.{outer_of}
use Rattle.c_types_layout.specs.Structs.{capped}
use Rattle.c_types.specs.Typed.{global_of}
use Rattle.pair_setup_spec.specs.Faults.{object_size, HasSize, IsPlaced}

-- ---- sizes

module _ (image : Image) (name : List ℕ) where
  pub sized-none : (full : Option ℕ) → None ≡ capped full → IsTrue false ↔ HasSize image name (known_size full)
  sized-none None e = (λ no. absurd (true≢false (sym no)), λ h. absurd h)
  sized-none (Some n) e = absurd (cc)

  pub sized-some : (size : ℕ) (found : Bool) → size < SIZE_LIMIT → IsTrue found ↔ (object_size image name ≡ Some size) → (full : Option ℕ) → Some size ≡ capped full
      → IsTrue found ↔ HasSize image name (known_size full)
  sized-some size found below is None e = absurd (cc)
  sized-some size found below is (Some n) e = (λ t. is.0 t ∙ ap Some same, λ h. is.1 (h ∙ ap Some (sym same)))
    where
      least : size ≡ min n SIZE_LIMIT
      least = let both : Some size ≡ Some (min n SIZE_LIMIT) = e in cc

      same : size ≡ n
      same = let l = least in omega (arith, l, below)

  pub sized-open : (structs : Structs) (type : CType) → is_open_array type ≡ true → IsTrue true ↔ HasSize image name (global_size structs type)
  sized-open structs type e = rw e ((λ t. tt), (λ h. refl))

  pub sized-known : (structs : Structs) (type : CType) (sized : Bool) → is_open_array type ≡ false → IsTrue sized ↔ HasSize image name (known_size (size_of structs type))
      → IsTrue sized ↔ HasSize image name (global_size structs type)
  sized-known structs type sized e h = rw e h

  pub placed-one : (address : ℕ) (sized : Bool) (size : GlobalSize) → One address ≡ object_named image name → IsTrue sized ↔ HasSize image name size
      → IsTrue sized ↔ IsPlaced image (global_of name size)
  placed-one address sized size is h = (
    λ t. record { address = address; symbol = sym is; sized = h.0 t },
    λ p. h.1 p.sized,
  )

  pub placed-other : (values : SymbolValues) → values ≡ object_named image name → ((address : ℕ) → values ≡ One address → ⊥) → (size : GlobalSize)
      → IsTrue false ↔ IsPlaced image (global_of name size)
  placed-other values is other size = (
    λ no. absurd (true≢false (sym no)),
    λ p. absurd (other p.address (is ∙ p.symbol)),
  )

-- ---- arrays without length

-- by what a type is from outside
abbrev pub open_in : Outer → Bool
open_in (outer.Array None) = true
open_in (outer.Array (Some length)) = false
open_in outer.Void = false
open_in (outer.Integer scalar) = false
open_in outer.Pointer = false
open_in (outer.Struct number) = false

pub open-outer : (type : CType) → is_open_array type ≡ open_in (outer_of type)
open-outer Void = refl
open-outer (Integer scalar) = refl
open-outer (Pointer target) = refl
open-outer (Array None element) = refl
open-outer (Array (Some length) element) = refl
open-outer (Struct number) = refl

pub ruleset open_types = (open-outer)

pub negated : {P : Type 0} (b : Bool) → IsTrue b ↔ P → IsTrue (not b) ↔ (P → ⊥)
negated true h = ((λ no. absurd (true≢false (sym no))), (λ never. absurd (never (h.0 refl))))
negated false h = ((λ t p. true≢false (sym (h.1 p))), (λ never. refl))
