-- The names that can be listed.
use Rattle.std.proofs.Common.{◌≡◌, ◌≢◌, ℕ, true, false, List, [], ◌∷◌, refl, ap}
use Rattle.std.specs.Borrow.{Bor}
use Rattle.std.specs.Prelude.{filter, map, if◌then◌else◌}
use Rattle.elf_read_spec.specs.Image.{Image, function_named}
use Rattle.elf_read_spec.specs.declared.SymbolValues.{SymbolValues}
use Rattle.elf_read_spec.specs.declared.SymbolValues.TheVariants.{Absent, One, Two}
use Rattle.c_types_spec.specs.Core as core
use Rattle.c_types.specs.declared.typed.Body.{Body}
use Rattle.c_types.specs.declared.typed.Typed.{Typed}
use Rattle.c_types.specs.Typed.{bodies_of, typed_of}
use Rattle.tv_core_spec.specs.Listing.{is_present, has_symbol, listed}

present : (named : SymbolValues) → named ≢ Absent → is_present named ≡ true
present Absent there = absurd (there refl)
present (One value) there = refl
present (Two value other) there = refl

-- a name has a symbol exactly where there is a function of it
pub symbol_there : (image : Image) (name : List ℕ) → function_named image name ≢ Absent → has_symbol image name ≡ true
symbol_there image name there = present (function_named image name) there

pub symbol_absent : (image : Image) (name : List ℕ) → function_named image name ≡ Absent → has_symbol image name ≡ false
symbol_absent image name e = ap is_present e

-- a name is listed if it has a symbol
pub not_listed : (image : Image) (name : List ℕ) → function_named image name ≡ Absent → filter (has_symbol image) (name ∷ []) ≡ []
not_listed image name absent = ap (λ b. if b then name ∷ [] else []) (symbol_absent image name absent)

pub is_listed : (image : Image) (name : List ℕ) → function_named image name ≢ Absent → filter (has_symbol image) (name ∷ []) ≡ name ∷ []
is_listed image name there = ap (λ b. if b then name ∷ [] else []) (symbol_there image name there)

-- the names of bodies are the keys of their map
abbrev pub names_in : List (Bor (List ℕ)) → List (List ℕ)
names_in keys = map (λ key. key.now) keys

bodies_are : (entries : List (Bor (List ℕ) × Body)) → map (λ (b : core.Body). b.name) (bodies_of entries) ≡ names_in (map (λ entry. entry.0) entries)
bodies_are [] = refl
bodies_are (entry ∷ entries) = ap (λ rest. entry.0.now ∷ rest) (bodies_are entries)

pub listed_are : (image : Image) (unit : Typed) → listed image (typed_of unit) ≡ filter (has_symbol image) (names_in (map (λ entry. entry.0) unit.bodies.entries))
unfolding listed
listed_are image unit = ap (filter (has_symbol image)) (bodies_are unit.bodies.entries)
