-- Functions of a name, and their sizes, in any image.
use Rattle.std.proofs.Common.{◌≡◌, ◌==◌, ℕ, not, List, [], ◌∷◌, map, filter, find, Option, Some, None, IsSome, refl, sym, arith}
use Rattle.elf_read_spec.specs.Image.{Image, Symbol, entry_of, object_of, function_named, object_named, named_of, values_of, size_at, size_among, first_of, has_name, named_beside}
use Rattle.elf_read_spec.specs.declared.fields.TheConstants.{STT_FUNC, STT_OBJECT}
use Rattle.elf_read_spec.specs.declared.SymbolValues.{SymbolValues}
use Rattle.elf_read_spec.specs.declared.SymbolValues.TheVariants.{Absent, One, Two}

size_among_named : (symbols : List Symbol) (name : List ℕ) (entry : ℕ)
    → first_of (map (λ s. s.value) (filter (has_name 2 name) symbols)) ≡ Some entry → IsSome (size_among symbols entry)
size_among_named [] name entry e = cc
size_among_named (symbol ∷ symbols) name entry e = grind (arith, size_among_named symbols name entry)

-- every function symbol of a name gives its entry a size
pub entry_has_size : (image : Image) (name : List ℕ) (entry : ℕ) → entry_of image name ≡ Some entry → IsSome (size_at image entry)
unfolding entry_of size_at
entry_has_size image name entry e = size_among_named image.symbols name entry e

-- the first of several values
abbrev pub first_named : SymbolValues → Option ℕ
first_named Absent = None
first_named (One value) = Some value
first_named (Two value other) = Some value

first_named_of : (values : List ℕ) → first_named (named_of values) ≡ first_of values
first_named_of [] = refl
first_named_of (value ∷ values) =
    elim (find (λ other. not (other == value)) values) as (λ o. first_named (named_beside value o) ≡ Some value) [ None ↦ refl | Some other ↦ refl ]

-- a function begins at the first value of its symbols
pub entry_is_first : (image : Image) (name : List ℕ) → entry_of image name ≡ first_named (function_named image name)
unfolding entry_of function_named
entry_is_first image name = sym (first_named_of (values_of STT_FUNC name image))

-- a global begins at the first value of its symbols
pub object_is_first : (image : Image) (name : List ℕ) → object_of image name ≡ first_named (object_named image name)
unfolding object_of object_named
object_is_first image name = sym (first_named_of (values_of STT_OBJECT name image))
