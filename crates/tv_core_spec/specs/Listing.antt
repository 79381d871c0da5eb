-- What is asked of two files, and the functions that it asks for.
use Rattle.std.specs.Prelude.{ℕ, Bool, true, false, List, [], ◌∷◌, filter, map, Option, Some, None}
use Rattle.elf_read_spec.specs.Image.{Image, function_named}
use Rattle.elf_read_spec.specs.declared.SymbolValues.{SymbolValues}
use Rattle.elf_read_spec.specs.declared.SymbolValues.TheVariants.{Absent, One, Two}
use Rattle.c_types_spec.specs.Core.{Body, Typed}

-- what is asked of two files
pub data Task : Type 0 where
  -- a judgement on each of these functions, or on all that can be listed
  Judge : (functions : Option (List (List ℕ))) → Task
  -- whether this certificate is a proof of each of these functions, or of all that can be listed
  Verify : (functions : Option (List (List ℕ))) → (certificate : List ℕ) → Task
  -- the code of this function
  Display : (function : List ℕ) → Task

abbrev pub is_present : SymbolValues → Bool
is_present Absent = false
is_present (One value) = true
is_present (Two value other) = true

-- there is a FUNC symbol of this name
abbrev pub has_symbol : Image → (name : List ℕ) → Bool
has_symbol image name = is_present (function_named image name)

-- the functions that have a body, in source order
abbrev pub bodies : Typed → List (List ℕ)
bodies unit = map (λ (body : Body). body.name) unit.bodies

-- the functions that can be listed: those with a body and a symbol, in source order
unfoldable pub listed : Image → Typed → List (List ℕ)
listed image unit = filter (has_symbol image) (bodies unit)

-- the list: the names that the task gives, in its order, or else all that can be listed
abbrev pub names_of : Task → Image → Typed → List (List ℕ)
names_of (Judge (Some names)) image unit = names
names_of (Judge None) image unit = listed image unit
names_of (Verify (Some names) certificate) image unit = names
names_of (Verify None certificate) image unit = listed image unit
names_of (Display function) image unit = function ∷ []
