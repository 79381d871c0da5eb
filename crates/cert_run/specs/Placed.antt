-- Globals of the first symbols of an executable.
use Rattle.std.specs.Prelude.{◌≡◌, ◌⊎◌, ℕ, ◌<◌, true, List, Some, None, slice_get}
use Rattle.elf_read_spec.specs.declared.fields.TheConstants.{STT_OBJECT}
use Rattle.elf_read_spec.specs.Image.{Image, Symbol, has_name}
use Rattle.c_run_value.specs.Settings.{address_in}
use Rattle.c_run_value.specs.declared.setting.Global.{Global}
use Rattle.validity_spec.specs.Claim.{globals_of}

-- none of the first n symbols is an OBJECT symbol of the name, and no global has it
pub record IsLeftOut (image : Image) (n : ℕ) (globals : List Global) (name : List ℕ) : Type 0 where
  pub absent : (k : ℕ) (symbol : Symbol) → k < n → slice_get image.symbols k ≡ Some symbol → has_name STT_OBJECT name symbol ≡ true → ⊥
  pub none : address_in globals name ≡ None

-- these are the globals of the names of the first n symbols
abbrev pub ArePlaced : Image → (n : ℕ) → List Global → Type 0
ArePlaced image n globals = (name : List ℕ) → (address_in globals name ≡ globals_of image name) ⊎ IsLeftOut image n globals name
