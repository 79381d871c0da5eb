-- The listed functions, as pairing answers them.
use Rattle.std.specs.Prelude.{◌≡◌, ◌<◌, ◌≤◌, ℕ, List, length, get_or, Some, IsSome}
use Rattle.elf_read_spec.specs.Image.{Image, size_at}
use Rattle.code_reach_spec.specs.Code.{IsStack}
use Rattle.c_types_spec.specs.Core.{Typed}
use Rattle.pair_setup_spec.specs.SourceReach.{body_of}
use Rattle.pair_setup_spec.specs.Code.{HasSoundCode}
use Rattle.pair_setup.specs.declared.outcome.Function.{Function}

-- the function of a name has code without a fault, of this size and with this stack, and a body
pub record IsListed (image : Image) (unit : Typed) (name : List ℕ) (f : Function) : Type 0 where
  pub code : HasSoundCode image name f.entry
  pub sized : size_at image f.entry ≡ Some f.size
  pub stack_is : IsStack image f.entry f.stack
  pub body : IsSome (body_of unit name)

-- each name of the list has its function
pub record ArePaired (image : Image) (unit : Typed) (list : List (List ℕ)) (functions : List Function) : Type 0 where
  pub enough : length list ≤ length functions
  pub each : (i : ℕ) (name : List ℕ) (f : Function) → i < length list → IsListed image unit (get_or list i name) (get_or functions i f)
