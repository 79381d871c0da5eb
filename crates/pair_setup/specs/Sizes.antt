-- Which graphs are too large, by entries and by the numbers of names.
use Rattle.std.specs.Prelude.{ℕ, List, Contains}
use Rattle.elf_read_spec.specs.Image.{Image}
use Rattle.c_types_spec.specs.Core.{Typed}
use Rattle.pair_setup_calls.specs.Names.{IsNumber}
use Rattle.pair_setup_spec.specs.Nodes.{IsLargeCode, IsLargeSource}

pub record AnyLargeCode (image : Image) (entries : List ℕ) : Type 0 where
  pub entry : ℕ
  pub among : Contains entries entry
  pub large : IsLargeCode image entry

pub record IsLargeAt (unit : Typed) (names : List (List ℕ)) (number : ℕ) : Type 0 where
  pub name : List ℕ
  pub number_is : IsNumber names number name
  pub large : IsLargeSource unit name

pub record AnyLargeSource (unit : Typed) (names : List (List ℕ)) (numbers : List ℕ) : Type 0 where
  pub number : ℕ
  pub among : Contains numbers number
  pub large : IsLargeAt unit names number
