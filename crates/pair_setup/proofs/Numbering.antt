-- What the numbers of a unit's names give.
use Rattle.std.proofs.Common.{◌≡◌, ℕ, List, map, Option, Some, None}
use Rattle.std.specs.Prelude.{Contains, IsSome, IfSome, MatchOption}
use Rattle.c_token_spec.specs.Words.{entry_of}
use Rattle.c_types_spec.specs.Core.{FunctionType, Typed, Global}
use Rattle.c_types_layout.specs.Structs.{structs_of}
use Rattle.c_types.specs.declared.typed.Typed as program
use Rattle.c_types.specs.Typed.{typed_of}
use Rattle.pair_setup_spec.specs.Faults.{global_names}
use Rattle.pair_setup_calls.specs.Names.{IsNumber, AreApart, names_of}
use Rattle.pair_setup_calls.proofs.Declared.{Splits, function-numbered, function-splits, global-numbered, global-splits}
use Rattle.pair_setup.specs.Names.{IsDeclaredAt, NoFunction}

abbrev pub declared_names : Typed → List (List ℕ)
declared_names unit = map (λ (entry : List ℕ × FunctionType). entry.0) unit.functions

pub record IsNumbering (unit : Typed) (names : List (List ℕ)) : Type 0 where
  pub apart : AreApart names
  pub of_global : (declared : Global) → Contains unit.globals declared → (number : ℕ) × IsNumber names number declared.global
  pub splits_global : (number : ℕ) (declared : Global) → IsNumber names number declared.global → Contains unit.globals declared
      → Splits names (global_names unit) number declared.global
  pub of_function : (name : List ℕ) → IsSome (entry_of unit.functions name) → (number : ℕ) × IsNumber names number name
  pub splits_function : (number : ℕ) (name : List ℕ) → IsNumber names number name → IsSome (entry_of unit.functions name)
      → Splits names (declared_names unit) number name

pub numbering : (u : program.Typed) → AreApart (names_of u) → IsNumbering (typed_of u) (names_of u)
numbering u apart = record {
  apart = apart;
  of_global = λ declared among. global-numbered (structs_of u.structs.items) u.names.entries declared among;
  splits_global = λ number declared is among. global-splits (structs_of u.structs.items) u.names.entries number declared apart is among;
  of_function = λ name some. function-numbered u.names.entries name some;
  splits_function = λ number name is some. function-splits u.names.entries number name apart is some;
}

-- a function that is declared has the number that a look-up finds
pub number-declared : (u : program.Typed) (name : List ℕ) (o : Option ℕ) → IsSome (entry_of (typed_of u).functions name)
    → IfSome o (λ i. IsNumber (names_of u) i name) → ((i : ℕ) → IsNumber (names_of u) i name → o ≡ Some i)
    → MatchOption o (NoFunction (typed_of u) name) (IsDeclaredAt (typed_of u) (names_of u) name)
number-declared u name None some found only =
    absurd (let n = function-numbered u.names.entries name some in let e = only n.0 n.1 in cc)
number-declared u name (Some i) some found only = record { declared = some; number_is = found }
