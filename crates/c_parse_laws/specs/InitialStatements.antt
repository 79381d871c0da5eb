-- The scan of `validity_spec` over the tokens of a unit finds what its derivation defines within initial values of globals.
use Rattle.std.specs.Prelude.{◌≡◌, ℕ, ◌&&◌, Bool, true, if◌then◌else◌, List, [], ◌∷◌, Option, Some, None}
use Rattle.c_token_spec.specs.Lexical.{Placed}
use Rattle.c_syntax_spec.specs.Unit.{TranslationUnit}
use Rattle.c_parse_spec.specs.declared.Role.{Role}
use Rattle.c_parse_spec.specs.Leaves.{Leaf, marks}
use Rattle.c_parse_spec.specs.Units.{Initializer}
use Rattle.c_parse_spec.specs.Faults.{IsUnit}
use Rattle.c_parse_spec.specs.Source.{HasTree}
use Rattle.exact_read.specs.Reading.{plains}
use Rattle.c_parse_spec.specs.Initials.{Place, start, after, Nothing, completes, definition_in, DefinesIn, DefinesNothing}
use Rattle.c_parse_laws.specs.Definitions.{in_initializer}
use Rattle.c_parse_laws.specs.InitialValues.{in_unit, within_unit}

-- whether the scan is within an initial value after each token
abbrev pub values_after : Place → List Placed → List Bool
values_after place [] = []
values_after place (placed ∷ rest) = (after place placed.token).in_value ∷ values_after (after place placed.token) rest

-- what the scan finds if it goes on after the first
abbrev pub definitions_from : Place → List Placed → List ℕ
definitions_from place [] = []
definitions_from place (placed ∷ rest) =
    if place.in_value && completes place.begun placed.token then placed.offset ∷ definitions_from (after place placed.token) rest
    else definitions_from (after place placed.token) rest

abbrev pub first : List ℕ → Option ℕ
first [] = None
first (offset ∷ rest) = Some offset

-- where an initial value begins, with so many brackets open
abbrev pub value_starts : (depth : ℕ) → Place
value_starts depth = record { depth = depth; in_value = true; begun = Nothing }

-- what the text defines within initial values, by its tokens: first at this offset, or nothing
abbrev pub DefinesFirst : (text : List ℕ) → Option ℕ → Type 0
DefinesFirst text (Some offset) = DefinesIn text offset
DefinesFirst text None = DefinesNothing text

-- ---- the laws

-- in the tokens of a unit the scan is within an initial value after those after which the derivation is
abbrev pub FindsValues : Type 0
FindsValues =
    (tokens : List Placed) (unit : TranslationUnit) (parses : IsUnit tokens unit) → values_after start tokens ≡ within_unit parses.derives

-- in the tokens of an initial value it finds all definitions that the derivation has, and no others
abbrev pub FindsDefinitions : Type 0
FindsDefinitions =
    (names : List (List ℕ)) (depth open_before : ℕ) (end : Role) (text : List Leaf) (value : Initializer names depth end text)
    → definitions_from (value_starts open_before) (plains marks text) ≡ in_initializer value

-- so in the tokens of a unit: all definitions that the derivation has within initial values, and no others
abbrev pub FindsAll : Type 0
FindsAll =
    (tokens : List Placed) (unit : TranslationUnit) (parses : IsUnit tokens unit) → definitions_from start tokens ≡ in_unit parses.derives

-- and it stops at the first of them, or there is none
abbrev pub FindsFirst : Type 0
FindsFirst =
    (tokens : List Placed) (unit : TranslationUnit) (parses : IsUnit tokens unit) → definition_in tokens ≡ first (in_unit parses.derives)

-- so a text that has a tree defines first what its derivation does
abbrev pub DefinesSame : Type 0
DefinesSame =
    (text : List ℕ) (unit : TranslationUnit) (tree : HasTree text unit) → DefinesFirst text (first (in_unit tree.parses.derives))
