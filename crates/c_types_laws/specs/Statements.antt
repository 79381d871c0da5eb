-- The names of functions with a body.
use Rattle.std.specs.Prelude.{◌≡◌, ◌≢◌, ℕ, Bool, true, List, [], ◌∷◌, map, filter, flat_map, bytes_eq, All, None, Ok, find}
use Rattle.std.specs.List.{IsDistinct}
use Rattle.c_syntax_spec.specs.Unit.{ExternalDeclaration, EmptyDeclaration, Declaration, Definition, TranslationUnit}
use Rattle.c_parse_spec.specs.Source.{HasTree}
use Rattle.c_types_spec.specs.Core.{Body, Typed}
use Rattle.c_types_spec.specs.Units.{typed}
use Rattle.cert_text_spec.specs.Lines.{is_name}

-- the function that an external declaration defines, if it defines one
abbrev pub defined_by : ExternalDeclaration → List (List ℕ)
defined_by EmptyDeclaration = []
defined_by (Declaration specifiers globals) = []
defined_by (Definition specifiers declarator body close) = declarator.name.spelling ∷ []

-- the functions that a unit defines, in their order
abbrev pub defined : TranslationUnit → List (List ℕ)
defined unit = flat_map defined_by unit

-- the functions that have a body, in their order
abbrev pub bodies : Typed → List (List ℕ)
bodies core = map (λ (body : Body). body.name) core.bodies

-- ---- the laws

-- a text defines functions by names of certificates
abbrev pub DefinesNames : Type 0
DefinesNames =
    (text : List ℕ) (unit : TranslationUnit) → HasTree text unit → All (λ name. is_name name ≡ true) (defined unit)

-- the functions with a body are those that the unit defines
abbrev pub AreDefined : Type 0
AreDefined = (unit : TranslationUnit) (core : Typed) → typed unit ≡ Ok core → bodies core ≡ defined unit

-- no two of them have one name, and so among those that pass a test
abbrev pub AreApart : Type 0
AreApart =
    (unit : TranslationUnit) (core : Typed) (test : List ℕ → Bool) → typed unit ≡ Ok core
    → IsDistinct bytes_eq (bodies core) × IsDistinct bytes_eq (filter test (bodies core))

-- where a text has this core, a function with a body there has a name of certificates
abbrev pub HasName : Type 0
HasName =
    (text : List ℕ) (unit : TranslationUnit) (core : Typed) (name : List ℕ) → HasTree text unit → typed unit ≡ Ok core
    → find (λ (body : Body). bytes_eq body.name name) core.bodies ≢ None
    → is_name name ≡ true
