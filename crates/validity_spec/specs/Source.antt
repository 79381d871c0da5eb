-- What a C source is (ISO C11, 6.4 to 6.9): a text whose tokens are a unit that has types, and that defines nothing
-- where no tree is kept.
use Rattle.std.specs.Prelude.{◌≡◌, ℕ, List, Ok}
use Rattle.c_syntax_spec.specs.Unit.{TranslationUnit}
use Rattle.c_parse_spec.specs.Source.{HasTree}
use Rattle.c_types_spec.specs.Core.{Typed}
use Rattle.c_types_spec.specs.Units.{typed}
use Rattle.c_parse_spec.specs.Initials.{DefinesNothing}

-- the text is C, and this is its typed core
pub record IsC (text : List ℕ) (unit : Typed) : Type 0 where
  pub tree : TranslationUnit
  pub derives : HasTree text tree
  pub defines_nothing : DefinesNothing text
  pub has_types : typed tree ≡ Ok unit
