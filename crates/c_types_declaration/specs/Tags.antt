-- A new struct of a tag.
use Rattle.std.specs.Prelude.{ℕ}
use Rattle.c_syntax_spec.specs.Expression.{Name}
use Rattle.c_types_spec.specs.Types.{Definition}
use Rattle.c_types_spec.specs.Names.{Typing, StructTag, ◌>>=◌, ◌>>◌, give, new_struct, declare_tag}

abbrev pub new_tagged : Definition → Name → Typing ℕ
new_tagged definition tag = do
  number ← new_struct definition
  declare_tag tag.spelling (StructTag number)
  give number
