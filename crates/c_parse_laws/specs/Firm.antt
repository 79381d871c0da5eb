-- Parsers of parts of C that keep roles.
use Rattle.std.specs.Prelude.{Bool, List}
use Rattle.c_token_spec.specs.Lexical.{Placed}
use Rattle.c_parse_spec.specs.declared.Role.{Role}
use Rattle.c_parse_spec.specs.declared.Role.TheVariants.{Nothing}
use Rattle.c_parse_spec.specs.Leaves.{Leaf, marks, roles}
use Rattle.exact_read.specs.Reading.{Parser}
use Rattle.exact_read.specs.Roles.{Roled}

-- no value has a role at its end
abbrev pub quiet : {X : Type 0} → X → Role
quiet x = Nothing

-- the parser is exact and keeps roles; after a whole text it calls no token wrong, and what continues one has no role
abbrev pub Firm : {X : Type 0} → (entry : Placed → Bool) → (S : X → List Leaf → Type 0) → (stop : X → Placed → Bool) → Parser Placed Role X → Type 0
Firm entry S stop read = Roled marks roles entry S stop quiet ⊥ read
