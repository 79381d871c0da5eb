-- Parsers that are exact, and that keep roles, with a second value beside their own, which says where the text ends.
use Rattle.std.specs.Prelude.{◌≡◌, Bool, List}
use Rattle.exact_read.specs.Reading.{Parser, Marks}
use Rattle.exact_read.specs.Exact.{Exact}
use Rattle.exact_read.specs.Grammar.{read_map}
use Rattle.c_token_spec.specs.Lexical.{Placed}
use Rattle.c_parse_spec.specs.declared.Role.{Role}
use Rattle.c_parse_spec.specs.Leaves.{Leaf}
use Rattle.c_parse_laws.specs.Firm.{Firm}

-- `both` reads the same, and gives beside the value where it ends; it is exact
pub record ExactBeside {T U K X E : Type 0} (marks : Marks T U) (entry : T → Bool) (S : X → E → List U → Type 0) (stop : X → E → T → Bool) (read : Parser T K X) : Type 0 where
  pub both : Parser T K (X × E)
  pub is : Exact marks entry (λ (pair : X × E). S pair.0 pair.1) (λ (pair : X × E). stop pair.0 pair.1) both
  pub same : (before : List T) → read before ≡ read_map (λ (pair : X × E). pair.0) both before

-- a text with some end
pub record WithEnd {U X E : Type 0} (S : X → E → List U → Type 0) (x : X) (text : List U) : Type 0 where
  pub end : E
  pub derives : S x end text

-- `both` reads the same, and gives beside the value where it ends; it keeps roles
pub record FirmBeside {X E : Type 0} (entry : Placed → Bool) (S : X → E → List Leaf → Type 0) (stop : X → E → Placed → Bool) (read : Parser Placed Role X) : Type 0 where
  pub both : Parser Placed Role (X × E)
  pub is : Firm entry (λ (pair : X × E). S pair.0 pair.1) (λ (pair : X × E). stop pair.0 pair.1) both
  pub same : (before : List Placed) → read before ≡ read_map (λ (pair : X × E). pair.0) both before
