-- The leaves of a derivation: tokens, with their role and what they add to the limits.
use Rattle.std.specs.Prelude.{ℕ, Bool, ◌||◌, nat_lt, List, [], ◌∷◌}
use Rattle.c_token_spec.specs.declared.token.Keyword.{Keyword}
use Rattle.c_token_spec.specs.declared.token.Punctuator.{Punctuator}
use Rattle.c_token_spec.specs.declared.token.NumberType.{NumberType}
use Rattle.c_token_spec.specs.Lexical.{Placed, Name as name_token, Word as word_token, Number as number_token, Character as character_token, Mark as mark_token}
use Rattle.c_syntax_spec.specs.Expression.{Name}
use Rattle.c_parse_spec.specs.declared.Role.{Role}
use Rattle.c_parse_spec.specs.declared.Role.TheVariants.{Nothing}
use Rattle.c_parse_spec.specs.Limits.{nesting_limit, operator_limit}
use Rattle.exact_read.specs.Expected.{Roles}
use Rattle.exact_read.specs.Reading.{Marks}

-- A leaf opens a construct or is an operator, or both, or neither. Where it opens one, `opened` is the number of
-- constructs that are open, with its own: of brackets that are not closed, and of `if`, `else`, `while`, `do`,
-- `for` and `switch` that are not finished. Where it is an operator, `operators` is the number of operators
-- of its whole expression up to it. Only such a leaf can be the first that exceeds a limit.
pub record Leaf : Type 0 where
  pub token : Placed
  pub opened : ℕ
  pub operators : ℕ
  pub role : Role

-- neither
abbrev pub plain : Placed → Leaf
plain token = record { token = token; opened = 0; operators = 0; role = Nothing }

-- neither, and this role is expected in its place
abbrev pub expected : Role → Placed → Leaf
expected role token = record { token = token; opened = 0; operators = 0; role = role }

-- opens a construct
abbrev pub opens : (opened : ℕ) → Placed → Leaf
opens opened token = record { token = token; opened = opened; operators = 0; role = Nothing }

-- is an operator
abbrev pub operates : (operators : ℕ) → Placed → Leaf
operates operators token = record { token = token; opened = 0; operators = operators; role = Nothing }

-- is an operator that opens a bracket
abbrev pub brackets : (opened operators : ℕ) → Placed → Leaf
brackets opened operators token = record { token = token; opened = opened; operators = operators; role = Nothing }

-- the leaf exceeds a limit
abbrev pub is_over : Leaf → Bool
is_over leaf = nat_lt nesting_limit leaf.opened || nat_lt operator_limit leaf.operators

abbrev pub marks : Marks Placed Leaf
marks = record { plain = λ leaf. leaf.token; over = is_over }

abbrev pub roles : Roles Leaf Role
roles = record { role = λ leaf. leaf.role; none = Nothing }

-- tokens at an offset
abbrev pub mark : Punctuator → (offset : ℕ) → Placed
mark punctuator offset = record { token = mark_token punctuator; offset = offset }

abbrev pub keyword_at : Keyword → (offset : ℕ) → Placed
keyword_at keyword offset = record { token = word_token keyword; offset = offset }

abbrev pub named : Name → Placed
named name = record { token = name_token name.spelling; offset = name.offset }

abbrev pub number : (value : ℕ) → NumberType → (offset : ℕ) → Placed
number value type offset = record { token = number_token value type; offset = offset }

abbrev pub character : (value offset : ℕ) → Placed
character value offset = record { token = character_token value; offset = offset }

-- the offset of the first leaf
abbrev pub first_offset : List Leaf → ℕ
first_offset [] = 0
first_offset (leaf ∷ text) = leaf.token.offset
