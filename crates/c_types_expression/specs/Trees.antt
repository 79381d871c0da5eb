-- Lists of trees behind pointers, and parts of enumerations.
use Rattle.std.specs.Prelude.{◌≡◌, ℕ, ℤ, pos, ◌+ℤ◌, int_lt, ◌||◌, Bool, List, map, Option, Some, None}
use Rattle.std.specs.declared.alloc.Global.{Global}
use Rattle.std.specs.declared.boxed.Box.{Box}
use Rattle.c_syntax_spec.specs.declared.BinaryOperator.{BinaryOperator}
use Rattle.c_syntax_spec.specs.Expression as tree
use Rattle.c_syntax.specs.declared.expression.Expression.{Expression}
use Rattle.c_syntax.specs.declared.expression.Expression.TheVariants as made
use Rattle.c_syntax.specs.declared.expression.Constant.{Constant}
use Rattle.c_syntax.specs.declared.expression.Declarator.{Declarator}
use Rattle.c_syntax.specs.declared.expression.Member.{Member}
use Rattle.c_syntax.specs.Expressions.{expression_of, constant_of, declarator_of, member_of, expressions_of, constants_of, declarators_of, members_of}
use Rattle.c_types_spec.specs.Names.{Typing, give, ◌>>=◌, ◌>>◌, rule}
use Rattle.c_types_spec.specs.Operands.{integer_constant}
use Rattle.c_types_spec.specs.Types.{Layout}
use Rattle.c_types_spec.specs.Declarations.{enumerator}
use Rattle.c_types_spec.specs.Expressions.{value, specifiers, member_declarators}
use Rattle.c_types_expression.specs.declared.expression.Next.{Next}

-- expressions that are read by functions of their own
abbrev pub IsIndex : Expression → Type 0
IsIndex x = (base : Box Expression Global) × (index : Box Expression Global) × (offset : ℕ) × (x ≡ made.Index base index offset)

abbrev pub IsBinary : Expression → Type 0
IsBinary x = (operator : BinaryOperator) × (left : Box Expression Global) × (right : Box Expression Global) × (offset : ℕ) × (x ≡ made.Binary operator left right offset)

abbrev pub IsConditional : Expression → Type 0
IsConditional x =
    (test : Box Expression Global) × (first : Box Expression Global) × (second : Box Expression Global) × (offset : ℕ) × (x ≡ made.Conditional test first second offset)

abbrev pub unboxed : {X : Type 0} → List (Box X Global) → List X
unboxed boxes = map (λ b. b.value) boxes

abbrev pub expressions_in : List (Box Expression Global) → tree.Expressions
expressions_in boxes = expressions_of (map expression_of (unboxed boxes))

abbrev pub declarators_in : List (Box Declarator Global) → tree.Declarators
declarators_in boxes = declarators_of (map declarator_of (unboxed boxes))

abbrev pub members_in : List (Box Member Global) → tree.Members
members_in boxes = members_of (map member_of (unboxed boxes))

abbrev pub constants_in : List (Box Constant Global) → tree.Constants
constants_in boxes = constants_of (map constant_of (unboxed boxes))

-- the value of a constant of an enumeration, where the one before asks for the next
abbrev pub constant_value : Option tree.Expression → (next : ℤ) → Typing ℤ
constant_value None next = give next
constant_value (Some x) next = do
  v ← value x
  rule (integer_constant v)

-- the members of one declaration, after those so far
abbrev pub member_row : tree.Specifiers × tree.Declarators → Layout → Typing Layout
member_row row layout = do
  type ← specifiers row.0
  member_declarators row.1 type layout

abbrev pub next_of : Next → ℤ × Bool
next_of next = (next.value, next.is_negative)

-- a constant of an enumeration: the value of the next, and whether one so far is negative
abbrev pub next_constant : tree.Name × Option tree.Expression → ℤ × Bool → Typing (ℤ × Bool)
next_constant row next = do
  value ← constant_value row.1 next.0
  enumerator row.0 value
  give (value +ℤ pos 1, next.1 || int_lt value (pos 0))
