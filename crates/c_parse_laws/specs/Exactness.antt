-- The law of the parsers of expressions: they are exact and keep roles, where the parsers of their parts do.
use Rattle.std.specs.Prelude.{◌≡◌, ℕ, false, List, ◌∷◌, ◌+◌, [], ◌++◌, true, ◌≤◌, suc}
use Rattle.c_token_spec.specs.declared.token.Punctuator.{Punctuator}
use Rattle.c_token_spec.specs.declared.token.Punctuator.TheVariants as punctuator
use Rattle.c_token_spec.specs.Lexical.{Placed}
use Rattle.c_syntax_spec.specs.Expression as tree
use Rattle.c_parse_spec.specs.declared.Role.TheVariants.{Nothing}
use Rattle.c_parse_spec.specs.Leaves.{Leaf, mark, plain}
use Rattle.c_parse_spec.specs.Expressions.{Unary, TypeName, Cast, Conditional, Counting, count_at}
use Rattle.exact_read.specs.Grammar.{anything}
use Rattle.c_parse_laws.specs.Budget.{needs}
use Rattle.c_parse_laws.specs.Classes.{is_mark, begins_type, mark_offset}
use Rattle.c_parse_laws.specs.Stops.{stop_cast, stop_conditional}
use Rattle.c_parse_laws.specs.Parsers.{token, Parsers, before}
use Rattle.c_parse_laws.specs.Fuel.{around}
use Rattle.c_parse_laws.specs.Firm.{Firm}

-- a unary expression that begins with no bracket
pub record PlainUnary (names : List (List ℕ)) (depth count : ℕ) (x : tree.Expression) (text : List Leaf) : Type 0 where
  pub derives : Unary names depth count x text
  pub leaf : Leaf
  pub more : List Leaf
  pub cut : text ≡ leaf ∷ more
  pub no : is_mark punctuator.LeftParenthesis leaf.token.token ≡ false

-- a part, and a punctuator after it
pub record Closed {X : Type 0} (as_leaf : Placed → Leaf) (p : Punctuator) (S : X → List Leaf → Type 0) (x : X) (text : List Leaf) : Type 0 where
  pub inside : List Leaf
  pub close : ℕ
  pub derives : S x inside
  pub cut : text ≡ inside ++ as_leaf (mark p close) ∷ []

-- what is asked of types
pub record TypeFacts (names : List (List ℕ)) : Type 0 where
  pub begins : (depth : ℕ) (counting : Counting) (type : tree.TypeName) (text : List Leaf) → TypeName names depth counting type text → (u : Leaf) × (more : List Leaf) × (text ≡ u ∷ more) × (begins_type names u.token.token ≡ true)
  pub some : (depth : ℕ) (counting : Counting) → (type : tree.TypeName) × (text : List Leaf) × TypeName names depth counting type text

-- what is asked of the parsers of parts; a type is parsed with its closing bracket
pub record AreFirm (names : List (List ℕ)) (inner : Parsers) (fuel : ℕ) : Type 0 where
  pub cast : (depth count : ℕ) → needs depth count + 2 ≤ fuel → Firm anything (Cast names depth count) stop_cast (inner.cast depth count)
  pub unary : (depth count : ℕ) → needs depth count + 1 ≤ fuel → Firm anything (PlainUnary names depth count) stop_cast (inner.unary depth count)
  pub conditional : (depth count : ℕ) → needs depth count + 3 ≤ fuel → Firm anything (Conditional names depth count) stop_conditional (inner.conditional depth count)
  pub type_name : (depth : ℕ) (counting : Counting) → needs depth (count_at counting) + 4 ≤ fuel → Firm anything (Closed plain punctuator.RightParenthesis (TypeName names depth counting)) (λ _. anything) (before (inner.type_name depth counting) (token Nothing plain (mark_offset punctuator.RightParenthesis)))

-- the token begins a type
pub record BeginsTypeName (names : List (List ℕ)) (depth : ℕ) (counting : Counting) (token : Placed) : Type 0 where
  pub type : tree.TypeName
  pub first : Leaf
  pub more : List Leaf
  pub derives : TypeName names depth counting type (first ∷ more)
  pub is : first.token ≡ token

-- what is asked of types: each token that can begin one does, and without a role
pub record TypeRoles (names : List (List ℕ)) : Type 0 where
  pub begins : (depth : ℕ) (counting : Counting) (token : Placed) → begins_type names token.token ≡ true → BeginsTypeName names depth counting token
  pub silent : (depth : ℕ) (counting : Counting) (type : tree.TypeName) (first : Leaf) (more : List Leaf) → TypeName names depth counting type (first ∷ more) → first.role ≡ Nothing

-- the same of the parsers of expressions alone
pub record ExpressionsFirm (names : List (List ℕ)) (inner : Parsers) (fuel : ℕ) : Type 0 where
  pub cast : (depth count : ℕ) → needs depth count + 2 ≤ fuel → Firm anything (Cast names depth count) stop_cast (inner.cast depth count)
  pub unary : (depth count : ℕ) → needs depth count + 1 ≤ fuel → Firm anything (PlainUnary names depth count) stop_cast (inner.unary depth count)
  pub conditional : (depth count : ℕ) → needs depth count + 3 ≤ fuel → Firm anything (Conditional names depth count) stop_conditional (inner.conditional depth count)

-- whatever typedef names are in scope: where the parsers of parts are exact and keep roles, so are and do those of the
-- whole
abbrev pub ExpressionsReport : Type 0
ExpressionsReport = (names : List (List ℕ)) → TypeFacts names → TypeRoles names → (inner : Parsers) (fuel : ℕ) → AreFirm names inner fuel → ExpressionsFirm names (around names inner) (suc fuel)
