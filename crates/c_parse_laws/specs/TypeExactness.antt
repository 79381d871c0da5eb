-- The laws of the parsers of expressions and types: they are exact and keep roles.
use Rattle.std.specs.Prelude.{ℕ, List, ◌≤◌, ◌+◌}
use Rattle.c_token_spec.specs.declared.token.Punctuator.TheVariants as punctuator
use Rattle.c_parse_spec.specs.declared.Role.TheVariants.{Nothing}
use Rattle.c_parse_spec.specs.Leaves.{plain, marks}
use Rattle.c_parse_spec.specs.Expressions.{Cast, Conditional, TypeName, Elsewhere, Counting, count_at}
use Rattle.exact_read.specs.Exact.{Exact}
use Rattle.exact_read.specs.Grammar.{anything}
use Rattle.c_parse_spec.specs.Limits.{expression_fuel}
use Rattle.c_parse_laws.specs.Budget.{needs}
use Rattle.c_parse_laws.specs.Classes.{mark_offset}
use Rattle.c_parse_laws.specs.Exactness.{PlainUnary, Closed, AreFirm}
use Rattle.c_parse_laws.specs.Parsers.{Parsers, token, before}
use Rattle.c_parse_laws.specs.Stops.{stop_cast, stop_conditional}
use Rattle.c_parse_laws.specs.Fuel.{parsers}
use Rattle.c_parse_laws.specs.Types.{is_const}
use Rattle.c_parse_laws.specs.Beside.{ExactBeside, FirmBeside}
use Rattle.c_parse_laws.specs.Endings.{SpecifiersEnd, stop_specifiers}
use Rattle.c_parse_laws.specs.Firm.{Firm}

-- however many constructs are open and operators come before; a type is parsed with its closing bracket
pub record AllExact (names : List (List ℕ)) (all : Parsers) : Type 0 where
  pub cast : (depth count : ℕ) → Exact marks anything (Cast names depth count) stop_cast (all.cast depth count)
  pub unary : (depth count : ℕ) → Exact marks anything (PlainUnary names depth count) stop_cast (all.unary depth count)
  pub conditional : (depth count : ℕ) → Exact marks anything (Conditional names depth count) stop_conditional (all.conditional depth count)
  pub type_name : (depth : ℕ) (counting : Counting) → Exact marks anything (Closed plain punctuator.RightParenthesis (TypeName names depth counting)) (λ _. anything) (before (all.type_name depth counting) (token Nothing plain (mark_offset punctuator.RightParenthesis)))
  pub specifiers : (depth : ℕ) (counting : Counting) → ExactBeside marks anything (SpecifiersEnd names Elsewhere depth counting) (stop_specifiers is_const) (all.specifiers depth counting)

-- whatever typedef names are in scope
abbrev pub ExpressionsExact : Type 0
ExpressionsExact = (names : List (List ℕ)) → AllExact names (parsers names expression_fuel)

-- parsers with so much fuel, those of types among them
pub record ParsersFirm (names : List (List ℕ)) (inner : Parsers) (fuel : ℕ) : Type 0 where
  pub are : AreFirm names inner fuel
  pub specifiers : (depth : ℕ) (counting : Counting) → needs depth (count_at counting) + 4 ≤ fuel → FirmBeside anything (SpecifiersEnd names Elsewhere depth counting) (stop_specifiers is_const) (inner.specifiers depth counting)

-- however many constructs are open and operators come before; a type is parsed with its closing bracket
pub record AllFirm (names : List (List ℕ)) (all : Parsers) : Type 0 where
  pub cast : (depth count : ℕ) → Firm anything (Cast names depth count) stop_cast (all.cast depth count)
  pub unary : (depth count : ℕ) → Firm anything (PlainUnary names depth count) stop_cast (all.unary depth count)
  pub conditional : (depth count : ℕ) → Firm anything (Conditional names depth count) stop_conditional (all.conditional depth count)
  pub type_name : (depth : ℕ) (counting : Counting) → Firm anything (Closed plain punctuator.RightParenthesis (TypeName names depth counting)) (λ _. anything) (before (all.type_name depth counting) (token Nothing plain (mark_offset punctuator.RightParenthesis)))
  pub specifiers : (depth : ℕ) (counting : Counting) → FirmBeside anything (SpecifiersEnd names Elsewhere depth counting) (stop_specifiers is_const) (all.specifiers depth counting)

-- whatever typedef names are in scope
abbrev pub AllReport : Type 0
AllReport = (names : List (List ℕ)) → AllFirm names (parsers names expression_fuel)
