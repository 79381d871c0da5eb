-- What it means that values, expression statements and declarations of locals are read exactly, and that
-- their parsers keep roles.
use Rattle.std.specs.Prelude.{ℕ, List}
use Rattle.c_parse_spec.specs.Expressions.{Unary, InLocalDeclaration, InExternalDeclaration, Alone}
use Rattle.c_parse_spec.specs.Leaves.{marks}
use Rattle.c_parse_spec.specs.Statements.{Value, Simple}
use Rattle.exact_read.specs.Exact.{Exact}
use Rattle.exact_read.specs.Grammar.{anything}
use Rattle.c_parse_spec.specs.Limits.{expression_fuel}
use Rattle.c_parse_laws.specs.Parsers.{Parsers}
use Rattle.c_parse_laws.specs.Stops.{stop_cast}
use Rattle.c_parse_laws.specs.Fuel.{parsers}
use Rattle.c_parse_laws.specs.Beside.{ExactBeside, FirmBeside}
use Rattle.c_parse_laws.specs.Endings.{SpecifiersEnd, stop_specifiers}
use Rattle.c_parse_laws.specs.Around.{is_word, local_word, external_word, read_local_specifiers, read_external_specifiers}
use Rattle.c_parse_laws.specs.Values.{read_any_unary, read_value, read_simple}
use Rattle.c_parse_laws.specs.Declarations.{read_locals}
use Rattle.c_parse_laws.specs.Ends.{stop_value, stop_simple}
use Rattle.c_parse_laws.specs.Texts.{LocalsText}
use Rattle.c_parse_laws.specs.Firm.{Firm}

-- whatever is open around
pub record DeclarationsAre (names : List (List ℕ)) (inner : Parsers) : Type 0 where
  pub unary : (depth count : ℕ) → Exact marks anything (Unary names depth count) stop_cast (read_any_unary inner depth count)
  pub value : (depth count : ℕ) → Exact marks anything (Value names depth count) stop_value (read_value inner depth count)
  pub simple : (depth : ℕ) → Exact marks anything (Simple names depth) stop_simple (read_simple inner depth)
  pub local_specifiers : (depth : ℕ) → ExactBeside marks anything (SpecifiersEnd names InLocalDeclaration depth Alone) (stop_specifiers (is_word local_word)) (read_local_specifiers names inner depth)
  pub external_specifiers : (depth : ℕ) → ExactBeside marks anything (SpecifiersEnd names InExternalDeclaration depth Alone) (stop_specifiers (is_word external_word)) (read_external_specifiers names inner depth)
  pub locals : (depth : ℕ) → Exact marks anything (LocalsText names depth) (λ _. anything) (read_locals names inner depth)

-- whatever typedef names are in scope
abbrev pub DeclarationsExact : Type 0
DeclarationsExact = (names : List (List ℕ)) → DeclarationsAre names (parsers names expression_fuel)

-- whatever is open around
pub record DeclarationsFirm (names : List (List ℕ)) (inner : Parsers) : Type 0 where
  pub unary : (depth count : ℕ) → Firm anything (Unary names depth count) stop_cast (read_any_unary inner depth count)
  pub value : (depth count : ℕ) → Firm anything (Value names depth count) stop_value (read_value inner depth count)
  pub simple : (depth : ℕ) → Firm anything (Simple names depth) stop_simple (read_simple inner depth)
  pub local_specifiers : (depth : ℕ) → FirmBeside anything (SpecifiersEnd names InLocalDeclaration depth Alone) (stop_specifiers (is_word local_word)) (read_local_specifiers names inner depth)
  pub external_specifiers : (depth : ℕ) → FirmBeside anything (SpecifiersEnd names InExternalDeclaration depth Alone) (stop_specifiers (is_word external_word)) (read_external_specifiers names inner depth)
  pub locals : (depth : ℕ) → Firm anything (LocalsText names depth) (λ _. anything) (read_locals names inner depth)

-- whatever typedef names are in scope
abbrev pub DeclarationsReport : Type 0
DeclarationsReport = (names : List (List ℕ)) → DeclarationsFirm names (parsers names expression_fuel)
