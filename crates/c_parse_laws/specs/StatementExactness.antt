-- The laws of the parsers of statements: they are exact and keep roles.
use Rattle.std.specs.Prelude.{ℕ, List, ◌+◌, ◌≤◌}
use Rattle.c_parse_spec.specs.Leaves.{marks, plain, roles}
use Rattle.c_parse_spec.specs.Statements.{Statement, Parts}
use Rattle.exact_read.specs.Grammar.{anything}
use Rattle.c_parse_laws.specs.Fuel.{parsers}
use Rattle.c_parse_laws.specs.Statements.{read_statement, read_parts, Statements, read_groups}
use Rattle.c_parse_laws.specs.StatementEnds.{stop_statement, stop_parts}
use Rattle.c_token_spec.specs.declared.token.Punctuator.TheVariants as punctuator
use Rattle.c_parse_spec.specs.declared.Role.TheVariants.{Nothing}
use Rattle.c_parse_spec.specs.Statements as grammar
use Rattle.c_parse_spec.specs.Limits.{nesting_limit, statement_fuel, expression_fuel}
use Rattle.exact_read.specs.Roles.{Roled}
use Rattle.c_parse_laws.specs.Classes.{mark_offset}
use Rattle.c_parse_laws.specs.Exactness.{Closed}
use Rattle.c_parse_laws.specs.Parsers.{token, before}
use Rattle.c_parse_laws.specs.Firm.{quiet, Firm}

-- Where the parser of statements at a depth is exact and keeps roles, so are and do that of parts, which may call a
-- token after them wrong without a role, and that of groups with their closing brace.
pub record CompoundsFirm (names : List (List ℕ)) (statements : Statements) (depth : ℕ) : Type 0 where
  pub parts : Roled marks roles anything (grammar.Parts names depth) stop_parts quiet (Unit {0}) (read_parts names (parsers names expression_fuel) statements depth)
  pub groups : Firm anything (Closed plain punctuator.RightBrace (grammar.Groups names depth)) (λ _. anything) (before (read_groups names (parsers names expression_fuel) statements depth) (token Nothing plain (mark_offset punctuator.RightBrace)))

abbrev pub CompoundsReport : Type 0
CompoundsReport = (names : List (List ℕ)) (statements : Statements) (depth : ℕ) → Firm anything (grammar.Statement names depth) stop_statement (statements depth) → CompoundsFirm names statements depth

-- with fuel for all constructs that may still open: statements, and the contents of a block, whose parser is loose
pub record StatementsFirm (names : List (List ℕ)) (fuel depth : ℕ) : Type 0 where
  pub statement : Firm anything (Statement names depth) stop_statement (read_statement names (parsers names expression_fuel) fuel depth)
  pub parts : Roled marks roles anything (Parts names depth) stop_parts quiet (Unit {0}) (read_parts names (parsers names expression_fuel) (read_statement names (parsers names expression_fuel) fuel) depth)

-- whatever typedef names are in scope, and however many constructs are open
abbrev pub StatementsReport : Type 0
StatementsReport = (names : List (List ℕ)) (fuel depth : ℕ) → depth ≤ nesting_limit → statement_fuel ≤ depth + fuel → StatementsFirm names fuel depth
