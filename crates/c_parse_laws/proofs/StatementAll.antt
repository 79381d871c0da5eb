-- Statements and blocks keep roles.
use Rattle.std.proofs.Common.{ℕ, ◌+◌, ◌≤◌, List}
use Rattle.c_parse_spec.specs.Limits.{nesting_limit, statement_fuel, expression_fuel}
use Rattle.c_parse_laws.specs.Fuel.{parsers}
use Rattle.c_parse_laws.proofs.ExpressionFuel.{all-roled}
use Rattle.c_parse_laws.specs.Statements.{read_statement}
use Rattle.c_parse_laws.specs.StatementExactness.{StatementsFirm}
use Rattle.c_parse_laws.proofs.Parts.{roled-parts}
use Rattle.c_parse_laws.proofs.StatementFuel.{roled-statement}

pub statements-roled : (names : List (List ℕ)) (fuel depth : ℕ) → depth ≤ nesting_limit → statement_fuel ≤ depth + fuel → StatementsFirm names fuel depth
statements-roled names fuel depth small enough_fuel =
    let all = all-roled names in
    let is = roled-statement names (parsers names expression_fuel) all fuel depth small enough_fuel in
    record { statement = is; parts = roled-parts names (parsers names expression_fuel) all (read_statement names (parsers names expression_fuel) fuel) depth is }
