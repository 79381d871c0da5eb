-- The law of the parsers of parameters and of declarators in external declarations: they are exact and keep roles.
use Rattle.std.specs.Prelude.{ℕ, Bool, List}
use Rattle.c_parse_spec.specs.Units.{GlobalDeclarator}
use Rattle.exact_read.specs.Grammar.{anything}
use Rattle.c_parse_spec.specs.Limits.{expression_fuel}
use Rattle.c_parse_laws.specs.Parsers.{Parsers}
use Rattle.c_parse_laws.specs.Fuel.{parsers}
use Rattle.c_parse_laws.specs.Parameters.{read_parameters, read_global}
use Rattle.c_parse_laws.specs.GlobalTexts.{ParametersText, stop_global}
use Rattle.c_parse_laws.specs.Firm.{Firm}

-- whatever is open around
pub record GlobalsFirm (names : List (List ℕ)) (inner : Parsers) : Type 0 where
  pub parameters : (depth : ℕ) → Firm anything (ParametersText names depth) (λ _. anything) (read_parameters names inner depth)
  pub global : (is_typedef : Bool) → Firm anything (GlobalDeclarator names is_typedef) (stop_global is_typedef) (read_global names inner is_typedef)

-- whatever typedef names are in scope
abbrev pub GlobalsReport : Type 0
GlobalsReport = (names : List (List ℕ)) → GlobalsFirm names (parsers names expression_fuel)
