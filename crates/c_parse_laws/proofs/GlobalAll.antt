-- Parameters and declarators in external declarations keep roles.
use Rattle.std.proofs.Common.{ℕ, List}
use Rattle.c_parse_spec.specs.Limits.{expression_fuel}
use Rattle.c_parse_laws.specs.Fuel.{parsers}
use Rattle.c_parse_laws.proofs.ExpressionFuel.{all-roled}
use Rattle.c_parse_laws.specs.GlobalExactness.{GlobalsFirm}
use Rattle.c_parse_laws.proofs.Inside.{roled-parameters}
use Rattle.c_parse_laws.proofs.GlobalRoles.{roled-global}

pub globals-roled : (names : List (List ℕ)) → GlobalsFirm names (parsers names expression_fuel)
globals-roled names = record { parameters = roled-parameters names (parsers names expression_fuel) (all-roled names); global = roled-global names (parsers names expression_fuel) (all-roled names) }
