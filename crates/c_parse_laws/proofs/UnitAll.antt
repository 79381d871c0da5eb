-- Units are read exactly.
use Rattle.c_parse_laws.specs.UnitExactness.{UnitExact}
use Rattle.c_parse_laws.proofs.ExternalDeclarations.{unit-exact}

pub unit-is_exact : UnitExact
unit-is_exact = record { found = unit-exact.found; only = unit-exact.only; wrong = unit-exact.wrong; exceeded = unit-exact.exceeded }
