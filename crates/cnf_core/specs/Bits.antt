-- Values of variables as a list of bits.
use Rattle.std.specs.Prelude.{◌-◌, Bool, false, List, get_or}
use Rattle.clause_check_spec.specs.Clause.{Valuation}

-- that of variable 1 comes first
abbrev pub valuation : List Bool → Valuation
valuation bits = λ variable. get_or bits (variable - 1) false
