-- A side of a rule, of the code as the definitions have it, in a bank: a sight, where its walk is acyclic.
use Rattle.std.specs.Prelude.{◌≡◌, List, Option, Some, None}
use Rattle.term_core_spec.specs.Term.{Term}
use Rattle.sim_rules_spec.specs.Rules.{Seen}
use Rattle.sim_rules_terms.specs.declared.sight.Sight.{Sight}
use Rattle.sim_rules_terms.specs.Ways.{IsSight}

abbrev pub IsSeen : List Term → Seen → Option Sight → Type 0
IsSeen trees side (Some s) = (side.visits ≡ Some s.visits.now.visits) × IsSight trees side.way s
IsSeen trees side None = side.visits ≡ None
