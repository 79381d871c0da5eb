-- The addresses of the loads of a goal.
use Rattle.std.proofs.Common.{◌≡◌, ◌≤◌, ℕ, List, [], ◌∷◌, Some, arith}
use Rattle.term_core_spec.specs.declared.Sort.TheVariants as sort
use Rattle.term_core_spec.specs.Term.{Term}
use Rattle.term_core_spec.specs.Sort.{sort_of}
use Rattle.bit_blast_spec.specs.Goal.{Load, visit, loads_of}
use Rattle.bit_blast_laws.proofs.Alike.{AllLong}
use Rattle.bit_blast_laws.proofs.AssignmentsWhole.{goal_long}
use Rattle.bit_blast.specs.Backs.{AreShort}

short_of : (n : ℕ) → n ≡ 32 → n ≤ 32
short_of n e = omega arith

all_short : (loads : List Load) → AllLong loads → AreShort loads
all_short [] long = tt
all_short (load ∷ loads) long = (short_of _ long.0.0, all_short loads long.1)

-- the loads of a goal have addresses of 32 bits
pub goal_short : (goal : Term) → sort_of goal ≡ Some sort.Truth → AreShort (loads_of (visit goal [] 1).out (visit goal [] 1).out)
goal_short goal e = all_short (loads_of (visit goal [] 1).out (visit goal [] 1).out) (goal_long goal e)
