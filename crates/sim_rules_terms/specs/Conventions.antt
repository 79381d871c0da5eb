-- A convention of the code as the definitions have it.
use Rattle.std.specs.Prelude.{◌≡◌}
use Rattle.term_core_spec.specs.Term.{Term, and_term, or_term, not_term, equal, less, load, open_term}
use Rattle.term_core.specs.Trees.{term_of}
use Rattle.proof_tree.specs.Frames.{terms_of}
use Rattle.sim_rules_spec.specs.Points as spec
use Rattle.sim_rules_spec.specs.Points.{address, binary_memory, source_memory}
use Rattle.sim_rules_terms.specs.declared.convention.Convention.{Convention}

-- the address is from the first term to below the second
abbrev pub in_zone : (from to : Term) → Term
in_zone from to = and_term (not_term (less (open_term address) from)) (less (open_term address) to)

abbrev pub same_bytes : (from to : Term) → Term
same_bytes from to =
    or_term (in_zone from to) (equal (load (open_term binary_memory) (open_term address)) (load (open_term source_memory) (open_term address)))

-- the lines where both sides have returned, and memory
pub record IsConventionOf (code : Convention) (c : spec.Convention) : Type 0 where
  pub returns_are : c.returns ≡ terms_of code.returns.now
  pub memory_is : spec.same_byte c ≡ term_of code.memory.value
