-- Accesses by the terms of an address and of the base that it is past.
use Rattle.std.specs.Prelude.{◌≡◌, ℕ, ◌-◌, ◌<◌, List, [], ◌∷◌, ◌++◌, length, Result, IfOk}
use Rattle.memory_spec.specs.Runs.{Run}
use Rattle.term_core_spec.specs.Term.{Term, not_term, and_term, less, add}
use Rattle.term_bank.specs.Nodes.{tree_at}
use Rattle.c_types_spec.specs.declared.Scalar.{Scalar}
use Rattle.c_graph_spec.specs.State.{number}
use Rattle.c_graph_spec.specs.Guards.{bytes, is_aligned, avoids_zone, avoids_fixed}
use Rattle.c_graph_terms.specs.Tests.{IsTested}

-- guard 5 of an object of a type
abbrev pub accessible_at : Scalar → (address base : Term) → Term
accessible_at type address base = and_term (is_aligned (bytes type) address) (not_term (less address base))

-- the last byte of an object of a type
abbrev pub last_of : Scalar → (address : Term) → Term
last_of type address = add address (number (bytes type - 1))

abbrev pub read_tests_at : Scalar → (address base : Term) → List Term
read_tests_at type address base = accessible_at type address base ∷ avoids_zone address (last_of type address) ∷ []

abbrev pub write_tests_at : List Run → Scalar → (address base : Term) → List Term
write_tests_at runs type address base = read_tests_at type address base ++ avoids_fixed address (last_of type address) runs ∷ []

-- the memory after a store, and the tests before it
pub record IsStored (old new : List Term) (before after : List ℕ) (id : ℕ) (term : Term) (tests : List Term) : Type 0 where
  pub tested : IsTested old new before after tests
  pub within : id < length new
  pub tree : tree_at new id ≡ term

abbrev pub Stores : {E : Type 0} → (old new : List Term) → (before after : List ℕ) → Result ℕ E → Term → List Term → Type 0
Stores old new before after result term tests = IfOk result (λ id. IsStored old new before after id term tests)
