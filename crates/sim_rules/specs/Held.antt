-- Terms of a bank by their ids, one list after another.
use Rattle.std.specs.Prelude.{ℕ, List, ◌++◌}
use Rattle.term_core_spec.specs.Term.{Term}
use Rattle.sim_rules_terms.specs.Held.{AreHeld}

-- after the ids of some terms come those of these
abbrev pub HasAdded : (before now : List Term) → List Term → (old new : List ℕ) → Type 0
HasAdded before now terms old new = (earlier : List Term) → AreHeld before old earlier → AreHeld now new (earlier ++ terms)
