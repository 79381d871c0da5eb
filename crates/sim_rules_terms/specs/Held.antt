-- Terms of a bank by their ids.
use Rattle.std.specs.Prelude.{ℕ, List, [], ◌∷◌}
use Rattle.term_core_spec.specs.Term.{Term}
use Rattle.term_bank.specs.Nodes.{Holds}

-- these are the ids of these terms
abbrev pub AreHeld : List Term → List ℕ → List Term → Type 0
AreHeld trees [] [] = Unit {0}
AreHeld trees [] (t ∷ terms) = ⊥
AreHeld trees (i ∷ ids) [] = ⊥
AreHeld trees (i ∷ ids) (t ∷ terms) = Holds trees i t × AreHeld trees ids terms
