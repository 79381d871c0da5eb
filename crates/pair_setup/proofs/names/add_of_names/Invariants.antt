use Rattle.std.proofs.Common.{List, ℕ, take}
use Rattle.pair_setup_calls.specs.Graph.{Grows}
use Rattle.pair_setup_calls.specs.Names.{IsNumber, names_of, texts_of}
use Rattle.pair_setup.specs.Names.{IsMarked, IsOf}
use Rattle.pair_setup.proofs.names.add_of_names.Given as goal

abbrev pub invariant-loop-name : goal.invariant-loop-name
invariant-loop-name l =
    Grows (IsOf (λ (name : List ℕ) (t : ℕ). IsNumber (names_of l.unit) t name × IsMarked l.marks t) (take l.name-index (texts_of l.names))) l.initial.found.items l.found.items
