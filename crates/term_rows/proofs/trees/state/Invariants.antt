use Rattle.std.proofs.Common.{length}
use Rattle.std.specs.HashMap.{get}
use Rattle.term_core_spec.specs.Same.{same_variable}
use Rattle.term_substitution.specs.States.{AreBelow}
use Rattle.term_rows.proofs.trees.state.Given as goal

abbrev pub invariant-loop-name : goal.invariant-loop-name
invariant-loop-name l =
    (goal.iterator-loop-name).can_next l.name-iterator × (goal.iterator-loop-name).is_finite l.name-iterator
    × AreBelow (length l.fn.bank) (get same_variable l.state)
