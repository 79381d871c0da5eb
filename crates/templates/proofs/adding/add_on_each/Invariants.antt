use Rattle.std.proofs.Common.{[], ◌∷◌, drop}
use Rattle.term_core_spec.specs.Term.{Binary}
use Rattle.term_bank.specs.Nodes.{tree_at}
use Rattle.templates.proofs.Growth.{IsSoFar}
use Rattle.templates.proofs.adding.add_on_each.Given as goal

abbrev pub invariant-loop-y : goal.invariant-loop-y
invariant-loop-y l =
    IsSoFar l.fn.bank l.bank l.fn.ids.items l.ids.items (λ y. Binary l.operator (tree_at l.fn.bank l.x) (tree_at l.fn.bank y) ∷ []) l.ys (drop l.y-index l.ys)
