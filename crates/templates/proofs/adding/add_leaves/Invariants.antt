use Rattle.std.proofs.Common.{[], ◌∷◌, drop}
use Rattle.templates.specs.Added.{leaf_of}
use Rattle.templates.proofs.Growth.{IsSoFar}
use Rattle.templates.proofs.adding.add_leaves.Given as goal

abbrev pub invariant-loop-number : goal.invariant-loop-number
invariant-loop-number l = IsSoFar l.fn.bank l.bank l.fn.ids.items l.ids.items (λ n. leaf_of l.leaves n ∷ []) l.numbers (drop l.number-index l.numbers)
