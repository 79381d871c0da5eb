use Rattle.std.proofs.Common.{map, drop}
use Rattle.term_bank.specs.Nodes.{tree_at}
use Rattle.templates.specs.Added.{on_each}
use Rattle.templates.proofs.Growth.{IsSoFar}
use Rattle.templates.proofs.adding.add_on_all.Given as goal

abbrev pub invariant-loop-x : goal.invariant-loop-x
invariant-loop-x l =
    IsSoFar l.fn.bank l.bank l.fn.ids.items l.ids.items (λ x. on_each l.operator (tree_at l.fn.bank x) (map (tree_at l.fn.bank) l.ys)) l.xs (drop l.x-index l.xs)
