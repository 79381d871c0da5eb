use Rattle.std.proofs.Common.{◌≡◌, sym, subst}
use Rattle.proof_tree.specs.Ahead.{Grows}
use Rattle.proof_tree.proofs.Ahead.{grows-insert}
use Rattle.proof_tree.proofs.reachable.add.Goals as goal

pub returns : goal.returns
returns c = subst (λ z. Grows (λ n. c.args.node ≡ n) c.args.found.now.keys z) (sym c.in_ok-insert.ensures.keys) (grows-insert c.args.found.now.keys c.args.node)
