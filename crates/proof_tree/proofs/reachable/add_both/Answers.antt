use Rattle.std.proofs.Common.{◌≡◌}
use Rattle.graph_core_spec.specs.declared.Next.TheVariants as next
use Rattle.proof_tree.proofs.Ahead.{grows-then}
use Rattle.proof_tree.proofs.reachable.add_both.Goals as goal

pub returns : goal.returns
returns c =
    grows-then (λ n. c.args.on_true ≡ next.At n) (λ n. c.args.on_false ≡ next.At n) c.args.found.now.keys c.add_next.new.found.keys c.add_next-2.new.found.keys
    c.in_ok-add_next.ensures c.in_ok-add_next-2.ensures
