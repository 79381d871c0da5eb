use Rattle.std.proofs.Common.{◌≡◌, ℕ, List, sym, subst}
use Rattle.graph_core.specs.Shared.{shared_node_of}
use Rattle.graph_core_spec.specs.Run.{GoesTo}
use Rattle.proof_tree.specs.Ahead.{Grows}
use Rattle.proof_tree.proofs.Ahead.{grows-as, grows-insert, grows-none}
use Rattle.sim_rules.proofs.search.add_if.Goals as goal

pub returns-2 : goal.returns-2
returns-2 c = λ trees.
    let P : ℕ → Type 0 = λ k. (c.args.from ≡ k) × GoesTo (shared_node_of trees c.args.node.now) c.args.point in
    let goes = (c.goes_to.ensures trees).0 c.if-not-goes_to.false in
    grows-as (λ k. c.args.from ≡ k) P c.args.found.now.keys c.insert.new.self.keys (λ k is. (is, goes)) (λ k h. h.0)
    (subst (λ (l : List ℕ). Grows (λ k. c.args.from ≡ k) c.args.found.now.keys l) (sym c.in-Ok-attempt.ensures.keys) (grows-insert c.args.found.now.keys c.args.from))
