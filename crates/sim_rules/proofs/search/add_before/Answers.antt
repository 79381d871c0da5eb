use Rattle.std.proofs.Common.{◌∙◌, List, ℕ, OnOk, subst}
use Rattle.std.specs.Prelude.{Contains}
use Rattle.proof_tree.specs.Ahead.{Grows}
use Rattle.sim_rules.specs.Tables.{list_at, lists_of}
use Rattle.sim_rules.proofs.Gaining.{none_past, read-items}
use Rattle.proof_tree.proofs.Ahead.{grows-none}
use Rattle.sim_rules.proofs.search.add_before.Goals as goal

pub returns-then-node-before : goal.returns-then-node-before
returns-then-node-before c = grows-none (λ k. Contains (list_at (lists_of c.args.before.now) c.args.node) k) c.args.found.now.keys (λ k h. none_past c.args.before.now c.args.node k c.if-node-before.true h)

pub returns : goal.returns
returns c =
    subst (λ (l : List ℕ). OnOk c.add_all.result (Grows (λ k. Contains l k) c.args.found.now.keys c.add_all.new.found.keys))
    (c.as_slice.ensures.value ∙ read-items c.args.before.now c.args.node c.index-before-node.result c.if-node-before.false c.index-before-node.is) c.add_all.ensures
