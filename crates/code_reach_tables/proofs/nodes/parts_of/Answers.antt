use Rattle.std.proofs.Common.{◌∙◌, sym, ap, ℕ, Option}
use Rattle.std.specs.Option.{option_map}
use Rattle.code_reach_tables.specs.Nodes.{trees_of, tree_at, parts_seen}
use Rattle.code_reach_tables.proofs.Trees.{no-parts, no-constant, some-constant}
use Rattle.code_reach_tables.proofs.nodes.parts_of.Goals as goal

pub returns-in_default : goal.returns-in_default
returns-in_default c = record { parts = no-parts (trees_of c.args.nodes.now.keys) _ c.node_at.result c.node_at.ensures.tree c.in_default.not-Sum; below = tt }

pub returns-in_err-n-clause-parts : goal.returns-in_err-n-clause-parts
returns-in_err-n-clause-parts c =
    ap (λ (o : Option (ℕ × ℕ)). option_map (parts_seen (trees_of c.args.nodes.now.keys)) o) c.from_residual.ensures
    ∙ sym (no-constant _ (tree_at (trees_of c.args.nodes.now.keys) c.in-Sum.rest) (tree_at (trees_of c.args.nodes.now.keys) c.in-Sum.constant) c.in-Sum.ensures.tree c.in_err-n.ensures)

pub returns-clause-parts : goal.returns-clause-parts
returns-clause-parts c =
    some-constant _ (tree_at (trees_of c.args.nodes.now.keys) c.in-Sum.rest) (tree_at (trees_of c.args.nodes.now.keys) c.in-Sum.constant) c.in_ok-n.n c.in-Sum.ensures.tree c.in_ok-n.ensures
