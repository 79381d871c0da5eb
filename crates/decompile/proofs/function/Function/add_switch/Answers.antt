use Rattle.std.proofs.Common.{◌≡◌, ◌∙◌, ◌<◌, ◌∷◌, ℕ, List, ap, refl, arith}
use Rattle.graph_core_spec.specs.Graph.{Node, with_nodes}
use Rattle.graph_core.specs.Graphs.{graph_of}
use Rattle.code_reach_tables.specs.Tables.{jump_seen}
use Rattle.decompile_spec.specs.Blocks.{table_tests}
use Rattle.decompile.specs.Settings.{setting_of}
use Rattle.decompile.proofs.Added.{switch_added, empty_switch_added}
use Rattle.decompile.proofs.Tabled.{no_targets, some_targets, index_added, all_added, from_first, from_index}
use Rattle.decompile.proofs.function.Function.add_switch.Goals as goal

pub loop-n-init : goal.loop-n-init
loop-n-init c = refl

pub loop-n-preserved : goal.loop-n-preserved
loop-n-preserved c =
    index_added (setting_of c.args.self.now) c.args.image.now c.args.item.now.address c.args.jump c.loop-n.n (graph_of c.loop-n.graph) (graph_of c.add_index.new.graph)
    (with_nodes (graph_of c.args.graph.now) (from_index (setting_of c.args.self.now) c.args.image.now c.args.item.now.address c.args.jump 0))
    c.loop-n-test.true c.in_ok-add_index.ensures c.loop-n.invariant

pub returns-then-jump-eq0 : goal.returns-then-jump-eq0
returns-then-jump-eq0 c =
    empty_switch_added (setting_of c.args.self.now) c.args.item.now.address c.args.item.now.keeps c.args.item.now.instruction (graph_of c.add_plain.new.graph) (graph_of c.args.graph.now)
    (jump_seen c.args.image.now c.args.jump) (no_targets c.args.image.now c.args.jump.first c.args.jump.count (omega (arith, c.if-jump-eq0.true))) c.in_ok-add_plain.ensures

pub returns : goal.returns
returns c =
    let some : 0 < c.args.jump.count = omega arith in
    let targets = some_targets c.args.image.now c.args.jump.first c.args.jump.count some in
    let nodes : from_index (setting_of c.args.self.now) c.args.image.now c.args.item.now.address c.args.jump 0
    ≡ table_tests (setting_of c.args.self.now) c.args.item.now.address 0 (targets.0 ∷ targets.1) =
    from_first (setting_of c.args.self.now) c.args.image.now c.args.item.now.address c.args.jump
    ∙ ap (λ (ts : List ℕ). table_tests (setting_of c.args.self.now) c.args.item.now.address 0 ts) targets.2 in
    switch_added (setting_of c.args.self.now) c.args.item.now.address c.args.item.now.keeps c.args.item.now.instruction (graph_of c.loop-n.graph) (graph_of c.args.graph.now)
    (jump_seen c.args.image.now c.args.jump) targets.0 targets.1 targets.2
    (all_added (setting_of c.args.self.now) c.args.image.now c.args.item.now.address c.args.jump c.loop-n.n (graph_of c.loop-n.graph)
    (with_nodes (graph_of c.args.graph.now) (from_index (setting_of c.args.self.now) c.args.image.now c.args.item.now.address c.args.jump 0))
    (omega arith) c.loop-n.invariant
    ∙ ap (with_nodes (graph_of c.args.graph.now)) nodes)
