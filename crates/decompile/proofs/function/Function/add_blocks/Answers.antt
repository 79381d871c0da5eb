use Rattle.std.proofs.Common.{◌≡◌, ◌∙◌, ◌+◌, ◌∷◌, List, map, drop, sym, ap}
use Rattle.std.proofs.lemmas.List.{drop_more}
use Rattle.graph_core_spec.specs.Graph.{with_nodes}
use Rattle.graph_core.specs.Graphs.{graph_of}
use Rattle.decompile_laws.specs.Layout.{blocks, laid}
use Rattle.decompile.specs.declared.items.Item.{Item}
use Rattle.decompile.specs.Items.{item_of}
use Rattle.decompile.specs.Settings.{setting_of}
use Rattle.decompile.proofs.Added.{block_added}
use Rattle.decompile.proofs.function.Function.add_blocks.Goals as goal

pub loop-item-preserved : goal.loop-item-preserved
loop-item-preserved c =
    let rest : drop c.loop-item.item-index c.args.items.now ≡ c.item-item.result ∷ drop (c.loop-item.item-index + 1) c.args.items.now =
    drop_more c.args.items.now c.loop-item.item-index c.item-item.result c.loop-item-test.true
    ∙ ap (λ (x : Item). x ∷ drop (c.loop-item.item-index + 1) c.args.items.now) (sym c.item-item.is) in
    block_added (setting_of c.args.self.now) (graph_of c.add_block.new.graph) (graph_of c.loop-item.graph) (laid (setting_of c.args.self.now) (map (item_of c.args.image.now) c.args.items.now))
    (item_of c.args.image.now c.item-item.result) (map (item_of c.args.image.now) (drop (c.loop-item.item-index + 1) c.args.items.now)) c.in_ok-add_block.ensures
    (ap (λ (is : List Item). with_nodes (graph_of c.loop-item.graph) (blocks (setting_of c.args.self.now) (map (item_of c.args.image.now) is))) (sym rest) ∙ c.loop-item.invariant)
