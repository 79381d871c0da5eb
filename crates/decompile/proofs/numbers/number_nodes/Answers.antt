use Rattle.std.proofs.Common.{◌≡◌, ◌∙◌, ◌+◌, ◌∷◌, ◌++◌, ℕ, List, map, drop, refl, sym, ap, subst}
use Rattle.std.specs.List.Sorted.{IsStrictlyIncreasing}
use Rattle.std.proofs.lemmas.List.{drop_more}
use Rattle.decompile.specs.declared.items.Item.{Item}
use Rattle.decompile.specs.Items.{item_of}
use Rattle.decompile.specs.Counts.{further_nodes, numbered}
use Rattle.decompile.proofs.Numbered.{next_numbered, same_keys}
use Rattle.decompile.proofs.numbers.number_nodes.Goals as goal

pub loop-item-preserved : goal.loop-item-preserved
loop-item-preserved c =
    λ image.
    let rest : drop c.loop-item.item-index c.args.items.now ≡ c.item-item.result ∷ drop (c.loop-item.item-index + 1) c.args.items.now =
    drop_more c.args.items.now c.loop-item.item-index c.item-item.result c.loop-item-test.true
    ∙ ap (λ (x : Item). x ∷ drop (c.loop-item.item-index + 1) c.args.items.now) (sym c.item-item.is) in
    next_numbered c.args.by c.loop-item.next c.in_ok-next.next (further_nodes c.args.by (item_of image c.item-item.result)) c.loop-item.firsts.entries c.insert.new.self.entries
    (item_of image c.item-item.result) (map (item_of image) (drop (c.loop-item.item-index + 1) c.args.items.now)) (map (item_of image) c.args.items.now)
    c.in_ok-insert.ensures.entries refl (c.in_ok-next.ensures image)
    (ap (λ (is : List Item). c.loop-item.firsts.entries ++ numbered c.args.by c.loop-item.next (map (item_of image) is)) (sym rest) ∙ c.loop-item.invariant image)
    (subst (λ (xs : List ℕ). IsStrictlyIncreasing xs) (sym (same_keys image c.args.items.now)) c.requires.rising)
