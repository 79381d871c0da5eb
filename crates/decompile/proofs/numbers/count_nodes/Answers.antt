use Rattle.std.proofs.Common.{◌≡◌, ◌∙◌, ◌+◌, ◌∷◌, List, map, drop, refl, sym, ap, rules, arith}
use Rattle.std.proofs.lemmas.Grind.{common_steps}
use Rattle.std.proofs.lemmas.List.{drop_more}
use Rattle.decompile.specs.declared.items.Item.{Item}
use Rattle.decompile.specs.Items.{item_of}
use Rattle.decompile.specs.Counts.{further_nodes, counted}
use Rattle.decompile.proofs.Counted.{one_too_many, none_fits}
use Rattle.decompile.proofs.numbers.count_nodes.Goals as goal

pub returns-in_err-count-clause-large : goal.returns-in_err-count-clause-large
returns-in_err-count-clause-large c =
    λ image.
    let fact = none_fits c.args.by c.args.maximum (map (item_of image) c.args.items.now) _ c.in_err-count.ensures.large.0 c.in_err-count.ensures.large.1 in
    first_of (search (rules, fact), grind (arith, common_steps, fact))

pub returns-in_err-count-2-clause-large : goal.returns-in_err-count-2-clause-large
returns-in_err-count-2-clause-large c =
    λ image.
    let rest : drop c.loop-item.item-index c.args.items.now ≡ c.item-item.result ∷ drop (c.loop-item.item-index + 1) c.args.items.now =
    drop_more c.args.items.now c.loop-item.item-index c.item-item.result c.loop-item-test.true
    ∙ ap (λ (x : Item). x ∷ drop (c.loop-item.item-index + 1) c.args.items.now) (sym c.item-item.is) in
    let further = further_nodes c.args.by (item_of image c.item-item.result) in
    let fact = one_too_many c.args.by c.loop-item.count further (further + 1) c.in_ok-next.next (item_of image c.item-item.result)
    (map (item_of image) (drop (c.loop-item.item-index + 1) c.args.items.now)) (map (item_of image) c.args.items.now) refl refl (c.in_ok-next.ensures image)
    (ap (λ (is : List Item). counted c.args.by c.loop-item.count (map (item_of image) is)) (sym rest) ∙ c.loop-item.invariant.1 image)
    c.args.maximum _ c.in_err-count-2.ensures.large.0 c.in_err-count-2.ensures.large.1 in
    first_of (search (rules, fact), grind (arith, common_steps, fact))
