use Rattle.std.proofs.Common.{◌≡◌, [], ◌∷◌, length, replicate, sym, ◌∙◌, ap, subst}
use Rattle.std.proofs.lemmas.List.{length-map, length-replicate}
use Rattle.visit_walk_spec.specs.DepthFirst.{Takes}
use Rattle.visit_walk_spec.specs.declared.Incoming.{Incoming}
use Rattle.std.specs.Prelude.{Vec}
use Rattle.std.specs.Global.{Global}
use Rattle.visit_walk.specs.Search.{numbers_at}
use Rattle.visit_walk.specs.Listings.{AllTargetsWithin, with_all_edges}
use Rattle.visit_walk.proofs.Entering.{targets_within}
use Rattle.visit_walk.proofs.Filled.{filled}
use Rattle.visit_walk.proofs.found.fill.Goals as goal

pub add_all_edges-requires : goal.add_all_edges-requires
add_all_edges-requires c =
    let long : length c.find.new.table.keys.keys ≡ length c.add_empty.new.incoming.items =
    sym (sym (length-map c.add_empty.new.incoming.items (λ (v : Vec Incoming Global). v.items))
    ∙ (ap length c.in_ok-add_empty.ensures ∙ (length-replicate c.len.result [] ∙ c.len.ensures.len))) in
    subst (λ ts. AllTargetsWithin (length c.add_empty.new.incoming.items) ts) (sym c.as_slice-2.ensures.value)
    (subst (λ n. AllTargetsWithin n c.find.new.targets.items) long
    (targets_within c.args.shape.now c.args.marks.now c.args.start c.args.maximum c.find.new.table c.find.new.targets.items c.in_ok-find.ensures.found.listed))

pub returns-clause-filled : goal.returns-clause-filled
returns-clause-filled c =
    filled c.args.shape.now c.args.marks.now c.args.start c.args.maximum c.find.new.table c.find.new.targets.items c.in_ok-find.ensures.found.listed c.turn.new.order.items
    c.add_all_edges.new.incoming.items
    (subst (Takes (numbers_at c.find.new.targets.items) [] (0 ∷ [])) (sym c.turn.ensures) c.in_ok-find.ensures.found.ordered)
    (c.in_ok-add_all_edges.ensures
    ∙ (ap (λ ls. with_all_edges ls 0 c.as_slice.result.now c.as_slice-2.result.now) (c.in_ok-add_empty.ensures ∙ ap (λ n. replicate n []) c.len.ensures.len)
    ∙ (ap (λ o. with_all_edges (replicate (length c.find.new.table.keys.keys) []) 0 o c.as_slice-2.result.now) c.as_slice.ensures.value
    ∙ ap (λ ts. with_all_edges (replicate (length c.find.new.table.keys.keys) []) 0 c.turn.new.order.items ts) c.as_slice-2.ensures.value)))
