use Rattle.std.proofs.Common.{◌≡◌, ◌∙◌, ℕ, ◌+◌, ◌<◌, List, ◌∷◌, ◌++◌, [], length, map, take, get_or, refl, sym, ap, subst, arith}
use Rattle.std.proofs.lemmas.List.{take_all}
use Rattle.c_graph_terms.specs.Tables.{id_at}
use Rattle.c_graph_terms.proofs.Growing.{within_at}
use Rattle.c_graph.proofs.Ids.{any_default, map_more}
use Rattle.c_graph.proofs.imports.mapped.Goals as goal

pub bounds-ids-id : goal.bounds-ids-id
bounds-ids-id c = within_at (length c.args.ids.now) c.args.given.now c.loop-id.id-index c.requires c.loop-id-test.true

pub offset_bounds-ids-id : goal.offset_bounds-ids-id
offset_bounds-ids-id c =
    let inside : get_or c.args.given.now c.loop-id.id-index 0 < length c.args.ids.now = within_at (length c.args.ids.now) c.args.given.now c.loop-id.id-index c.requires c.loop-id-test.true in
    omega arith

pub loop-id-preserved : goal.loop-id-preserved
loop-id-preserved c =
    let ids = c.args.ids.now in
    let given = c.args.given.now in
    let i = c.loop-id.id-index in
    let at : ℕ = get_or given i 0 in
    c.in_ok-push.ensures.items ∙ ap (λ (l : List ℕ). l ++ id_at ids at ∷ []) c.loop-id.invariant ∙ sym (map_more (id_at ids) given i at c.loop-id-test.true (any_default given i 0 at c.loop-id-test.true))

pub returns : goal.returns
returns c = c.loop-id.invariant ∙ ap (map (id_at c.args.ids.now)) (take_all c.loop-id.id-index c.args.given.now c.loop-id-test.false)
