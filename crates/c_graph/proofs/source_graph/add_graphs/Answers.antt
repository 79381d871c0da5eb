use Rattle.std.proofs.Common.{◌≡◌, ◌∙◌, ◌++◌, ◌∷◌, [], ◌<◌, ◌≤◌, length, map, take, Some, sym, ap, ap₂, arith, append_assoc}
use Rattle.std.specs.Prelude.{option_map, slice_get}
use Rattle.std.proofs.lemmas.List.{map-append, take_all}
use Rattle.c_graph_terms.specs.Scenes.{place_of}
use Rattle.c_types.specs.Typed.{bodies_of, body_of, typed_of}
use Rattle.c_graph.specs.Seen.{made_for, made_of}
use Rattle.c_graph.proofs.Making.{bodies_more}
use Rattle.c_graph.proofs.source_graph.add_graphs.Goals as goal

pub loop-i-preserved : goal.loop-i-preserved
loop-i-preserved c =
    let unit = typed_of c.args.unit.now in
    let p = place_of c.args.place.now in
    let entries = c.args.unit.now.bodies.entries in
    let i = c.loop-i.i in
    let old = map made_of c.args.found.now.items in
    let key = c.unwrap.result.0.now in
    let body = c.unwrap.result.1.now in
    let below : i < length entries = omega arith in
    let is : slice_get entries i ≡ Some (key, body) = sym c.get_index.ensures.entry ∙ ap (option_map _) c.unwrap.ensures in
    ap (map made_of) c.in_ok-push.ensures.items ∙ map-append made_of c.loop-i.found.items (c.in-Ok-attempt.field-0 ∷ [])
    ∙ ap₂ (λ l m. l ++ m ∷ []) c.loop-i.invariant c.in-Ok-attempt.ensures
    ∙ append_assoc old (map (made_for unit p) (bodies_of (take i entries))) (made_for unit p (body_of body) ∷ [])
    ∙ ap (λ l. old ++ l) (sym (bodies_more unit p entries i key body below is))

pub returns : goal.returns
returns c =
    let unit = typed_of c.args.unit.now in
    let p = place_of c.args.place.now in
    let entries = c.args.unit.now.bodies.entries in
    let past : length entries ≤ c.loop-i.i = omega arith in
    c.loop-i.invariant ∙ ap (λ l. map made_of c.args.found.now.items ++ map (made_for unit p) (bodies_of l)) (take_all c.loop-i.i entries past)
