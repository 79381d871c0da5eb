use Rattle.std.proofs.Common.{◌∙◌, Some, None, sym, ap}
use Rattle.std.specs.Prelude.{option_map}
use Rattle.c_graph_terms.specs.Scenes.{place_of}
use Rattle.c_types.specs.Typed.{body_of_name, typed_of}
use Rattle.c_graph.specs.Seen.{made_for}
use Rattle.c_graph.proofs.Making.{made_named}
use Rattle.c_graph.proofs.source_graph.translate.Goals as goal

pub returns-in-Ok-attempt : goal.returns-in-Ok-attempt
returns-in-Ok-attempt c =
    let unit = typed_of c.args.unit.now in
    let p = place_of c.args.place.now in
    ap Some (c.in-Ok-attempt.ensures ∙ made_named unit p c.in-Some.body.now.name.now c.args.name.now c.in-Some.body.now)
    ∙ ap (option_map (made_for unit p)) (ap (option_map (λ b. body_of_name c.args.name.now b.now)) (sym c.in-Some.is) ∙ c.body.ensures)

pub returns-in-None : goal.returns-in-None
returns-in-None c =
    ap (option_map (made_for (typed_of c.args.unit.now) (place_of c.args.place.now))) (ap (option_map (λ b. body_of_name c.args.name.now b.now)) (sym c.in-None.is) ∙ c.body.ensures)
