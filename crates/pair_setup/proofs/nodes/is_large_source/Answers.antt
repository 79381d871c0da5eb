use Rattle.std.proofs.Common.{◌∙◌, ap, sym, refl, true≢false}
use Rattle.c_types_core.specs.Actions.{action_of}
use Rattle.c_graph_spec.specs.Layout.{size}
use Rattle.c_types.specs.Typed.{typed_of, body_of_name}
use Rattle.pair_setup_calls.specs.Names.{names_of}
use Rattle.pair_setup.proofs.Large.{source-large, source-none}
use Rattle.pair_setup.proofs.nodes.is_large_source.Goals as goal

pub returns-in-Ok-attempt : goal.returns-in-Ok-attempt
returns-in-Ok-attempt c =
    source-large (typed_of c.args.unit.now) (names_of c.args.unit.now) c.args.number (λ name. body_of_name name c.in-Some.body.now) (action_of c.in-Some.body.now.action.value)
    c.in-Ok-attempt.field-0 c.in-Some.ensures.named c.in-Some.ensures.found (λ name. refl)
    (λ f. c.in-Ok-attempt.ensures.size f ∙ ap (λ a. size f (action_of a)) c.deref.ensures)

pub returns-in-None : goal.returns-in-None
returns-in-None c = (
  λ no. absurd (true≢false (sym no)),
  λ large. absurd (source-none (typed_of c.args.unit.now) (names_of c.args.unit.now) c.args.number c.in-None.ensures.found large),
)
