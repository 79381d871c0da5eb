use Rattle.std.proofs.Common.{[], refl, sym}
use Rattle.std.specs.Prelude.{slice_get}
use Rattle.pair_setup_calls.specs.Graph.{Grows}
use Rattle.c_types_core.specs.Actions.{action_of}
use Rattle.c_types.specs.Typed.{typed_of, body_of_name}
use Rattle.pair_setup_spec.specs.SourceReach.{calls_in}
use Rattle.pair_setup_calls.specs.Names.{AreCalled, HasNumberAmong, names_of}
use Rattle.pair_setup_calls.proofs.Bodies.{some-of, ok-weaker, called-some}
use Rattle.pair_setup_calls.proofs.graph.called_numbers.Goals as goal

pub returns-in-Some : goal.returns-in-Some
returns-in-Some c =
    let named = some-of (slice_get (names_of c.args.unit.now) c.args.caller) c.in-Some.ensures.named in
    ok-weaker c.numbers_of_body.result
    (λ numbers. Grows (HasNumberAmong (names_of c.args.unit.now) (calls_in (action_of c.in-Some.body.now.action.value))) [] numbers.items)
    (λ numbers. AreCalled (typed_of c.args.unit.now) (names_of c.args.unit.now) c.args.caller numbers.items)
    (λ numbers g. called-some (typed_of c.args.unit.now) (names_of c.args.unit.now) c.args.caller named.0 (body_of_name named.0 c.in-Some.body.now)
    (calls_in (action_of c.in-Some.body.now.action.value)) numbers.items named.1 (sym (c.in-Some.ensures.found named.0 named.1)) refl g)
    c.numbers_of_body.ensures
