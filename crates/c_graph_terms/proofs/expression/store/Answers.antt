use Rattle.std.proofs.Common.{subst}
use Rattle.std.proofs.lemmas.Result.{IfOk-weaker}
use Rattle.memory_spec.specs.Viewed.{runs_of}
use Rattle.term_core_spec.specs.Term.{Term}
use Rattle.c_types_spec.specs.Core.{Core}
use Rattle.c_types_core.specs.Expressions.{core_of}
use Rattle.c_graph_spec.specs.Values.{Globals, Object, object, terms}
use Rattle.c_graph_spec.specs.Guards.{tests}
use Rattle.c_graph_terms.specs.Scenes.{globals_of, object_at, target_of}
use Rattle.c_graph_terms.specs.Tests.{IsEvaluated}
use Rattle.c_graph_terms.proofs.Expressions.{stored_one}
use Rattle.c_graph_terms.proofs.expression.store.Goals as goal

pub returns-3 : goal.returns-3
returns-3 c =
    let g : Globals = globals_of c.args.scene.now in
    let o : Object = object_at c.args.bank.now c.args.scene.now.target in
    let a : Core = core_of c.args.address.now in
    let v : Core = core_of c.args.value.now in
    let there : Object = target_of g o a c.args.displacement in
    let b = c.evaluate.new.bank in
    let d = c.evaluate-2.new.bank in
    let i = c.args.tests.now.items in
    let j = c.evaluate.new.tests.items in
    let k = c.evaluate-2.new.tests.items in
    let second : IsEvaluated b d j k c.in-Ok-attempt-x.field-0 (terms g there v) (tests g there v) =
    subst (λ (t : Term). IsEvaluated b d j k c.in-Ok-attempt-x.field-0 (terms g (object t c.args.displacement) v) (tests g (object t c.args.displacement) v)) c.in-Ok-attempt.ensures.are.word_is c.in-Ok-attempt-x.ensures in
    IfOk-weaker c.store_object.result _ _
    (λ id h.
    stored_one c.args.bank.now b d c.store_object.new.bank i j k c.store_object.new.tests.items c.in-Ok-attempt.field-0 c.in-Ok-attempt-x.field-0 id (terms g o a) (terms g there v) (tests g o a) (tests g there v)
    (runs_of c.args.runs.now) c.args.of c.args.displacement c.in-Ok-attempt.ensures second h)
    c.store_object.ensures
