use Rattle.std.proofs.Common.{subst}
use Rattle.std.proofs.lemmas.Result.{on_ok_weaker}
use Rattle.term_bank.specs.Nodes.{tree_at}
use Rattle.c_types_spec.specs.declared.Scalar.{Scalar}
use Rattle.c_types_spec.specs.Core.{type_of}
use Rattle.c_types_core.specs.Expressions.{core_of}
use Rattle.c_graph_spec.specs.Values.{no_object, terms}
use Rattle.c_graph_spec.specs.Layout.{set_local, tests_in}
use Rattle.c_graph.specs.Bound.{AreAdded}
use Rattle.c_graph.specs.Frames.{setting_in}
use Rattle.c_graph.proofs.Drafted.{passes_one}
use Rattle.c_graph.proofs.drafts.pass_one.Goals as goal

pub returns-2 : goal.returns-2
returns-2 c =
    let f = setting_in c.args.frame.now in
    let x = core_of c.args.x.now in
    let b = c.value.new.bank in
    let d = c.bind_local.new.bank in
    let p = c.args.inputs.now.items in
    let q = c.bind_local.new.bindings.items in
    let id = c.in-Ok-attempt.field-0 in
    on_ok_weaker c.bind_local.result
    (λ h.
    passes_one c.args.bank.now b d c.args.tests.now.items c.value.new.tests.items p q id (terms f.place.globals no_object x) (tests_in f x) c.args.number (type_of x) c.in-Ok-attempt.ensures
    (subst (λ (s : Scalar). AreAdded b d p q (set_local c.args.number s (tree_at b id.word))) c.type_of.ensures h))
    c.bind_local.ensures
