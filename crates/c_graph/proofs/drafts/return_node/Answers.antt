use Rattle.std.proofs.Common.{◌∷◌, [], ◌∙◌, ap}
use Rattle.graph_core_spec.specs.declared.Next.TheVariants.{Ret}
use Rattle.c_types_spec.specs.Core.{type_of}
use Rattle.c_types_core.specs.Expressions.{core_of}
use Rattle.c_graph_spec.specs.State.{result}
use Rattle.c_graph_spec.specs.Layout.{binding, tests_in, value_in}
use Rattle.c_graph.specs.Frames.{setting_in}
use Rattle.c_graph.proofs.Added.{bound_named}
use Rattle.c_graph.proofs.Drafted.{drafted_basic}
use Rattle.c_graph.proofs.drafts.return_node.Goals as goal

pub returns-3 : goal.returns-3
returns-3 c =
    let f = setting_in c.args.frame.now in
    let x = core_of c.args.x.now in
    let b = c.value.new.bank in
    let v = c.bind.new.bindings in
    drafted_basic c.args.bank.now b b c.args.tests.now.items c.value.new.tests.items (tests_in f x) c.new-bindings.result.items v (binding (result (type_of x)) (value_in f x) ∷ []) Ret
    c.in-Ok-attempt.ensures.tested c.new-bindings.ensures.items
    (bound_named b b c.new-bindings.result.items v.items c.result_of.result (result (type_of x)) _ (value_in f x) (c.result_of.ensures ∙ ap result c.type_of.ensures) c.in-Ok-attempt.ensures.are.word_is
    (c.in-Ok-attempt-2.ensures b c.in-Ok-attempt.ensures.are.word_within))
