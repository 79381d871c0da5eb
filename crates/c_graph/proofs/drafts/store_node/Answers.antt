use Rattle.std.proofs.Common.{◌∷◌, [], refl}
use Rattle.c_types_core.specs.Expressions.{core_of}
use Rattle.c_graph_spec.specs.State.{memory}
use Rattle.c_graph_spec.specs.Layout.{binding, memory_stored, store_tests}
use Rattle.c_graph.specs.Frames.{setting_in}
use Rattle.c_graph.proofs.Added.{bound_named}
use Rattle.c_graph.proofs.Drafted.{drafted_basic}
use Rattle.c_graph.proofs.drafts.store_node.Goals as goal

pub returns-3 : goal.returns-3
returns-3 c =
    let f = setting_in c.args.frame.now in
    let x = core_of c.args.x.now in
    let a = core_of c.args.address.now in
    let b = c.stored.new.bank in
    let v = c.bind.new.bindings in
    let term = memory_stored f c.args.of a c.args.displacement x in
    drafted_basic c.args.bank.now b b c.args.tests.now.items c.stored.new.tests.items (store_tests f c.args.of a c.args.displacement x) c.new-bindings.result.items v (binding memory term ∷ []) c.args.to
    c.in-Ok-attempt.ensures.tested c.new-bindings.ensures.items
    (bound_named b b c.new-bindings.result.items v.items memory memory _ term refl c.in-Ok-attempt.ensures.tree (c.in-Ok-attempt-2.ensures b c.in-Ok-attempt.ensures.within))
