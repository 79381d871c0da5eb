use Rattle.std.proofs.Common.{◌≡◌, ap, ap₂}
use Rattle.term_core_spec.specs.Term.{Term}
use Rattle.c_types_spec.specs.declared.Scalar.{Scalar}
use Rattle.c_types_spec.specs.Core.{type_of}
use Rattle.c_types_core.specs.Expressions.{core_of}
use Rattle.c_graph_spec.specs.Layout.{set_local, tests_in, value_in}
use Rattle.c_graph.specs.Frames.{setting_in}
use Rattle.c_graph.proofs.Added.{bound_as}
use Rattle.c_graph.proofs.Drafted.{drafted_basic}
use Rattle.c_graph.proofs.drafts.set_node.Goals as goal

pub returns-3 : goal.returns-3
returns-3 c =
    let f = setting_in c.args.frame.now in
    let x = core_of c.args.x.now in
    let v = c.bind_local.new.bindings in
    let made = set_local c.args.number (type_of x) (value_in f x) in
    drafted_basic c.args.bank.now c.value.new.bank c.bind_local.new.bank c.args.tests.now.items c.value.new.tests.items (tests_in f x) c.new-bindings.result.items v made c.args.to
    c.in-Ok-attempt.ensures.tested c.new-bindings.ensures.items
    (bound_as c.value.new.bank c.bind_local.new.bank c.new-bindings.result.items v.items _ made (ap₂ (λ (s : Scalar) (t : Term). set_local c.args.number s t) c.type_of.ensures c.in-Ok-attempt.ensures.are.word_is) c.in-Ok-attempt-2.ensures)
