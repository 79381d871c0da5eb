use Rattle.std.proofs.Common.{◌≡◌, ◌<◌, ◌≤◌, length, subst, arith}
use Rattle.c_types_core.specs.Expressions.{core_of}
use Rattle.c_types_core.specs.declared.expression.Core.{Core}
use Rattle.c_types_spec.specs.Core.{type_of}
use Rattle.c_graph_spec.specs.Layout.{set_local, tests_in, value_in}
use Rattle.c_graph.specs.Bound.{Passes}
use Rattle.c_graph.specs.Frames.{setting_in}
use Rattle.c_graph.proofs.Drafted.{passing_all, passing_more, passing_none}
use Rattle.c_graph.proofs.drafts.pass.Goals as goal

pub loop-number-init : goal.loop-number-init
loop-number-init c = passing_none (setting_in c.args.frame.now) c.args.arguments.now c.args.bank.now c.args.tests.now.items c.args.inputs.now.items

pub loop-number-preserved : goal.loop-number-preserved
loop-number-preserved c =
    let f = setting_in c.args.frame.now in
    let n = c.loop-number.number in
    let x = c.index-arguments-number.result in
    let below : n < length c.args.arguments.now = omega arith in
    passing_more f c.args.arguments.now n x c.args.bank.now c.loop-number.bank c.pass_one.new.bank c.args.tests.now.items c.loop-number.tests.items c.pass_one.new.tests.items
    c.args.inputs.now.items c.loop-number.inputs.items c.pass_one.new.inputs.items below c.index-arguments-number.is c.loop-number.invariant
    (subst (λ (y : Core). Passes c.loop-number.bank c.pass_one.new.bank c.loop-number.tests.items c.pass_one.new.tests.items c.loop-number.inputs.items c.pass_one.new.inputs.items
    (tests_in f (core_of y)) (set_local n (type_of (core_of y)) (value_in f (core_of y)))) c.deref.ensures c.in-Ok-attempt.ensures)

pub returns : goal.returns
returns c =
    let past : length c.args.arguments.now ≤ c.loop-number.number = omega arith in
    passing_all (setting_in c.args.frame.now) c.args.arguments.now c.loop-number.number c.args.bank.now c.loop-number.bank c.args.tests.now.items c.loop-number.tests.items c.args.inputs.now.items c.loop-number.inputs.items past c.loop-number.invariant
