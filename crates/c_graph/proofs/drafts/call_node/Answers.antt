use Rattle.c_graph_layout.specs.Lists.{cores_of}
use Rattle.c_graph_spec.specs.Layout.{argument_tests, inputs, outputs}
use Rattle.c_graph.specs.Frames.{setting_in}
use Rattle.c_graph.proofs.Drafted.{drafted_call}
use Rattle.c_graph.proofs.drafts.call_node.Goals as goal

pub returns-3 : goal.returns-3
returns-3 c =
    let f = setting_in c.args.frame.now in
    let xs = cores_of c.args.arguments.now in
    drafted_call c.args.bank.now c.pass.new.bank c.outputs.new.bank c.args.tests.now.items c.pass.new.tests.items c.new-inputs.result.items c.pass.new.inputs
    c.in-Ok-attempt-outputs.field-0 (argument_tests f xs) (inputs f 0 xs) (outputs f c.args.function.now c.args.into) c.source_number.result (f.graph_number c.args.function.now) c.args.landing
    c.new-inputs.ensures.items c.in-Ok-attempt.ensures c.in-Ok-attempt-outputs.ensures c.source_number.ensures
