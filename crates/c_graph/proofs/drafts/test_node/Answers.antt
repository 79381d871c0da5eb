use Rattle.c_types_core.specs.Expressions.{core_of}
use Rattle.c_graph_spec.specs.Values.{no_object, terms}
use Rattle.c_graph_spec.specs.Layout.{tests_in}
use Rattle.c_graph.specs.Frames.{setting_in}
use Rattle.c_graph.proofs.Drafted.{drafted_test}
use Rattle.c_graph.proofs.drafts.test_node.Goals as goal

pub returns-2 : goal.returns-2
returns-2 c =
    let f = setting_in c.args.frame.now in
    let x = core_of c.args.x.now in
    drafted_test c.args.bank.now c.value.new.bank c.args.tests.now.items c.value.new.tests.items c.in-Ok-attempt.field-0 (terms f.place.globals no_object x) (tests_in f x) c.args.on_true c.args.on_false c.in-Ok-attempt.ensures
