use Rattle.std.proofs.lemmas.Result.{on_ok_weaker}
use Rattle.c_types_spec.specs.Core.{type_of}
use Rattle.c_types_core.specs.Expressions.{core_of}
use Rattle.c_graph_spec.specs.Values.{no_object, terms}
use Rattle.c_graph_spec.specs.Layout.{tests_in}
use Rattle.c_graph.specs.Frames.{setting_in}
use Rattle.c_graph.proofs.Drafted.{compared_all}
use Rattle.c_graph.proofs.selection.compare_all.Goals as goal

pub returns-2 : goal.returns-2
returns-2 c =
    let f = setting_in c.args.frame.now in
    let x = core_of c.args.x.now in
    on_ok_weaker c.compare.result
    (compared_all c.args.bank.now c.value.new.bank c.compare.new.bank c.args.tests.now.items c.value.new.tests.items c.args.found.now.items c.compare.new.found.items c.in-Ok-attempt.field-0 (terms f.place.globals no_object x)
    (tests_in f x) c.type_of.result (type_of x) c.args.cases.now c.in-Ok-attempt.ensures c.type_of.ensures)
    c.compare.ensures
