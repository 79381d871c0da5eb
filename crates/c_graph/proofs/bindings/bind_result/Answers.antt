use Rattle.std.proofs.lemmas.Result.{on_ok_weaker}
use Rattle.c_graph.specs.Frames.{local_in}
use Rattle.c_graph.proofs.Added.{bound_result}
use Rattle.c_graph.proofs.bindings.bind_result.Goals as goal

pub returns-3 : goal.returns-3
returns-3 c =
    on_ok_weaker c.bind_local.result
    (bound_result c.args.bank.now c.leaf.new.bank c.at_width.new.bank c.bind_local.new.bank c.args.bindings.now.items c.bind_local.new.bindings.items c.args.number c.args.of c.local_type-own.result
    (local_in c.args.frame.now.locals.now c.args.number) c.result_of.result c.width_of.result c.in-Ok-attempt.field-0 c.in-Ok-attempt-term.field-0 c.local_type-own.ensures c.result_of.ensures c.width_of.ensures
    c.in-Ok-attempt.ensures c.in-Ok-attempt-term.ensures)
    c.bind_local.ensures
