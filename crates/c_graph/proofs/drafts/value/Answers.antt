use Rattle.std.proofs.lemmas.Result.{IfOk-weaker}
use Rattle.c_types_core.specs.Expressions.{core_of}
use Rattle.c_graph.specs.Frames.{setting_in}
use Rattle.c_graph.proofs.Drafted.{value_made}
use Rattle.c_graph.proofs.drafts.value.Goals as goal

pub returns-2 : goal.returns-2
returns-2 c =
    IfOk-weaker c.evaluate.result _ _
    (λ ids h.
    value_made c.args.bank.now c.no_object.new.bank c.evaluate.new.bank c.args.tests.now.items c.evaluate.new.tests.items c.in-Ok-attempt.field-0 ids (setting_in c.args.frame.now).place.globals (core_of c.args.x.now)
    c.in-Ok-attempt.ensures h)
    c.evaluate.ensures
