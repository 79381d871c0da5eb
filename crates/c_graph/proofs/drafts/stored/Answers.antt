use Rattle.std.proofs.lemmas.Result.{IfOk-weaker}
use Rattle.c_types_core.specs.Expressions.{core_of}
use Rattle.c_graph.specs.Frames.{setting_in}
use Rattle.c_graph.proofs.Drafted.{store_made}
use Rattle.c_graph.proofs.drafts.stored.Goals as goal

pub returns-2 : goal.returns-2
returns-2 c =
    IfOk-weaker c.store.result _ _
    (λ id h.
    store_made c.args.bank.now c.no_object.new.bank c.store.new.bank c.args.tests.now.items c.store.new.tests.items c.in-Ok-attempt.field-0 id (setting_in c.args.frame.now).place.globals
    (setting_in c.args.frame.now).place.runs c.args.of (core_of c.args.address.now) c.args.displacement (core_of c.args.x.now) c.in-Ok-attempt.ensures h)
    c.store.ensures
