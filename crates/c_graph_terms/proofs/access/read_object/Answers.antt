use Rattle.std.proofs.lemmas.Result.{IfOk-weaker}
use Rattle.c_graph_terms.proofs.Accesses.{read_it}
use Rattle.c_graph_terms.proofs.access.read_object.Goals as goal

pub returns-2 : goal.returns-2
returns-2 c =
    IfOk-weaker c.read_at.result _ _
    (λ ids h.
    read_it c.args.bank.now c.address_of.new.bank c.read_at.new.bank c.args.tests.now.items c.read_at.new.tests.items c.args.of c.args.object c.in-Ok-attempt.field-0 ids
    c.requires c.in-Ok-attempt.ensures h)
    c.read_at.ensures
