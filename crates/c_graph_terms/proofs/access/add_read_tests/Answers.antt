use Rattle.std.proofs.lemmas.Result.{IfOk-weaker}
use Rattle.c_graph_terms.proofs.Accesses.{read_tested}
use Rattle.c_graph_terms.proofs.access.add_read_tests.Goals as goal

pub returns-4 : goal.returns-4
returns-4 c =
    IfOk-weaker c.keep-2.result _ _
    (λ _ h.
    read_tested c.args.bank.now c.access_test.new.bank c.zone_test.new.bank c.args.tests.now.items c.keep.new.tests.items c.keep-2.new.tests.items c.args.of c.args.address c.args.base c.in-Ok-attempt.field-0 c.in-Ok-attempt-outside.field-0
    c.requires.address_within c.in-Ok-attempt.ensures c.in-Ok-attempt-2.ensures c.in-Ok-attempt-outside.ensures h)
    c.keep-2.ensures
