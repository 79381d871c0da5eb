use Rattle.std.proofs.lemmas.Result.{IfOk-weaker}
use Rattle.memory_spec.specs.Viewed.{runs_of}
use Rattle.c_graph_terms.proofs.Accesses.{written_it}
use Rattle.c_graph_terms.proofs.access.store_object.Goals as goal

pub returns-3 : goal.returns-3
returns-3 c =
    IfOk-weaker c.write_at.result _ _
    (λ id h.
    written_it c.args.bank.now c.address_of.new.bank c.add_read_tests.new.bank c.write_at.new.bank c.args.tests.now.items c.add_read_tests.new.tests.items c.write_at.new.tests.items c.args.of c.args.object (runs_of c.args.runs.now)
    c.in-Ok-attempt.field-0 c.args.x id c.requires.object_within c.requires.x_within c.in-Ok-attempt.ensures c.in-Ok-attempt-2.ensures h)
    c.write_at.ensures
