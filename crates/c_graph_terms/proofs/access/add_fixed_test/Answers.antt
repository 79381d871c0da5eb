use Rattle.std.proofs.lemmas.Result.{IfOk-weaker}
use Rattle.memory_spec.specs.Viewed.{runs_of}
use Rattle.c_graph_terms.proofs.Accesses.{fixed_tested}
use Rattle.c_graph_terms.proofs.access.add_fixed_test.Goals as goal

pub returns-3 : goal.returns-3
returns-3 c =
    IfOk-weaker c.keep.result _ _
    (λ _ h.
    fixed_tested c.args.bank.now c.last_byte.new.bank c.fixed_test.new.bank c.args.tests.now.items c.keep.new.tests.items c.args.of c.args.address c.in-Ok-attempt.field-0 c.in-Ok-attempt-test.field-0 (runs_of c.args.runs.now)
    c.requires c.in-Ok-attempt.ensures c.in-Ok-attempt-test.ensures h)
    c.keep.ensures
