use Rattle.std.proofs.lemmas.Result.{IfOk-weaker}
use Rattle.c_graph_spec.specs.State.{width_of}
use Rattle.c_graph_terms.proofs.Accesses.{written_there}
use Rattle.c_graph_terms.proofs.access.write_at.Goals as goal

pub returns-2 : goal.returns-2
returns-2 c =
    IfOk-weaker c.stored_at.result _ _
    (λ id h.
    written_there c.args.bank.now c.add_fixed_test.new.bank c.stored_at.new.bank c.args.tests.now.items c.add_fixed_test.new.tests.items (width_of c.args.of) c.args.address c.args.x id _
    c.requires.address_within c.requires.x_within c.in-Ok-attempt.ensures (rw c.width_of.ensures at h))
    c.stored_at.ensures
