use Rattle.std.proofs.lemmas.Result.{IfOk-weaker}
use Rattle.c_graph_spec.specs.State.{width_of}
use Rattle.c_graph_terms.proofs.Accesses.{read_there}
use Rattle.c_graph_terms.proofs.access.read_at.Goals as goal

pub returns-3 : goal.returns-3
returns-3 c =
    IfOk-weaker c.of_word.result _ _
    (λ ids h.
    read_there c.args.bank.now c.add_read_tests.new.bank c.loaded_at.new.bank c.of_word.new.bank c.args.tests.now.items c.add_read_tests.new.tests.items c.args.of (width_of c.args.of) c.args.address c.in-Ok-attempt-word.field-0 ids _
    c.requires.address_within c.in-Ok-attempt.ensures (rw c.width_of.ensures at c.in-Ok-attempt-word.ensures) h)
    c.of_word.ensures
