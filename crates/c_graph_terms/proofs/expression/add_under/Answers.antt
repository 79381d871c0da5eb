use Rattle.std.proofs.lemmas.Result.{IfOk-weaker}
use Rattle.c_graph_terms.proofs.Growing.{all_later}
use Rattle.c_graph_terms.proofs.Excused.{excused_under}
use Rattle.c_graph_terms.proofs.expression.add_under.Goals as goal

pub returns-2 : goal.returns-2
returns-2 c =
    IfOk-weaker c.add_excused.result _ _
    (λ _ h.
    excused_under c.args.bank.now c.opposite.new.bank c.add_excused.new.bank c.args.tests.now.items c.add_excused.new.tests.items c.args.condition c.in-Ok-attempt.field-0 c.args.own.now c.in-Ok-attempt.ensures c.requires.own_within h)
    c.add_excused.ensures

pub add_excused-requires-clause-own_within : goal.add_excused-requires-clause-own_within
add_excused-requires-clause-own_within c = all_later c.args.bank.now c.opposite.new.bank c.args.own.now c.in-Ok-attempt.ensures.is_grown c.requires.own_within
