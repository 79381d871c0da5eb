use Rattle.std.proofs.lemmas.Result.{IfOk-weaker}
use Rattle.c_graph_spec.specs.Values.{computed}
use Rattle.c_graph_terms.proofs.Made.{terms_beside}
use Rattle.c_graph_terms.proofs.expression.operated_value.Goals as goal

pub returns-3 : goal.returns-3
returns-3 c =
    IfOk-weaker c.of_word.result _ _
    (λ ids h.
    terms_beside c.args.bank.now c.at_width.new.bank c.computed.new.bank c.of_word.new.bank c.args.x c.in-Ok-attempt.field-0 c.in-Ok-attempt-word.field-0 _ ids (computed c.args.operator c.args.of) c.args.of
    c.requires.x_within (rw c.width_of.ensures at c.in-Ok-attempt.ensures) c.in-Ok-attempt-word.ensures h)
    c.of_word.ensures
