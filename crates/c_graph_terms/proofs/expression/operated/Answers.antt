use Rattle.std.proofs.lemmas.Result.{IfOk-weaker}
use Rattle.c_graph_spec.specs.State.{width_of}
use Rattle.c_graph_spec.specs.Values.{of_word, computed, at_width}
use Rattle.c_graph_terms.proofs.Made.{two_kept}
use Rattle.c_graph_terms.proofs.Lists.{tested_some, tested_value}
use Rattle.c_graph_terms.proofs.expression.operated.Goals as goal

pub returns-3 : goal.returns-3
returns-3 c =
    let a = c.args.bank.now in
    let b = c.operator_test.new.bank in
    let test = c.in-Ok-attempt.ensures in
    let tested = tested_some a b c.args.tests.now.items c.keep_some.new.tests.items c.in-Ok-attempt.field-0 _ test c.in-Ok-attempt-2.ensures in
    IfOk-weaker c.operated_value.result _ _
    (λ ids h.
    tested_value a b c.operated_value.new.bank c.args.tests.now.items c.keep_some.new.tests.items ids _ _ tested
    (two_kept a b c.operated_value.new.bank c.args.x c.args.y ids
    (λ s t. of_word c.args.of (computed c.args.operator c.args.of s (at_width c.args.second (width_of c.args.of) t))) test.is_grown c.requires.x_within c.requires.y_within h))
    c.operated_value.ensures
