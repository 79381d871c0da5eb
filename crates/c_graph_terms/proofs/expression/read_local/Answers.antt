use Rattle.std.proofs.lemmas.Result.{IfOk-weaker}
use Rattle.c_graph_spec.specs.Values.{of_word}
use Rattle.c_graph_terms.proofs.Made.{terms_over}
use Rattle.c_graph_terms.proofs.Lists.{tested_one, tested_value}
use Rattle.c_graph_terms.proofs.expression.read_local.Goals as goal

pub returns-4 : goal.returns-4
returns-4 c =
    let test = c.in-Ok-attempt.ensures in
    let tested = tested_one c.args.bank.now c.leaf.new.bank c.args.tests.now.items c.keep.new.tests.items c.in-Ok-attempt.field-0 _ (rw c.is_set.ensures at test) c.in-Ok-attempt-2.ensures in
    IfOk-weaker c.of_word.result _ _
    (λ ids h.
    tested_value c.args.bank.now c.leaf.new.bank c.of_word.new.bank c.args.tests.now.items c.keep.new.tests.items ids _ _ tested
    (terms_over c.leaf.new.bank c.leaf-2.new.bank c.of_word.new.bank c.in-Ok-attempt-word.field-0 _ ids (of_word c.args.of) (rw c.local.ensures at c.in-Ok-attempt-word.ensures) h))
    c.of_word.ensures
