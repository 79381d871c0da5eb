use Rattle.std.proofs.Common.{◌≡◌, rules}
use Rattle.std.proofs.lemmas.Result.{IfOk-weaker}
use Rattle.term_core_spec.specs.Term as tree
use Rattle.c_graph_spec.specs.State.{value_constant}
use Rattle.c_graph_spec.specs.Values.{of_word}
use Rattle.c_graph_terms.proofs.Banks.{built_as}
use Rattle.c_graph_terms.proofs.Made.{terms_over}
use Rattle.c_graph_terms.proofs.words.constant.Goals as goal

pub returns-3 : goal.returns-3
returns-3 c =
    let atom_is : tree.Leaf c.in-Ok-attempt.field-0 ≡ value_constant c.args.of c.args.value = search rules in
    IfOk-weaker c.of_word.result _ _
    (λ ids h.
    terms_over c.args.bank.now c.leaf.new.bank c.of_word.new.bank c.in-Ok-attempt-word.field-0 _ ids (of_word c.args.of)
    (built_as c.args.bank.now c.leaf.new.bank c.in-Ok-attempt-word.field-0 _ _ atom_is c.in-Ok-attempt-word.ensures) h)
    c.of_word.ensures
