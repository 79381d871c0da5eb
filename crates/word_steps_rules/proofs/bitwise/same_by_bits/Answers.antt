use Rattle.std.proofs.Common.{◌∙◌}
use Rattle.std.proofs.lemmas.Result.{IfOk-weaker}
use Rattle.term_bank.specs.Nodes.{tree_at}
use Rattle.word_steps_rules.specs.Views.{sides_in}
use Rattle.word_steps_rules.proofs.Covered.{by_first, by_words}
use Rattle.word_steps_rules.proofs.bitwise.same_by_bits.Goals as goal

pub returns-in-Some-clause-same : goal.returns-in-Some-clause-same
returns-in-Some-clause-same c =
    let x = tree_at c.args.bank.now c.args.first in
    let y = tree_at c.args.bank.now c.args.second in
    IfOk-weaker c.same_as_equality.result _ _ (λ same h. h x ∙ by_first x y (sides_in c.args.bank.now c.in-Some.some) c.in-Some.ensures.is) c.same_as_equality.ensures.same

pub returns-in-None-clause-same : goal.returns-in-None-clause-same
returns-in-None-clause-same c =
    let x = tree_at c.args.bank.now c.args.first in
    let y = tree_at c.args.bank.now c.args.second in
    IfOk-weaker c.have_same_bits.result _ _ (λ same h. h ∙ by_words x y c.in-None.ensures) c.have_same_bits.ensures.same
