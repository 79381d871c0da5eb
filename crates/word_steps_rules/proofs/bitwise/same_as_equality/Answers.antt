use Rattle.std.proofs.Common.{Some, sym, ap, ◌∙◌}
use Rattle.std.proofs.lemmas.Result.{IfOk-weaker}
use Rattle.term_bank.specs.Nodes.{tree_at}
use Rattle.word_steps_spec.specs.Bitwise.{same_bits_by}
use Rattle.word_steps_rules.specs.Views.{sides_in}
use Rattle.word_steps_rules.proofs.bitwise.same_as_equality.Goals as goal

pub returns-in-Some-clause-same : goal.returns-in-Some-clause-same
returns-in-Some-clause-same c =
    let some = sides_in c.args.bank.now c.args.some in
    let y = tree_at c.args.bank.now c.args.id in
    IfOk-weaker c.have_same_pairs.result _ _ (λ same h x. h ∙ sym (ap (λ o. same_bits_by (Some some) o x y) c.in-Some.ensures.is)) c.have_same_pairs.ensures.same

pub returns-in-None-clause-same : goal.returns-in-None-clause-same
returns-in-None-clause-same c =
    let some = sides_in c.args.bank.now c.args.some in
    let y = tree_at c.args.bank.now c.args.id in
    λ x. sym (ap (λ o. same_bits_by (Some some) o x y) c.in-None.ensures)
