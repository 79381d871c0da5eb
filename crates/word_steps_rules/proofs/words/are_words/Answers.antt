use Rattle.std.proofs.Common.{Option, ap, ◌∙◌}
use Rattle.std.specs.Prelude.{◌&&◌}
use Rattle.term_core_spec.specs.declared.Sort.{Sort}
use Rattle.term_core_spec.specs.Sort.{sort_of}
use Rattle.term_bank.specs.Nodes.{tree_at}
use Rattle.word_steps_rules.specs.Sides.{is_word_sort, are_alike_sorts}
use Rattle.word_steps_rules.proofs.Equalities.{words_by_sorts}
use Rattle.word_steps_rules.proofs.words.are_words.Goals as goal

pub returns : goal.returns
returns c =
    let x = tree_at c.args.bank.now c.args.x in
    let y = tree_at c.args.bank.now c.args.y in
    c.are_word_sorts.ensures ∙ ap (λ (o : Option Sort). is_word_sort o && are_alike_sorts o c.sort_of-2.result) c.sort_of.ensures
    ∙ ap (λ (o : Option Sort). is_word_sort (sort_of x) && are_alike_sorts (sort_of x) o) c.sort_of-2.ensures ∙ words_by_sorts x y
