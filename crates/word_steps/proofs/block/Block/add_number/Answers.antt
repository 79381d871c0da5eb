use Rattle.std.proofs.Common.{◌≡◌, suc, length, vec_len, sym, ap, ◌∙◌, subst, arith, rules}
use Rattle.std.specs.Prelude.{OnOk}
use Rattle.std.proofs.lemmas.Result.{on_ok_weaker}
use Rattle.memory_spec.specs.Viewed.{runs_of}
use Rattle.term_bank.specs.Nodes.{IsNode, Holds, build}
use Rattle.term_sorts.specs.Sorts.{sort_of_node}
use Rattle.word_steps_spec.specs.Numbers as spec
use Rattle.word_steps.specs.Outcomes.{Becomes}
use Rattle.word_steps.specs.Views.{count_of}
use Rattle.word_steps.proofs.Adding.{terms_within, added_block, added}
use Rattle.word_steps.proofs.block.Block.add_number.Goals as goal

pub add-requires : goal.add-requires
add-requires c =
    subst (IsNode (length c.args.bank.now)) (sym c.over_terms.ensures) (terms_within c.args.bank.now c.args.self.now c.requires.block c.args.operation c.requires.operation)

pub renew_at-requires-clause-block : goal.renew_at-requires-clause-block
renew_at-requires-clause-block c =
    added_block c.args.bank.now c.args.self.now c.requires.block c.args.operation c.requires.operation c.add.new.self c.push_number.new.self c.in-Ok-attempt.field-0 c.node_sort-sort.result c.add.ensures.extends (subst (λ n. Holds c.add.new.self c.in-Ok-attempt.field-0 (build c.args.bank.now n)) c.over_terms.ensures c.in-Ok-attempt.ensures.id) (c.node_sort-sort.ensures ∙ ap (λ l. sort_of_node l c.args.operation) c.as_slice.ensures.value) c.in-Ok-attempt-2.ensures

pub returns-3-clause-becomes : goal.returns-3-clause-becomes
returns-3-clause-becomes c =
    let items = c.args.self.now.numbers.items in
    let count : length items ≡ vec_len c.args.self.now.numbers = search rules in
    let index : c.len-index.result ≡ count_of c.args.self.now = omega (arith, c.len-index.ensures, count) in
    on_ok_weaker c.renew_at.result (added c.args.bank.now c.args.self.now c.requires.block c.args.operation c.requires.operation c.add.new.self c.push_number.new.self c.in-Ok-attempt.field-0 c.node_sort-sort.result c.add.ensures.extends (subst (λ n. Holds c.add.new.self c.in-Ok-attempt.field-0 (build c.args.bank.now n)) c.over_terms.ensures c.in-Ok-attempt.ensures.id) (c.node_sort-sort.ensures ∙ ap (λ l. sort_of_node l c.args.operation) c.as_slice.ensures.value) c.in-Ok-attempt-2.ensures (runs_of c.args.runs.now) c.renew_at.new.bank c.renew_at.new.self)
    (subst (λ k. OnOk c.renew_at.result (Becomes c.add.new.self c.renew_at.new.bank c.push_number.new.self c.renew_at.new.self (spec.renew (runs_of c.args.runs.now) (suc k)))) index c.renew_at.ensures.becomes)
