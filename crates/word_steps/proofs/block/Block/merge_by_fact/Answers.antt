use Rattle.std.proofs.Common.{◌∷◌, [], sym, ap, ◌∙◌, arith}
use Rattle.memory_spec.specs.Viewed.{runs_of}
use Rattle.term_norm.proofs.Growth.{read}
use Rattle.term_bank.specs.Nodes.{tree_at}
use Rattle.word_steps_spec.specs.Lines as lines
use Rattle.word_steps.specs.declared.number.Number.{Number}
use Rattle.word_steps.specs.Views.{number_in}
use Rattle.word_steps.proofs.Later.{block_later}
use Rattle.word_steps.proofs.Merged.{not_merged, now_merged}
use Rattle.word_steps.proofs.block.Block.merge_by_fact.Goals as goal

pub returns-then-not-is_equality-clause-tries : goal.returns-then-not-is_equality-clause-tries
returns-then-not-is_equality-clause-tries c =
    let rt = c.read.new.bank in
    let id = c.in-Ok-attempt-read.field-0 in
    let items = c.renew_at.new.self.numbers.items in
    let test = ap (λ (n : Number). lines.is_equality (tree_at rt id ∷ []) (tree_at rt n.now) (tree_at rt (number_in items c.args.pair.second).now)) (sym c.number.ensures)
    ∙ ap (λ (n : Number). lines.is_equality (tree_at rt id ∷ []) (tree_at rt c.number.result.now) (tree_at rt n.now)) (sym c.number-2.ensures) ∙ sym c.is_equality.ensures in
    not_merged (runs_of c.args.runs.now) c.args.bank.now c.renew_at.new.bank rt c.args.self.now c.renew_at.new.self c.args.pair.first c.args.pair.second c.args.fact (omega (arith, c.in-Ok-attempt.ensures.count, c.requires.first)) (omega (arith, c.in-Ok-attempt.ensures.count, c.requires.second)) id
    c.in-Ok-attempt.ensures.becomes c.read.ensures.extends (read rt id _ c.in-Ok-attempt-read.ensures.form) c.read.new.bank c.renew_at.new.self (test ∙ c.if-not-is_equality.true)

pub merge_at-requires-clause-block : goal.merge_at-requires-clause-block
merge_at-requires-clause-block c =
    block_later c.renew_at.new.bank c.read.new.bank c.renew_at.new.self c.read.ensures.extends c.in-Ok-attempt.ensures.becomes.block

pub returns-4-clause-tries : goal.returns-4-clause-tries
returns-4-clause-tries c =
    let rt = c.read.new.bank in
    let id = c.in-Ok-attempt-read.field-0 in
    let items = c.renew_at.new.self.numbers.items in
    let test = ap (λ (n : Number). lines.is_equality (tree_at rt id ∷ []) (tree_at rt n.now) (tree_at rt (number_in items c.args.pair.second).now)) (sym c.number.ensures)
    ∙ ap (λ (n : Number). lines.is_equality (tree_at rt id ∷ []) (tree_at rt c.number.result.now) (tree_at rt n.now)) (sym c.number-2.ensures) ∙ sym c.is_equality.ensures in
    now_merged (runs_of c.args.runs.now) c.args.bank.now c.renew_at.new.bank rt c.args.self.now c.renew_at.new.self c.args.pair.first c.args.pair.second c.args.fact (omega (arith, c.in-Ok-attempt.ensures.count, c.requires.first)) (omega (arith, c.in-Ok-attempt.ensures.count, c.requires.second)) id
    c.in-Ok-attempt.ensures.becomes c.read.ensures.extends (read rt id _ c.in-Ok-attempt-read.ensures.form) c.merge_at.new.bank c.merge_at.new.self (test ∙ c.if-not-is_equality.false) c.in-Ok-attempt-2.ensures.becomes
