use Rattle.std.proofs.Common.{refl, ap, set}
use Rattle.memory_spec.specs.Viewed.{runs_of}
use Rattle.word_steps.specs.declared.number.Number.{Number}
use Rattle.word_steps.proofs.Renewals.{renewed_becomes}
use Rattle.word_steps.proofs.block.Block.renew_at.Goals as goal

pub returns-3-clause-becomes : goal.returns-3-clause-becomes
returns-3-clause-becomes c =
    renewed_becomes (runs_of c.args.runs.now) c.args.bank.now c.renewed.new.bank c.args.self.now _ c.args.index c.in-Ok-attempt.field-0
    c.requires.block c.requires.index c.renewed.ensures.extends c.are_distinct.ensures c.in-Ok-attempt.ensures.form
    (ap (λ (m : Number). set c.args.self.now.numbers.items c.args.index (record m { now = c.in-Ok-attempt.field-0 })) c.number-number.ensures) refl c.in-Ok-attempt-changes.ensures refl
