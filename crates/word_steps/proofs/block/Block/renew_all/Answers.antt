use Rattle.std.proofs.Common.{◌+◌, refl, arith}
use Rattle.memory_spec.specs.Viewed.{runs_of}
use Rattle.word_steps.specs.declared.block.Block.{Block}
use Rattle.word_steps.proofs.Taken.{too_many, sweep_noted, swept_all}
use Rattle.word_steps.proofs.block.Block.renew_all.Goals as goal

pub returns-then-self-ge-SWEEPS-clause-line : goal.returns-then-self-ge-SWEEPS-clause-line
returns-then-self-ge-SWEEPS-clause-line c =
    too_many (runs_of c.args.runs.now) c.args.bank.now c.args.self.now (omega (arith, c.if-self-ge-SWEEPS.true))

pub returns-2-clause-line : goal.returns-2-clause-line
returns-2-clause-line c =
    let noted : Block = record { numbers = c.args.self.now.numbers; sorts = c.args.self.now.sorts; changes = c.args.self.now.changes; sweeps = c.args.self.now.sweeps + 1 } in
    swept_all (runs_of c.args.runs.now) c.args.bank.now c.args.self.now c.sweep.new.bank noted c.sweep.new.self (omega (arith, c.if-self-ge-SWEEPS.false)) (sweep_noted c.args.bank.now c.args.self.now noted refl refl refl refl c.requires) refl c.in-Ok-allocated.ensures.becomes
