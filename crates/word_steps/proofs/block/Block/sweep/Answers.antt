use Rattle.std.proofs.Common.{refl, ◌∙◌}
use Rattle.memory_spec.specs.Viewed.{runs_of}
use Rattle.term_norm.proofs.Growth.{extends_same, extends_through}
use Rattle.word_steps.proofs.Taken.{sweep_start, sweep_next}
use Rattle.word_steps.proofs.block.Block.sweep.Goals as goal

pub loop-i-init : goal.loop-i-init
loop-i-init c =
    record { becomes = sweep_start (runs_of c.args.runs.now) c.args.bank.now c.args.self.now c.requires; grown = extends_same c.args.bank.now; count = refl }

pub loop-i-preserved : goal.loop-i-preserved
loop-i-preserved c =
    record {
      becomes = sweep_next (runs_of c.args.runs.now) c.args.bank.now c.loop-i.bank c.renew_at.new.bank c.args.self.now c.loop-i.self c.renew_at.new.self c.loop-i.i c.loop-i.invariant.becomes c.in-Ok-attempt.ensures.becomes;
      grown = extends_through c.args.bank.now c.loop-i.bank c.renew_at.new.bank c.loop-i.invariant.grown c.renew_at.ensures.extends;
      count = c.in-Ok-attempt.ensures.count ∙ c.loop-i.invariant.count;
    }
