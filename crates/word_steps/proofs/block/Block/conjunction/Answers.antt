use Rattle.std.proofs.Common.{false, get_or}
use Rattle.std.proofs.lemmas.Option.{slice_get-get_or}
use Rattle.word_steps.specs.declared.number.Reading.{Reading}
use Rattle.memory_spec.specs.Viewed.{runs_of}
use Rattle.term_norm.proofs.Growth.{extends_through}
use Rattle.word_steps.proofs.Later.{block_later}
use Rattle.word_steps.proofs.Joining.{conjunction_next}
use Rattle.word_steps.proofs.block.Block.conjunction.Goals as goal

pub with_reading-requires-clause-block : goal.with_reading-requires-clause-block
with_reading-requires-clause-block c =
    block_later c.args.bank.now c.loop-i.bank c.args.self.now c.loop-i.invariant.grown c.requires.block

pub with_reading-requires-clause-all : goal.with_reading-requires-clause-all
with_reading-requires-clause-all c =
    c.loop-i.invariant.joined.within

pub loop-i-preserved : goal.loop-i-preserved
loop-i-preserved c =
    let r : Reading = get_or c.args.kept.now c.loop-i.i (record { fact = record { number = 0; holds = false }; as_made = false }) in
    record {
      joined = conjunction_next (runs_of c.args.runs.now) c.args.bank.now c.loop-i.bank c.with_reading.new.bank c.args.self.now c.args.kept.now c.loop-i.i c.loop-i.all c.in-Ok-attempt.field-0 r
          c.loop-i.invariant.grown c.requires.block c.loop-i.invariant.joined (slice_get-get_or c.args.kept.now c.loop-i.i _ c.loop-i-test.true) c.in-Ok-attempt.ensures.form;
      grown = extends_through c.args.bank.now c.loop-i.bank c.with_reading.new.bank c.loop-i.invariant.grown c.with_reading.ensures.extends;
    }
