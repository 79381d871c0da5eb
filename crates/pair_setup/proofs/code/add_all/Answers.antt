use Rattle.std.proofs.Common.{get_or, refl, arith}
use Rattle.pair_setup_calls.proofs.Growing.{among-none, among-more, among-all}
use Rattle.pair_setup.proofs.code.add_all.Goals as goal

pub loop-entry-init : goal.loop-entry-init
loop-entry-init c = among-none c.args.added.now c.args.entries.now.keys

pub loop-entry-preserved : goal.loop-entry-preserved
loop-entry-preserved c =
    among-more c.args.added.now c.loop-entry.entry-index (get_or c.args.added.now c.loop-entry.entry-index 0) refl
    c.args.entries.now.keys c.loop-entry.entries.keys c.add.new.entries.keys c.loop-entry.invariant c.in-Ok-attempt.ensures

pub returns : goal.returns
returns c = among-all c.args.added.now c.loop-entry.entry-index (omega arith) c.args.entries.now.keys c.loop-entry.entries.keys c.loop-entry.invariant
