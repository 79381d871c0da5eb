use Rattle.std.proofs.Common.{take}
use Rattle.pair_setup_calls.specs.Names.{texts_of}
use Rattle.pair_setup.specs.Codes.{AreCodedOf}
use Rattle.pair_setup.proofs.code.add_listed.Given as goal

abbrev pub invariant-loop-i : goal.invariant-loop-i
invariant-loop-i l = AreCodedOf l.image (texts_of l.list) (take l.i (texts_of l.list)) l.firsts.items l.entries.keys
