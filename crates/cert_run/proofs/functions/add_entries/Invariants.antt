use Rattle.c_types.specs.Typed.{typed_of}
use Rattle.pair_setup_calls.specs.Names.{texts_of}
use Rattle.cert_run.specs.Entries.{AreEntriesFor}
use Rattle.cert_run.proofs.functions.add_entries.Given as goal

-- the entries so far
abbrev pub invariant-loop-index : goal.invariant-loop-index
invariant-loop-index l = AreEntriesFor (typed_of l.unit) l.pairs.entries.items l.file (texts_of l.list) l.pairs.functions.items l.index l.made.items
