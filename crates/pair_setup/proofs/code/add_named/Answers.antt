use Rattle.std.proofs.Common.{sym, refl}
use Rattle.pair_setup_spec.specs.Code.{ambiguous}
use Rattle.pair_setup.specs.Codes.{IsReachErrorAt, IsCodeErrorAt}
use Rattle.pair_setup.proofs.Added.{if-err}
use Rattle.pair_setup.proofs.Entries.{named-sized, code-error, added-named}
use Rattle.pair_setup.proofs.code.add_named.Goals as goal

pub add_at-requires : goal.add_at-requires
add_at-requires c = record {
  sized = named-sized c.args.image.now c.args.name.now c.in-One.entry (sym c.in-One.ensures);
  sound = c.requires.sound;
}

pub returns-in-One-clause-added : goal.returns-in-One-clause-added
returns-in-One-clause-added c =
    added-named c.args.image.now c.args.name.now c.in-One.entry c.args.entries.now.keys c.add_at.new.entries.keys c.add_at.result (sym c.in-One.ensures)
    c.add_at.ensures.entry c.add_at.ensures.added

pub returns-in-One-clause-fault : goal.returns-in-One-clause-fault
returns-in-One-clause-fault c =
    if-err c.add_at.result (IsReachErrorAt c.args.image.now c.in-One.entry c.args.index) (IsCodeErrorAt c.args.image.now c.args.name.now c.args.index)
    (λ error h. code-error c.args.image.now c.args.name.now c.in-One.entry c.args.index error (sym c.in-One.ensures) h) c.add_at.ensures.fault

pub returns-in-Two-clause-fault : goal.returns-in-Two-clause-fault
returns-in-Two-clause-fault c = (refl, ambiguous c.in-Two.field-0 c.in-Two.address (sym c.in-Two.ensures))

pub unreachable-requires : goal.unreachable-requires
unreachable-requires c = c.requires.symbol (sym c.in-Absent.ensures)
