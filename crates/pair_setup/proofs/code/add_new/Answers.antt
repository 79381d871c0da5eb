use Rattle.std.proofs.Common.{List, ℕ, subst}
use Rattle.std.specs.Prelude.{Contains}
use Rattle.pair_setup_calls.specs.Graph.{Grows}
use Rattle.pair_setup.proofs.Entries.{adds-new}
use Rattle.pair_setup.proofs.code.add_new.Goals as goal

pub returns-3-clause-added : goal.returns-3-clause-added
returns-3-clause-added c =
    adds-new c.args.image.now c.args.entry c.args.entries.now.keys c.add_all.new.entries.keys c.in-Ok-attempt.field-0.items c.requires.sound c.in-Ok-attempt.ensures.found
    (subst (λ (l : List ℕ). Grows (Contains l) c.args.entries.now.keys c.add_all.new.entries.keys) c.as_slice.ensures.value c.in-Ok-attempt-2.ensures)
