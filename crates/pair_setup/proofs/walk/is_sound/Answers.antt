use Rattle.std.proofs.Common.{ℕ, List, sym, subst, true≢false}
use Rattle.pair_setup_calls.specs.Graph.{Grows}
use Rattle.pair_setup_calls.specs.Names.{texts_of}
use Rattle.pair_setup.specs.Names.{IsOf}
use Rattle.pair_setup.specs.Walks.{IsEntry, AreApart}
use Rattle.pair_setup.proofs.Walking.{sound-of}
use Rattle.pair_setup.proofs.walk.is_sound.Goals as goal

pub returns-then-walked : goal.returns-then-walked
returns-then-walked c = λ apart.
    sound-of c.args.image.now (texts_of c.args.list.now) c.add_roots.new.entries.keys c.walk_all.new.entries.keys c.sort.new.self.keys
    (c.in-Ok-attempt-walked.ensures c.if-walked.true) c.sort.ensures.reordered.0
    (subst (λ (l : List ℕ). Grows (IsOf (IsEntry c.args.image.now) (texts_of c.args.list.now)) l c.add_roots.new.entries.keys) c.requires c.in-Ok-attempt.ensures)
    (subst (AreApart c.args.image.now) c.as_slice.ensures.keys (c.are_apart.ensures apart))

pub returns-else-walked : goal.returns-else-walked
returns-else-walked c = λ no. absurd (true≢false (sym no))
