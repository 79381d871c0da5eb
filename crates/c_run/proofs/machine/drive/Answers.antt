use Rattle.std.proofs.Common.{refl, ◌∙◌}
use Rattle.std.specs.Prelude.{Ok, Err}
use Rattle.c_run.proofs.Driving.{turn_goes_on, turn_ends, ends_by}
use Rattle.c_run.proofs.machine.drive.Goals as goal

pub turns-init : goal.turns-init
turns-init c = refl

pub turns-preserved : goal.turns-preserved
turns-preserved c = c.turns.invariant ∙ (turn_goes_on _ c.turns.machine c.turns.memory c.turn.new.machine c.turn.new.memory c.in-Ok-attempt.field-0 c.in-Ok-attempt.ensures c.in-None.is).0

pub turns-smaller : goal.turns-smaller
turns-smaller c = (turn_goes_on _ c.turns.machine c.turns.memory c.turn.new.machine c.turn.new.memory c.in-Ok-attempt.field-0 c.in-Ok-attempt.ensures c.in-None.is).1

pub returns-in-Some : goal.returns-in-Some
returns-in-Some c = ends_by _ _ c.turn.new.memory (Ok c.in-Some.ended) c.turns.invariant (turn_ends _ c.turns.machine c.turns.memory c.turn.new.machine c.turn.new.memory c.in-Ok-attempt.field-0 c.in-Some.ended c.in-Ok-attempt.ensures c.in-Some.is)

pub returns-in-turns : goal.returns-in-turns
returns-in-turns c = ends_by _ _ c.turn.new.memory (Err c.in-Err-attempt.field-0) c.turns.invariant c.in-Err-attempt.ensures
