use Rattle.word_steps_spec.proofs.Rules.{merges_sound, decided_sound}
use Rattle.word_steps_spec.proofs.ZonesHold.{zone_sound}
use Rattle.word_steps_spec.proofs.laws.rules_are_sound.Goals as goal

pub returns-clause-merges : goal.returns-clause-merges
returns-clause-merges c = merges_sound

pub returns-clause-decisions : goal.returns-clause-decisions
returns-clause-decisions c = decided_sound

pub returns-clause-zones : goal.returns-clause-zones
returns-clause-zones c facts x a assigns are e = zone_sound a assigns facts x are e
