use Rattle.std.proofs.Common.{◌≡◌, take}
use Rattle.std.specs.Prelude.{map}
use Rattle.prove_run.specs.Found.{found_of}
use Rattle.cert_run.specs.Searches.{is_proved}
use Rattle.cert_run.proofs.finding.valid_ones.Given as goal

abbrev pub invariant-loop-one : goal.invariant-loop-one
invariant-loop-one l = l.valid.items ≡ map is_proved (map found_of (take l.one-index l.found))
