-- What the search finds, as the definitions have it.
use Rattle.std.specs.Prelude.{Vec, List, map}
use Rattle.std.specs.Global.{Global}
use Rattle.clause_check_spec.specs.Log.{Step}
use Rattle.term_core.specs.Assignment.{assignment_of}
use Rattle.prove_run_spec.specs.Trails as spec
use Rattle.prove_run.specs.declared.trail.Trail.{Trail}
use Rattle.prove_run.specs.declared.trail.Trail.TheVariants.{Later, Large, Refuted, Spent}
use Rattle.prove_run.specs.declared.trail.Found.{Found}
use Rattle.prove_run.specs.declared.trail.Found.TheVariants.{Proved, Unproved}

abbrev pub trail_of : Trail → spec.Trail
trail_of (Later side node) = spec.Later side node
trail_of (Large measure count) = spec.Large measure count
trail_of (Refuted obligation assignment) = spec.Refuted obligation (assignment_of assignment)
trail_of (Spent obligation log) = spec.Spent obligation log.items

abbrev pub logs_of : List (Vec Step Global) → List (List Step)
logs_of logs = map (λ (log : Vec Step Global). log.items) logs

abbrev pub found_of : Found → spec.Found
found_of (Proved logs) = spec.Proved (logs_of logs.items)
found_of (Unproved trail) = spec.Unproved (trail_of trail)
