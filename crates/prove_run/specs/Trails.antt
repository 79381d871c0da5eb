-- The functions that are unproved, as the definitions have them.
use Rattle.std.specs.Prelude.{ℕ, List, [], ◌∷◌, ◌++◌, map, Option}
use Rattle.cert_text.specs.declared.certificates.Cert.{Cert}
use Rattle.prove_run_spec.specs.Written.{Failure}
use Rattle.prove_run.specs.declared.trails.Unproved.{Unproved}
use Rattle.prove_run.specs.declared.trails.Trails.{Trails}
use Rattle.cert_check_frames.specs.declared.listed.Listed.{Listed}
use Rattle.prove_run.specs.declared.trail.Found.{Found}
use Rattle.prove_run.specs.declared.trail.Found.TheVariants.{Proved, Unproved as is_unproved}
use Rattle.prove_run.specs.Found.{trail_of}

-- the functions that are unproved, and the certificate that is too large, if there is one
abbrev pub unproved_in : Trails → List Unproved
unproved_in trails = trails.unproved.items

abbrev pub over_in : Trails → Option Cert
over_in trails = trails.over

abbrev pub failure_of : Unproved → Failure
failure_of u = record { name = u.name.items; trails = map trail_of u.trails.items }

abbrev pub failures_of : List Unproved → List Failure
failures_of unproved = map failure_of unproved

-- of a function, if it is unproved
abbrev pub failure_in : (name : List ℕ) → Found → List Failure
failure_in name (Proved logs) = []
failure_in name (is_unproved trail) = record { name = name; trails = trail_of trail ∷ [] } ∷ []

unfoldable pub failures_in : List Listed → List Found → List Failure
failures_in [] found = []
failures_in (f ∷ listed) [] = []
failures_in (f ∷ listed) (one ∷ found) = failure_in f.name.now one ++ failures_in listed found
