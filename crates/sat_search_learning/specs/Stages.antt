-- How far a search came.
use Rattle.std.specs.Prelude.{◌≡◌, ℕ, ◌+◌, ◌<◌, ◌≤◌, ◌++◌, List, [], Option, Some, None, length}
use Rattle.clause_check_spec.specs.Clause.{Clause, Cnf}
use Rattle.clause_check_spec.specs.Log.{Step}
use Rattle.sat_search_spec.specs.Logs.{IsClosing}
use Rattle.sat_search_spec.specs.Trail.{Trailed, IsSound, IsConflict}
use Rattle.sat_search_spec.specs.Watches.{Watched, IsRunning}
use Rattle.sat_search_learning.specs.declared.search.Progress.{Progress}
use Rattle.sat_search_learning.specs.declared.search.Progress.TheVariants.{Learnt, Closed as Ended, Satisfied, Refuted}
use Rattle.sat_search_learning.specs.Search.{IsSearching, AllHaveValue}

-- a clause more was learnt, or the log is closed, or every variable has a value, or one of so many assumed literals is false
abbrev pub IsProgress : Cnf → List Clause → Trailed → Watched → List Step → (count assumed : ℕ) → Progress → Type 0
IsProgress cnf clauses trail watched log count assumed Learnt = IsSearching cnf clauses trail watched log × (length log ≡ count + 1)
IsProgress cnf clauses trail watched log count assumed Ended = IsClosing cnf log × (length log ≡ count + 1)
IsProgress cnf clauses trail watched log count assumed Satisfied =
    IsSearching cnf clauses trail watched log × (watched.head ≡ length trail.entries) × AllHaveValue trail trail.variables
IsProgress cnf clauses trail watched log count assumed Refuted =
    IsSearching cnf clauses trail watched log × (length log ≡ count) × (0 < assumed)

-- so many clauses were learnt at most, and the search goes on, or the log is closed, or every variable has a value
abbrev pub IsStage : Cnf → List Clause → Trailed → Watched → List Step → (limit : ℕ) → Progress → Type 0
IsStage cnf clauses trail watched log limit Learnt = IsSearching cnf clauses trail watched log × (length log ≤ limit)
IsStage cnf clauses trail watched log limit Ended = IsClosing cnf log × (length log ≤ limit)
IsStage cnf clauses trail watched log limit Satisfied =
    IsSearching cnf clauses trail watched log × (watched.head ≡ length trail.entries) × AllHaveValue trail trail.variables
IsStage cnf clauses trail watched log limit Refuted = IsSearching cnf clauses trail watched log × (length log ≤ limit)

-- the clauses so far are watched, or one of them is false before every decision
abbrev pub IsLoaded : List Clause → Trailed → Watched → Option ℕ → Type 0
IsLoaded clauses trail watched None = IsRunning clauses trail watched × (watched.head ≡ 0)
IsLoaded clauses trail watched (Some number) = IsSound clauses trail × IsConflict clauses trail.entries number

-- all clauses were added, or the first ones up to a false one
abbrev pub IsFront : Cnf → List Clause → Option ℕ → Type 0
IsFront cnf clauses None = clauses ≡ cnf.clauses
IsFront cnf clauses (Some number) = (more : List Clause) × (cnf.clauses ≡ clauses ++ more)

-- a search that has not begun
pub record IsFresh (clauses : List Clause) (trail : Trailed) (watched : Watched) (log : List Step) (variables : ℕ) : Type 0 where
  pub running : IsRunning clauses trail watched
  pub none : clauses ≡ []
  pub first : watched.head ≡ 0
  pub undecided : trail.level ≡ 0
  pub no_steps : log ≡ []
  pub same : trail.variables ≡ variables
