-- What is written of what was found: the certificate of the functions that are proved, and the names of the others.
use Rattle.std.specs.Prelude.{ℕ, List, [], ◌∷◌, ◌++◌, length, map}
use Rattle.clause_check_spec.specs.Log as clauses
use Rattle.cert_text_spec.specs.Lines.{Line, Header, Function, Leaf, Log, LogStep, End}
use Rattle.cert_check_spec.specs.Verdict.{Listed}
use Rattle.prove_run_spec.specs.Trails.{Trail, Found, Proved, Unproved}

-- ---- the certificate

abbrev pub log_lines : List clauses.Step → List Line
log_lines log = Log (length log) ∷ map LogStep log

unfoldable pub logs_lines : List (List clauses.Step) → List Line
logs_lines [] = []
logs_lines (log ∷ logs) = log_lines log ++ logs_lines logs

-- the part of a function with a name and a stack
abbrev pub part_lines : (name : List ℕ) → (stack : ℕ) → List (List clauses.Step) → List Line
part_lines name stack logs = Function name stack ∷ Leaf (length logs) ∷ logs_lines logs

-- the parts of the functions that are proved, in their order
unfoldable pub parts_lines : List Listed → List Found → List Line
parts_lines [] found = []
parts_lines (f ∷ listed) [] = []
parts_lines (f ∷ listed) (Proved logs ∷ found) = part_lines f.name f.stack logs ++ parts_lines listed found
parts_lines (f ∷ listed) (Unproved trail ∷ found) = parts_lines listed found

abbrev pub proof_lines : List Listed → List Found → List Line
proof_lines listed found = Header ∷ (parts_lines listed found ++ End ∷ [])

-- ---- the others

-- a function that is unproved, with a trail for each way to prove it that was tried
pub record Failure : Type 0 where
  pub name : List ℕ
  pub trails : List Trail

unfoldable pub failures : List Listed → List Found → List Failure
failures [] found = []
failures (f ∷ listed) [] = []
failures (f ∷ listed) (Proved logs ∷ found) = failures listed found
failures (f ∷ listed) (Unproved trail ∷ found) = record { name = f.name; trails = trail ∷ [] } ∷ failures listed found
