-- A visit between two tasks.
use Rattle.std.proofs.Common.{◌≡◌, ◌<◌, ◌++◌, ◌∷◌, [], ℕ, List, length, None, refl, ap, sym, ◌∙◌, subst, inl, arith, Vec}
use Rattle.std.specs.Global.{Global}
use Rattle.std.specs.HashMap.{get}
use Rattle.std.specs.Prelude.{nat_eq}
use Rattle.std.proofs.lemmas.List.{append_assoc, append-nil}
use Rattle.clause_check_spec.specs.Clause.{Cnf}
use Rattle.term_core_spec.specs.Term.{Term}
use Rattle.term_bank.specs.Nodes.{tree_at}
use Rattle.bit_blast_spec.specs.Goal.{Table, visit}
use Rattle.bit_blast.specs.Steps.{run, IsClosed}
use Rattle.bit_blast_circuits.specs.Built.{IsBuilt, Continues}
use Rattle.bit_blast_circuits.proofs.Built.{continues_end}
use Rattle.bit_blast.specs.declared.state.Task.{Task}
use Rattle.bit_blast.specs.declared.state.Task.TheVariants.{Visit}
use Rattle.bit_blast.specs.declared.state.Traversal.{Traversal}
use Rattle.bit_blast.specs.Tasks.{steps_of, visits_of}
use Rattle.bit_blast.specs.Turns.{IsDue, Consistent, Turned}

pub record Traverses (trees : List Term) (goal : ℕ) (start : Cnf) (traversal : Traversal) (tasks : List Task) : Type 0 where
  pub consistent : Consistent trees traversal.indices traversal.table tasks
  pub continues : Continues (visit (tree_at trees goal) []) start traversal.gates (run (steps_of trees tasks) traversal.table) (λ (t : Table). t)
  pub due : IsDue traversal.indices tasks goal

-- before the first task
pub traverses_start : (trees : List Term) (goal : ℕ) (traversal : Traversal) → goal < length trees → traversal.table ≡ [] → ((id : ℕ) → get nat_eq traversal.indices id ≡ None)
    → Traverses trees goal traversal.gates traversal (Visit goal ∷ [])
traverses_start trees goal traversal below empty nowhere = record {
  consistent = record {
    closed = subst IsClosed (sym empty) (λ term there. absurd (cc));
    indexed = λ id index e. absurd (cc (nowhere id));
    sound = (below, tt);
    ready = (tt, tt);
  };
  continues = subst (λ (t : Table). Continues (visit (tree_at trees goal) []) traversal.gates traversal.gates (run (steps_of trees (Visit goal ∷ [])) t) (λ (u : Table). u)) (sym empty)
      (record { ends = λ b end rest. rest });
  due = inl refl;
}

-- one task later
pub traverses_turned : (trees : List Term) (goal : ℕ) (start : Cnf) (old new : Traversal) (tasks : List Task) → Traverses trees goal start old tasks → Turned trees old tasks new
    → Traverses trees goal start new new.tasks.items
traverses_turned trees goal start old new tasks traverses turned = record {
  consistent = turned.consistent;
  continues = record { ends = λ b end rest. traverses.continues.ends b end (turned.continues.ends b end rest) };
  due = turned.due goal traverses.due;
}

-- no task is left
pub traverses_end : (trees : List Term) (goal : ℕ) (start : Cnf) (traversal : Traversal) → Traverses trees goal start traversal [] → IsBuilt (visit (tree_at trees goal) []) start traversal.table traversal.gates
traverses_end trees goal start traversal traverses = continues_end traversal.table traverses.continues

-- ---- visits that are pushed

pub visits_last : (ids : List ℕ) (id : ℕ) → visits_of (ids ++ id ∷ []) ≡ Visit id ∷ visits_of ids
visits_last [] id = refl
visits_last (first ∷ ids) id = ap (λ tasks. tasks ++ Visit first ∷ []) (visits_last ids id)

pub pushed : (tasks more : List Task) (ids rest : List ℕ) (id : ℕ) → ids ≡ rest ++ id ∷ [] → more ≡ tasks ++ Visit id ∷ []
    → more ++ visits_of rest ≡ tasks ++ visits_of ids
pushed tasks more ids rest id popped grown =
    ap (λ list. list ++ visits_of rest) grown ∙ append_assoc tasks (Visit id ∷ []) (visits_of rest)
    ∙ ap (λ list. tasks ++ list) (sym (visits_last rest id) ∙ ap visits_of (sym popped))

pub pushed_all : (tasks : List Task) (ids : List ℕ) → length ids ≡ 0 → tasks ≡ tasks ++ visits_of ids
pushed_all tasks [] e = sym (append-nil tasks)
pushed_all tasks (id ∷ ids) e = absurd (omega (arith, e))

pub nothing_left : (trees : List Term) (goal : ℕ) (start : Cnf) (traversal : Traversal) (tasks : List Task) → length tasks ≡ 0 → Traverses trees goal start traversal tasks → Traverses trees goal start traversal []
nothing_left trees goal start traversal [] e traverses = traverses
nothing_left trees goal start traversal (task ∷ tasks) e traverses = absurd (omega (arith, e))

-- the last task is taken
pub traverses_pop : (trees : List Term) (goal : ℕ) (start : Cnf) (traversal : Traversal) (rest : Vec Task Global) (task : Task) → traversal.tasks.items ≡ rest.items ++ task ∷ []
    → Traverses trees goal start traversal traversal.tasks.items
    → Traverses trees goal start (record { gates = traversal.gates; table = traversal.table; indices = traversal.indices; tasks = rest }) (rest.items ++ task ∷ [])
traverses_pop trees goal start traversal rest task e traverses = record {
  consistent = subst (Consistent trees traversal.indices traversal.table) e traverses.consistent;
  continues = subst (λ (tasks : List Task). Continues (visit (tree_at trees goal) []) start traversal.gates (run (steps_of trees tasks) traversal.table) (λ (t : Table). t)) e traverses.continues;
  due = subst (λ (tasks : List Task). IsDue traversal.indices tasks goal) e traverses.due;
}
