-- What is due from the tasks that are left.
use Rattle.std.proofs.Common.{◌<◌, inl, inr, ℕ, List, [], ◌∷◌, ◌++◌, length, refl, sym, subst}
use Rattle.std.proofs.lemmas.List.{append_assoc}
use Rattle.std.specs.HashMap.{HashMap}
use Rattle.term_core_spec.specs.Term.{Term}
use Rattle.bit_blast.specs.declared.state.Task.{Task}
use Rattle.bit_blast.specs.declared.state.Task.TheVariants.{Visit, Finish}
use Rattle.bit_blast.specs.Indices.{children, IsIndexed}
use Rattle.bit_blast.specs.Tasks.{visits_of}
use Rattle.bit_blast.specs.Turns.{AreTasks, IsDue, AllDue, IsReady, AreReady}

module _ {S : Type 0} (indices later : HashMap ℕ ℕ S) (top next : List Task) (goes : (id : ℕ) → IsDue indices top id → IsDue later next id) where
  pub due_turn : (rest : List Task) (id : ℕ) → IsDue indices (rest ++ top) id → IsDue later (rest ++ next) id
  due_turn [] id due = goes id due
  due_turn (task ∷ rest) id (inl here) = inl here
  due_turn (task ∷ rest) id (inr above) = inr (due_turn rest id above)

  all_turn : (rest : List Task) (ids : List ℕ) → AllDue indices (rest ++ top) ids → AllDue later (rest ++ next) ids
  all_turn rest [] all = tt
  all_turn rest (id ∷ ids) all = (due_turn rest id all.0, all_turn rest ids all.1)

  one_turn : (rest : List Task) (task : Task) → IsReady indices (rest ++ top) task → IsReady later (rest ++ next) task
  one_turn rest (Visit id) h = tt
  one_turn rest (Finish id node) h = all_turn rest (children node) h

  pub ready_turn : (rest : List Task) → AreReady indices (rest ++ top) → AreReady later next → AreReady later (rest ++ next)
  ready_turn [] ready new = new
  ready_turn (task ∷ rest) ready new = (one_turn rest task ready.0, ready_turn rest ready.1 new)

pub ready_end : {S : Type 0} (indices : HashMap ℕ ℕ S) (rest top : List Task) → AreReady indices (rest ++ top) → AreReady indices top
ready_end indices [] top ready = ready
ready_end indices (task ∷ rest) top ready = ready_end indices rest top ready.1

module _ {S : Type 0} (indices : HashMap ℕ ℕ S) where
  pub due_indexed : (tasks : List Task) (id : ℕ) → IsIndexed indices id → IsDue indices tasks id
  due_indexed [] id indexed = indexed
  due_indexed (task ∷ tasks) id indexed = inr (due_indexed tasks id indexed)

  due_more : (tasks more : List Task) (id : ℕ) → IsDue indices tasks id → IsDue indices (tasks ++ more) id
  due_more [] more id indexed = due_indexed more id indexed
  due_more (task ∷ tasks) more id (inl here) = inl here
  due_more (task ∷ tasks) more id (inr above) = inr (due_more tasks more id above)

  due_last : (tasks : List Task) (id : ℕ) → IsDue indices (tasks ++ Visit id ∷ []) id
  due_last [] id = inl refl
  due_last (task ∷ tasks) id = inr (due_last tasks id)

  all_more : (tasks more : List Task) (ids : List ℕ) → AllDue indices tasks ids → AllDue indices (tasks ++ more) ids
  all_more tasks more [] all = tt
  all_more tasks more (id ∷ ids) all = (due_more tasks more id all.0, all_more tasks more ids all.1)

  -- terms are due from their visits
  pub visits_due : (ids : List ℕ) → AllDue indices (visits_of ids) ids
  visits_due [] = tt
  visits_due (id ∷ ids) = (due_last (visits_of ids) id, all_more (visits_of ids) (Visit id ∷ []) ids (visits_due ids))

  -- nothing is due to visits
  pub visits_ready : (ids : List ℕ) (above : List Task) → AreReady indices above → AreReady indices (visits_of ids ++ above)
  visits_ready [] above ready = ready
  visits_ready (id ∷ ids) above ready =
      subst (AreReady indices) (sym (append_assoc (visits_of ids) (Visit id ∷ []) above)) (visits_ready ids (Visit id ∷ above) (tt, ready))

-- ---- tasks of a bank

pub tasks_both : (trees : List Term) (rest top : List Task) → AreTasks trees rest → AreTasks trees top → AreTasks trees (rest ++ top)
tasks_both trees [] top first second = second
tasks_both trees (task ∷ rest) top first second = (first.0, tasks_both trees rest top first.1 second)

pub tasks_prefix : (trees : List Term) (rest top : List Task) → AreTasks trees (rest ++ top) → AreTasks trees rest
tasks_prefix trees [] top sound = tt
tasks_prefix trees (task ∷ rest) top sound = (sound.0, tasks_prefix trees rest top sound.1)

pub tasks_end : (trees : List Term) (rest top : List Task) → AreTasks trees (rest ++ top) → AreTasks trees top
tasks_end trees [] top sound = sound
tasks_end trees (task ∷ rest) top sound = tasks_end trees rest top sound.1

abbrev pub AllBelow : ℕ → List ℕ → Type 0
AllBelow n [] = Unit {0}
AllBelow n (id ∷ ids) = (id < n) × AllBelow n ids

pub visits_sound : (trees : List Term) (ids : List ℕ) → AllBelow (length trees) ids → AreTasks trees (visits_of ids)
visits_sound trees [] below = tt
visits_sound trees (id ∷ ids) below = tasks_both trees (visits_of ids) (Visit id ∷ []) (visits_sound trees ids below.1) (below.0, tt)
