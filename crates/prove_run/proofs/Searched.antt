-- Logs of obligations, one after the other; and what they are of a function.
use Rattle.std.proofs.Common.{◌≡◌, ◌∙◌, ◌+◌, ◌<◌, ◌≤◌, ℕ, Vec, Global, Option, Some, None, Result, Ok, Err, List, [], ◌∷◌, ◌++◌, length, map, take, get_or, inl, inr, refl, sym, ap, subst, arith}
use Rattle.std.specs.Prelude.{All, IfOk, option_map, slice_get}
use Rattle.std.proofs.lemmas.List.{length-map, map_more, map_push, take_all}
use Rattle.std.proofs.lemmas.List.Elements.{All-head, All-tail, All-weaker}
use Rattle.std.proofs.lemmas.Option.{slice_get-get_or, slice_get-map, get_or_from_slice_get}
use Rattle.memory_spec.specs.Runs.{Run}
use Rattle.memory_spec.specs.Viewed.{runs_of}
use Rattle.term_core_spec.specs.declared.Sort.TheVariants as sort
use Rattle.term_core_spec.specs.Term.{Term}
use Rattle.term_core_spec.specs.Sort.{sort_of}
use Rattle.term_bank.specs.Nodes.{Extends, tree_at}
use Rattle.path_cond.proofs.Banks.{kept_tree, within_longer}
use Rattle.visit_walk_spec.proofs.Order.{acyclic}
use Rattle.proof_tree_spec.specs.Frames.{Frame}
use Rattle.sim_rules_spec.specs.Points.{Convention}
use Rattle.sim_rules_spec.specs.Sides.{binary_way, source_way}
use Rattle.sim_rules_spec.specs.Rules.{Opening, AreOfLeaf}
use Rattle.sim_rules_spec.specs.Obligations as rule
use Rattle.sim_rules_spec.specs.Obligations.{IsCyclicRule}
use Rattle.sim_rules.proofs.Held.{trees_held}
use Rattle.clause_check_spec.specs.Log.{Step}
use Rattle.discharge_spec.specs.Closing.{Closes, closing}
use Rattle.cert_check_spec.specs.Verdict as spec
use Rattle.cert_check_frames.specs.declared.listed.Listed.{Listed}
use Rattle.cert_check_frames.specs.Listed.{IsListed}
use Rattle.prove_run_spec.specs.declared.Measure.TheVariants as measure
use Rattle.prove_run_spec.specs.Proofs.{AreClosedBy, AreLean, HasTruths}
use Rattle.prove_run_spec.specs.Trails as trails
use Rattle.prove_run_spec.specs.Trails.{IsTrail, IsFound, IsObligation}
use Rattle.prove_run.specs.declared.trail.Found.{Found}
use Rattle.prove_run.specs.declared.trail.Found.TheVariants.{Proved, Unproved}
use Rattle.prove_run.specs.declared.trail.Trail.{Trail}
use Rattle.prove_run.specs.Found.{found_of, logs_of, trail_of}
use Rattle.cert_check_frames.specs.Goals.{HasGoals}
use Rattle.prove_run.specs.Logs.{AreTruths, IsLeanLog, IsGoalTrail, HasLog, HaveAll, HasTrail, IsSearched}

-- ---- one log more

closed_more : (runs : List Run) (goals : List Term) (found : List (List Step)) (goal : Term) (log : List Step) → AreClosedBy runs goals found → closing runs goal log ≡ Closes
    → AreClosedBy runs (goals ++ goal ∷ []) (found ++ log ∷ [])
unfolding AreClosedBy
closed_more runs [] [] goal log before closes = (closes, tt)
closed_more runs [] (x ∷ found) goal log before closes = absurd before
closed_more runs (g ∷ goals) [] goal log before closes = absurd before
closed_more runs (g ∷ goals) (x ∷ found) goal log before closes = (before.0, closed_more runs goals found goal log before.1 closes)

lean_more : (runs : List Run) (goals : List Term) (found : List (List Step)) (goal : Term) (log : List Step) → AreClosedBy runs goals found → AreLean runs goals found
    → IsLeanLog runs goal log → AreLean runs (goals ++ goal ∷ []) (found ++ log ∷ [])
unfolding AreLean AreClosedBy
lean_more runs [] [] goal log closed before is = (is.lean, tt)
lean_more runs [] (x ∷ found) goal log closed before is = absurd closed
lean_more runs (g ∷ goals) [] goal log closed before is = absurd closed
lean_more runs (g ∷ goals) (x ∷ found) goal log closed before is = (before.0, lean_more runs goals found goal log closed.1 before.1 is)

all_more : (runs : List Run) (goals : List Term) (found : List (List Step)) (goal : Term) (log : List Step) → HaveAll runs goals found → IsLeanLog runs goal log
    → HaveAll runs (goals ++ goal ∷ []) (found ++ log ∷ [])
all_more runs goals found goal log before is = record {
  closed = closed_more runs goals found goal log before.closed is.closes;
  lean = lean_more runs goals found goal log before.closed before.lean is;
}

no_logs : (runs : List Run) → HaveAll runs [] []
unfolding AreClosedBy AreLean
no_logs runs = record { closed = tt; lean = tt }

pub pushed_log : (runs : List Run) (goal : Term) (number : ℕ) (old new : List (Vec Step Global)) (log : Vec Step Global) → IsLeanLog runs goal log.items → new ≡ old ++ log ∷ []
    → HasLog runs goal number old new None
pushed_log runs goal number old new log is pushed =
    (log.items, ap logs_of pushed ∙ map_push (λ (l : Vec Step Global). l.items) old log, is)

-- ---- the loop

-- the terms of ids, at an index
goal_at : (trees : List Term) (goals : List ℕ) (k id : ℕ) → slice_get goals k ≡ Some id → slice_get (map (tree_at trees) goals) k ≡ Some (tree_at trees id)
goal_at trees goals k id there = slice_get-map (tree_at trees) goals k ∙ ap (λ (o : Option ℕ). option_map (tree_at trees) o) there

-- in a bank that has grown they are the same
kept_terms : (trees now : List Term) (goals : List ℕ) → Extends trees now → All (λ (goal : ℕ). goal < length trees) goals → map (tree_at now) goals ≡ map (tree_at trees) goals
kept_terms trees now [] grows within = refl
kept_terms trees now (goal ∷ goals) grows within =
    ap (λ (t : Term). t ∷ map (tree_at now) goals) (kept_tree trees now goal grows (All-head (λ (g : ℕ). g < length trees) goal goals within))
    ∙ ap (λ (ts : List Term). tree_at trees goal ∷ ts) (kept_terms trees now goals grows (All-tail (λ (g : ℕ). g < length trees) goal goals within))

pub within_now : (trees now : List Term) (goals : List ℕ) → Extends trees now → All (λ (goal : ℕ). goal < length trees) goals → All (λ (goal : ℕ). goal < length now) goals
within_now trees now goals grows within =
    All-weaker (λ (g : ℕ). g < length trees) (λ (g : ℕ). g < length now) (λ g inside. within_longer trees now g grows inside) goals within

-- what is searched in a bank that has grown
pub searched_before : (runs : List Run) (trees now : List Term) (goals : List ℕ) → Extends trees now → All (λ (goal : ℕ). goal < length trees) goals → {E : Type 0} (result : Result Found E)
    → (AreTruths (map (tree_at now) goals) → IfOk result (IsSearched runs (map (tree_at now) goals)))
    → AreTruths (map (tree_at trees) goals) → IfOk result (IsSearched runs (map (tree_at trees) goals))
searched_before runs trees now goals grows within result searched truths =
    subst (λ (ts : List Term). IfOk result (IsSearched runs ts)) (kept_terms trees now goals grows within)
    (searched (subst AreTruths (sym (kept_terms trees now goals grows within)) truths))

module _ (runs : List Run) (trees : List Term) (goals : List ℕ) where
  abbrev terms : List Term
  terms = map (tree_at trees) goals

  -- the first obligations have their logs
  abbrev pub HaveSoFar : (index : ℕ) → List (Vec Step Global) → Type 0
  HaveSoFar index logs = AreTruths terms → HaveAll runs (map (tree_at trees) (take index goals)) (logs_of logs)

  pub none_so_far : (logs : List (Vec Step Global)) → logs ≡ [] → HaveSoFar 0 logs
  none_so_far logs none truths = subst (λ (l : List (Vec Step Global)). HaveAll runs [] (logs_of l)) (sym none) (no_logs runs)

  -- the obligation at an index, in a bank that has grown
  module _ (now : List Term) (grows : Extends trees now) (within : All (λ (goal : ℕ). goal < length trees) goals) (index id d : ℕ) (below : index < length goals)
      (is : id ≡ get_or goals index d) where
    inside : id < length trees
    inside = subst (λ (n : ℕ). n < length trees) (sym is) (within index d below)

    pub inside_now : id < length now
    inside_now = within_longer trees now id grows inside

    same : tree_at now id ≡ tree_at trees id
    same = kept_tree trees now id grows inside

    there : slice_get goals index ≡ Some id
    there = slice_get-get_or goals index d below ∙ ap Some (sym is)

    pub truth_now : AreTruths terms → sort_of (tree_at now id) ≡ Some sort.Truth
    truth_now truths =
        ap sort_of (same ∙ sym (get_or_from_slice_get terms index (tree_at trees id) (tree_at trees id) (goal_at trees goals index id there)))
        ∙ truths index (tree_at trees id) (omega (arith, below, length-map goals (tree_at trees)))

    pub one_so_far : (old new : List (Vec Step Global)) → HaveSoFar index old → (AreTruths terms → HasLog runs (tree_at now id) index old new None) → HaveSoFar (index + 1) new
    one_so_far old new before added truths =
        let (log, pushed, lean) = added truths in
        subst (λ (l : List (List Step)). HaveAll runs (map (tree_at trees) (take (index + 1) goals)) l) (sym pushed)
        (subst (λ (ts : List Term). HaveAll runs ts (logs_of old ++ log ∷ []))
        (ap (λ (n : ℕ). map (tree_at trees) (take index goals) ++ tree_at trees n ∷ []) is ∙ sym (map_more (tree_at trees) goals index d below))
        (all_more runs (map (tree_at trees) (take index goals)) (logs_of old) (tree_at trees id) log (before truths)
        (subst (λ (t : Term). IsLeanLog runs t log) same lean)))

    pub one_refuted : (trail : Trail) → IsGoalTrail runs (tree_at now id) index (trail_of trail) → HasTrail runs terms (trail_of trail)
    one_refuted trail is_trail = record {
      number = index;
      goal = tree_at trees id;
      there = goal_at trees goals index id there;
      is = subst (λ (t : Term). IsGoalTrail runs t index (trail_of trail)) same is_trail;
    }

    pub one_trail : (trail : Trail) → (AreTruths terms → IsGoalTrail runs (tree_at now id) index (trail_of trail)) → AreTruths terms → HasTrail runs terms (trail_of trail)
    one_trail trail added truths = one_refuted trail (added truths)

  pub all_so_far : (index : ℕ) (logs : List (Vec Step Global)) → length goals ≤ index → HaveSoFar index logs → AreTruths terms → HaveAll runs terms (logs_of logs)
  all_so_far index logs past before truths =
      subst (λ (ids : List ℕ). HaveAll runs (map (tree_at trees) ids) (logs_of logs)) (take_all index goals past) (before truths)

-- ---- of a function

-- both walks of a Leaf with obligations end
leaf_acyclic : (c : Convention) (o : Opening) (frame : Frame) (ts : List Term) → AreOfLeaf c o frame ts → (node : ℕ) → IsCyclicRule o frame rule.Leaf node → ⊥
leaf_acyclic c o frame ts are node (inl of_binary) = acyclic (binary_way frame o.binary).walk are.binary are.binary_are node of_binary
leaf_acyclic c o frame ts are node (inr of_source) = acyclic (source_way frame o.source).walk are.source are.source_are node of_source.1

module _ (f : spec.Listed) (trees : List Term) (ids : List ℕ) (has : HasGoals f f.frame trees ids) where
  terms_are : map (tree_at trees) ids ≡ has.are.terms
  terms_are = trees_held trees ids has.are.terms has.are.held

  obligation : (number : ℕ) (goal : Term) → slice_get has.are.terms number ≡ Some goal → IsObligation f number goal
  obligation number goal there = record { small = has.few; terms = has.are.terms; are = has.are.are; there = there }

  trail_for : (trail : trails.Trail) → HasTrail f.runs has.are.terms trail → IsTrail f trail
  trail_for (trails.Later side node) at = absurd at.is
  trail_for (trails.Large (measure.Visits side) count) at = absurd at.is
  trail_for (trails.Large (measure.Obligation n quantity) count) at =
      (at.goal, obligation n at.goal (ap (slice_get has.are.terms) at.is.0 ∙ at.there), at.is.1)
  trail_for (trails.Refuted n a) at = (at.goal, obligation n at.goal (ap (slice_get has.are.terms) at.is.0 ∙ at.there), at.is.1, at.is.2, at.is.3)
  trail_for (trails.Spent n log) at = (at.goal, obligation n at.goal (ap (slice_get has.are.terms) at.is.0 ∙ at.there), at.is.1, at.is.2)

  found_for : (one : Found) → IsSearched f.runs has.are.terms one → IsFound f (found_of one)
  found_for (Proved logs) all = record {
    proof = record {
      acyclic = leaf_acyclic f.convention f.opening f.frame has.are.terms has.are.are;
      small = has.few;
      terms = has.are.terms;
      are = has.are.are;
      closed = all.closed;
    };
    lean = all.lean;
  }
  found_for (Unproved trail) at = trail_for (trail_of trail) at

  truths_there : HasTruths f → AreTruths (map (tree_at trees) ids)
  truths_there truths = subst AreTruths (sym terms_are) (truths has.are.terms has.are.are)

  -- what was found of the obligations is so of the function
  pub found_there : {E : Type 0} (code : Listed) → IsListed code f → HasTruths f → (result : Result Found E)
      → (AreTruths (map (tree_at trees) ids) → IfOk result (IsSearched (runs_of code.runs.now) (map (tree_at trees) ids))) → IfOk result (λ (one : Found). IsFound f (found_of one))
  found_there code is truths (Ok one) searched =
      found_for one
      (subst (λ (ts : List Term). IsSearched f.runs ts one) terms_are
      (subst (λ (runs : List Run). IsSearched runs (map (tree_at trees) ids) one) (sym is.runs_are) (searched (truths_there truths))))
  found_there code is truths (Err e) searched = tt
