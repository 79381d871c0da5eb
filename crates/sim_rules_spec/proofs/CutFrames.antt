-- The frames that a cut leaves, over graphs and terms, are those over their systems.
use Rattle.std.proofs.Common.{◌≡◌, ◌∙◌, ℕ, ◌||◌, Bool, true, false, sym, ap, List, [], ◌∷◌, ◌++◌, subst}
use Rattle.std.proofs.lemmas.Bool.{and_parts, and_from}
use Rattle.std.proofs.lemmas.List.{map_push}
use Rattle.std.proofs.lemmas.List.Elements.{All-append}
use Rattle.term_core_spec.specs.Term.{Term}
use Rattle.graph_core_spec.specs.Simulation as systems
use Rattle.graph_core_spec.specs.Simulation.{Simulates, IsRelated}
use Rattle.graph_core_spec.specs.Run.{State, has_failed}
use Rattle.path_cond_spec.specs.Passages.{holds}
use Rattle.proof_tree_spec.specs.declared.Counts.{Counts}
use Rattle.proof_tree_spec.specs.Cuts as cuts
use Rattle.proof_tree_spec.specs.Cuts.{both}
use Rattle.proof_tree_spec.specs.Frames.{Frame, Hold, with_goal, goal_at, from_cut}
use Rattle.sim_rules_spec.specs.Points.{Convention, values_at, all_hold, same_byte, with_memory}
use Rattle.sim_rules_spec.specs.Systems.{Relation, frame_over, entry_holds, goal_over, hold_over, IsBinaryFine, IsSourceFine, IsSimulated}
use Rattle.sim_rules_spec.specs.Rules.{at_cut}
use Rattle.sim_rules_spec.proofs.Truths.{all_left, all_right, all_pass, pass_all}
use Rattle.sim_rules_spec.proofs.Case.{as_other}
use Rattle.sim_rules_spec.proofs.Start.{running_at}

-- lists of lines that hold
both_hold : (lines more : List Term) (at : ℕ) (x y : State) → all_hold lines at x y ≡ true → all_hold more at x y ≡ true → all_hold (lines ++ more) at x y ≡ true
both_hold lines more at x y h k =
    pass_all (λ (l : Term). holds (values_at at x y) l) (lines ++ more)
    (All-append (λ (l : Term). holds (values_at at x y) l ≡ true) lines more (all_pass (λ (l : Term). holds (values_at at x y) l) lines h) (all_pass (λ (l : Term). holds (values_at at x y) l) more k))

first_hold : (lines more : List Term) (at : ℕ) (x y : State) → all_hold (lines ++ more) at x y ≡ true → (all_hold lines at x y ≡ true) × (all_hold more at x y ≡ true)
first_hold lines more at x y h =
    let all = all_pass (λ (l : Term). holds (values_at at x y) l) (lines ++ more) h in (
      pass_all (λ (l : Term). holds (values_at at x y) l) lines (all_left (λ (l : Term). holds (values_at at x y) l ≡ true) lines more all),
      pass_all (λ (l : Term). holds (values_at at x y) l) more (all_right (λ (l : Term). holds (values_at at x y) l ≡ true) lines more all),
    )

module _ (c : Convention) (f : Frame) (known : Relation) (cut : Hold) (path : List ℕ) where
  abbrev over : systems.Frame State State
  over = frame_over c known f

  abbrev premise : Relation
  premise = both (at_cut c).known (all_hold (f.entry ++ cut.relation))

  -- what holds at entry and the relation at the cut
  premise_from : (x y : State) → has_failed x ≡ false → IsRelated (both (entry_holds f) (hold_over c cut).relation) x y → IsRelated premise x y
  premise_from x y there related = λ at.
      let found = and_parts (entry_holds f at x y) (all_hold (with_memory c cut.relation) at x y) (related at) in
      let parts : (all_hold f.entry at x y ≡ true) × (all_hold (with_memory c cut.relation) at x y ≡ true) = (sym (ap (λ (b : Bool). b || all_hold f.entry at x y) there) ∙ found.0, found.1) in
      let split = first_hold cut.relation (same_byte c ∷ []) at x y parts.1 in
      and_from (all_hold (same_byte c ∷ []) at x y) (all_hold (f.entry ++ cut.relation) at x y) split.1 (both_hold f.entry cut.relation at x y parts.0 split.0)

  -- a frame from the cut on, whatever its goals
  module _ (goals : List (systems.Goal State State)) where
    abbrev from : systems.Frame State State
    from = record (cuts.from_cut over (entry_holds f) (hold_over c cut)) { goals = goals }

    from_there : Simulates (record from { premise = premise }) (IsBinaryFine c f) (IsSourceFine c f) → Simulates from (IsBinaryFine c f) (IsSourceFine c f)
    from_there simulated x y start n = as_other from premise [] [] n x y (simulated x y (record {
      binary_at = start.binary_at;
      source_at = start.source_at;
      premise = premise_from x y
          (let is = running_at f.binary.graphs f.binary.outermost cut.nodes.binary x start.binary_at in ap has_failed is.1) start.premise;
      binary_fine = start.binary_fine;
      source_fine = start.source_fine;
      binary_kept = start.binary_kept;
      source_kept = start.source_kept;
      source_safe = start.source_safe;
    }) n)

  pub later_is : IsSimulated c (at_cut c).known (from_cut f cut.nodes path cut.relation)
      → Simulates (cuts.from_cut over (entry_holds f) (hold_over c cut)) (IsBinaryFine c f) (IsSourceFine c f)
  later_is simulated = from_there over.goals simulated

  pub steps_is : (counts : Counts) → IsSimulated c (at_cut c).known (with_goal (from_cut f cut.nodes path cut.relation) (goal_at cut.nodes counts cut.relation))
      → Simulates (cuts.with_goal (cuts.from_cut over (entry_holds f) (hold_over c cut)) (cuts.goal_at (hold_over c cut) counts)) (IsBinaryFine c f) (IsSourceFine c f)
  steps_is counts simulated = from_there (over.goals ++ cuts.goal_at (hold_over c cut) counts ∷ [])
      (subst (λ (goals : List (systems.Goal State State)). Simulates (record (from goals) { premise = premise }) (IsBinaryFine c f) (IsSourceFine c f))
      (map_push (goal_over c) f.goals (goal_at cut.nodes counts cut.relation)) simulated)

  pub enters_is : (counts : Counts) → IsSimulated c known (with_goal f (goal_at cut.nodes counts cut.relation))
      → Simulates (cuts.with_goal over (cuts.goal_at (hold_over c cut) counts)) (IsBinaryFine c f) (IsSourceFine c f)
  enters_is counts simulated =
      subst (λ (goals : List (systems.Goal State State)). Simulates (record over { goals = goals }) (IsBinaryFine c f) (IsSourceFine c f))
      (map_push (goal_over c) f.goals (goal_at cut.nodes counts cut.relation)) simulated
