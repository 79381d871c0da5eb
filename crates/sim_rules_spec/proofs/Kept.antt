-- What holds at entry is kept by steps of either side.
use Rattle.std.proofs.Common.{◌≡◌, ◌∙◌, ℕ, ◌&&◌, ◌||◌, suc, zero, Bool, true, List, [], ◌∷◌, ◌++◌, refl, sym, ap, ap₂, subst}
use Rattle.std.specs.List.{All}
use Rattle.std.proofs.lemmas.Bool.{and_parts, or_right}
use Rattle.std.proofs.lemmas.List.Elements.{All-head, All-tail}
use Rattle.term_core_spec.specs.Term.{Term}
use Rattle.term_core_spec.proofs.Variables.{value-occurs}
use Rattle.graph_core_spec.specs.TransitionSystem.{after}
use Rattle.graph_core_spec.specs.Run.{State, Failed, has_failed, is_truth, step}
use Rattle.graph_core_spec.specs.Fixed.{holds_byte}
use Rattle.path_cond_spec.specs.Passages.{holds}
use Rattle.proof_tree_spec.specs.Cuts.{IsKept}
use Rattle.proof_tree_spec.specs.Frames.{Frame}
use Rattle.sim_rules_spec.specs.Points.{Convention, values_in, values_at, other_values, binary_memory, is_binary, all_hold, bounded, nothing, entry_zone}
use Rattle.sim_rules_spec.specs.Systems.{Relation, frame_over, entry_holds, IsBinaryFine, IsSourceFine}
use Rattle.sim_rules_spec.specs.Proper.{IsEntryLine}
use Rattle.sim_rules_spec.proofs.Truths.{all_left, all_pass, pass_all}
use Rattle.sim_rules_spec.proofs.Sides.{sides-binary}

-- lines over values at entry are the same whatever the source's state
same_entry : (lines : List Term) → All IsEntryLine lines → (at : ℕ) (x y z : State) → all_hold lines at x y ≡ all_hold lines at x z
same_entry [] are at x y z = refl
same_entry (line ∷ lines) are at x y z =
    ap₂ (λ (p q : Bool). p && q)
    (ap is_truth (value-occurs (values_at at x y) (values_at at x z) line (λ v o.
    let own : is_binary v.family ≡ true = ap is_binary (All-head IsEntryLine line lines are v o) in
    sides-binary (values_in x) (values_in y) (other_values at (values_in x binary_memory)) v own
    ∙ sym (sides-binary (values_in x) (values_in z) (other_values at (values_in x binary_memory)) v own))))
    (same_entry lines (All-tail IsEntryLine line lines are) at x y z)

module _ (c : Convention) (f : Frame) (known : Relation) (are : All IsEntryLine f.entry) where
  same_there : (at : ℕ) (x y z : State) → entry_holds f at x y ≡ entry_holds f at x z
  same_there at x y z = ap (λ (b : Bool). has_failed x || b) (same_entry f.entry are at x y z)

  now : (x : State) → IsBinaryFine c f x → (at : ℕ) → entry_holds f at (step f.binary.graphs x) Failed ≡ true
  unfolding after
  now x fine at =
      let next_state = step f.binary.graphs x in
      let zone = has_failed next_state || all_hold (entry_zone c) at next_state Failed in
      let both_hold = and_parts (holds_byte (bounded nothing) binary_memory at next_state) (entry_holds f at next_state Failed && zone) (fine.held (suc zero) at) in
      (and_parts (entry_holds f at next_state Failed) zone both_hold.1).0

  pub entry_is_kept : (more : List Term) → f.start.premises ≡ f.entry ++ more → IsKept (frame_over c known f) (IsBinaryFine c f) (IsSourceFine c f) (entry_holds f)
  entry_is_kept more is = record {
    start = λ x y premise at.
        let all = subst (λ (lines : List Term). all_hold lines at x y ≡ true) is (and_parts (known at x y) (all_hold f.start.premises at x y) (premise at)).1 in
        or_right (has_failed x) (all_hold f.entry at x y)
        (pass_all (λ (line : Term). holds (values_at at x y) line) f.entry
        (all_left (λ (line : Term). holds (values_at at x y) line ≡ true) f.entry more (all_pass (λ (line : Term). holds (values_at at x y) line) (f.entry ++ more) all)));
    binary = λ x y fine_x fine_y held at. same_there at (step f.binary.graphs x) y Failed ∙ now x fine_x at;
    source = λ x y fine_x fine_y held at. same_there at x (step f.source.graphs y) y ∙ held at;
  }
