-- A frame may be simulated with calls of the binary inlined.
use Rattle.std.proofs.Common.{◌≡◌, ◌∙◌, ◌⊎◌, inl, inr, ℕ, true, false, ◌&&◌, ◌||◌, refl, sym, ap, subst, arith, List, [], ◌++◌, map, All}
use Rattle.std.proofs.lemmas.Bool.{and_parts, and_from}
use Rattle.std.proofs.lemmas.List.Elements.{All-nil}
use Rattle.term_core_spec.specs.declared.Variable.{Variable}
use Rattle.term_core_spec.specs.Term.{Term}
use Rattle.term_core_spec.specs.Value.{Assignment}
use Rattle.graph_core_spec.specs.TransitionSystem.{after, StopsAt, IsSafe, KeepsBounds}
use Rattle.graph_core_spec.specs.declared.Mark.{Mark}
use Rattle.graph_core_spec.specs.Graph.{Graph, IsValid}
use Rattle.graph_core_spec.specs.Simulation as systems
use Rattle.graph_core_spec.specs.Simulation.{Agree, EndsAlike, both_return, both_arrive, IsHeld, IsStart, binary_marks}
use Rattle.graph_core_spec.specs.Run.{State, Running, Returned, Failed, has_returned, has_failed}
use Rattle.graph_core_spec.specs.Fixed.{holds_byte, AlwaysHoldsFixed}
use Rattle.graph_inline_spec.specs.Inlining.{TermSpeaksOf}
use Rattle.proof_tree_spec.specs.Frames.{Goal, Frame}
use Rattle.sim_rules_spec.specs.Points.{Convention, values_in, all_hold, with_memory, bounded, nothing, binary_memory, entry_zone}
use Rattle.sim_rules_spec.specs.Systems.{system_at, goal_over, hold_over, frame_over, entry_holds, binary_always, IsBinaryFine, IsSourceFine, IsSimulated}
use Rattle.sim_rules_spec.proofs.Truths.{all_left, all_right}
use Rattle.graph_inline_spec.specs.Beside.{beside, own_number}
use Rattle.sim_inline_laws.specs.Unfolding.{Inlinable, Functions, Unfolds}
use Rattle.sim_inline_laws.specs.Runs.{SameOfFunction, EndAlike, beside_side}
use Rattle.sim_inline_laws.specs.Frames.{Stays, IsWhole, IsInlinableSide, BinaryIsSound}
use Rattle.sim_inline_laws.proofs.Beside.{at_own, all_beside, failing_valid}
use Rattle.sim_inline_laws.proofs.Unfolded.{IsUnfolded, unfolded_is}
use Rattle.sim_inline_laws.proofs.Chained.{chain_ends, chain_holds}
use Rattle.sim_inline_laws.proofs.Staying.{stays}
use Rattle.sim_inline_laws.proofs.Ending.{old_stops, new_stops, old_safe}
use Rattle.sim_inline_laws.proofs.Lines.{binary_unchanged, binary_returns, still_hold}
use Rattle.sim_inline_laws.proofs.Starting.{at_node, is_at_node, none_held, no_goal}

module _ (c : Convention) (lines : List Term) (f : Frame) (functions : Functions) (function : Inlinable) (free : ℕ) (own : Graph) (whole : IsWhole c f)
    (side : IsInlinableSide f.binary f.start.nodes.binary functions function) (unfolds : Unfolds functions function free own)
    (entry : All (TermSpeaksOf (Stays function.graph)) (f.entry ++ entry_zone c)) where
  abbrev inlined_frame : Frame
  inlined_frame = record f { binary = beside_side f.binary own }

  abbrev old : systems.Frame State State
  old = frame_over c (all_hold lines) f

  abbrev new : systems.Frame State State
  new = frame_over c (all_hold lines) inlined_frame

  so_far : IsUnfolded f.binary.graphs functions side.set f.binary.outermost function side.outermost free own
  so_far = unfolded_is f.binary.graphs functions side.set f.binary.outermost function side.outermost free own unfolds

  no_binary : binary_marks new ≡ []
  no_binary = ap (λ (goals : List Goal). map (λ (g : systems.Goal State State). g.binary) (map (goal_over c) goals)) whole.no_goals

  no_goals : old.goals ≡ []
  no_goals = ap (map (goal_over c)) whole.no_goals

  no_holds : new.holds ≡ []
  no_holds = ap (map (hold_over c)) whole.no_holds

  module _ (values : Assignment) (y : State) where
    abbrev begin : State
    begin = Running f.binary.outermost f.start.nodes.binary values []

    abbrev begin_own : State
    begin_own = Running (own_number f.binary.graphs) f.start.nodes.binary values []

    ends : EndAlike f.binary (beside_side f.binary own) begin begin_own
    ends = chain_ends f.binary.graphs f.binary.outermost functions function side.set side.outermost f.start.nodes.binary side.start_there values free own unfolds

    -- ---- what always holds

    module _ (fine : IsBinaryFine c f begin) where
      bytes : AlwaysHoldsFixed f.binary.graphs f.binary.outermost (bounded nothing) binary_memory begin
      bytes k at =
          (and_parts (holds_byte (bounded nothing) binary_memory at (after (system_at f.binary) k begin)) _ (fine.held k at)).0

      own_bytes : AlwaysHoldsFixed (beside f.binary.graphs own) (own_number f.binary.graphs) (bounded nothing) binary_memory begin_own
      own_bytes =
          chain_holds f.binary.graphs f.binary.outermost functions function side.set side.outermost f.start.nodes.binary side.start_there values (bounded nothing) binary_memory refl bytes free own
          unfolds

      begins_so : (at : ℕ) → binary_always c f at begin ≡ true
      unfolding after
      begins_so at = fine.held 0 at

      parts : (at : ℕ) → (all_hold f.entry at begin Failed ≡ true) × (all_hold (entry_zone c) at begin Failed ≡ true)
      parts at =
          let both = and_parts (holds_byte (bounded nothing) binary_memory at begin) _ (begins_so at) in
          and_parts (all_hold f.entry at begin Failed) (all_hold (entry_zone c) at begin Failed) both.1

      abbrev there : ℕ → State
      there k = after (system_at (beside_side f.binary own)) k begin_own

      unchanged : (k : ℕ) → has_failed (there k) ≡ false → (v : Variable) → Stays function.graph v → values_in (there k) v ≡ values_in begin v
      unchanged k live v is =
          stays v is.own (values v) (beside f.binary.graphs own) (own_number f.binary.graphs) own (at_own f.binary.graphs own) (so_far.keeps v is.own is.of_function is.unbound) k f.start.nodes.binary
          values refl live

      lines_there : (list : List Term) → All (TermSpeaksOf (Stays function.graph)) list → (k at : ℕ) → all_hold list at begin Failed ≡ true
          → (has_failed (there k) || all_hold list at (there k) Failed) ≡ true
      lines_there list speak k at begins =
          still_hold list at (there k) begin Failed Failed (has_failed (there k))
          (λ live. binary_unchanged (Stays function.graph) (λ v is. is.own) list speak at (there k) begin Failed (unchanged k live)) begins

      own_always : (k at : ℕ) → binary_always c inlined_frame at (there k) ≡ true
      own_always k at =
          and_from (holds_byte (bounded nothing) binary_memory at (there k))
          (entry_holds inlined_frame at (there k) Failed && (has_failed (there k) || all_hold (entry_zone c) at (there k) Failed)) (own_bytes k at)
          (and_from (entry_holds inlined_frame at (there k) Failed) (has_failed (there k) || all_hold (entry_zone c) at (there k) Failed)
          (lines_there f.entry (all_left (TermSpeaksOf (Stays function.graph)) f.entry (entry_zone c) entry) k at (parts at).0)
          (lines_there (entry_zone c) (all_right (TermSpeaksOf (Stays function.graph)) f.entry (entry_zone c) entry) k at (parts at).1))

      own_fine : IsBinaryFine c inlined_frame begin_own
      own_fine = record {
        kept = record { valid = all_beside IsValid f.binary.graphs own fine.kept.valid failing_valid so_far.valid; sorted = fine.kept.sorted };
        held = own_always;
      }

    -- ---- the start

    module _ (starts : IsStart old (IsBinaryFine c f) (IsSourceFine c f) begin y) (simulated : IsSimulated c (all_hold lines) inlined_frame) where
      own_starts : IsStart new (IsBinaryFine c inlined_frame) (IsSourceFine c inlined_frame) begin_own y
      own_starts = record {
        binary_at = is_at_node (beside f.binary.graphs own) (own_number f.binary.graphs) f.start.nodes.binary own values (at_own f.binary.graphs own) (omega (arith, side.start_there, so_far.size));
        source_at = starts.source_at;
        premise = starts.premise;
        binary_fine = own_fine starts.binary_fine;
        source_fine = starts.source_fine;
        binary_kept = λ n. subst (λ (bounds : List Mark). KeepsBounds new.binary (binary_marks new) bounds n begin_own) (sym whole.no_binary_bounds) (λ k within running. All-nil _);
        source_kept = starts.source_kept;
        source_safe = starts.source_safe;
      }

      own_agree : (n : ℕ) → Agree new n begin_own y
      own_agree n = elim (simulated begin_own y own_starts n) [
        | inl agrees ↦ agrees
        | inr met ↦ absurd (none_held new begin_own y no_holds met)
      ]

      -- ---- the ends

      alike : (t j u : ℕ) (before result : Assignment) → after old.binary t begin ≡ Returned before → after new.binary j begin_own ≡ Returned result → SameOfFunction before result
          → EndsAlike new (after new.binary j begin_own) (after new.source u y) → EndsAlike old (after old.binary t begin) (after old.source u y)
      alike t j u before result old_is new_is same (both_return _ source_returned related) =
          both_return (ap has_returned old_is) source_returned
          (λ at.
          binary_returns (with_memory c c.returns) whole.returns (after old.binary t begin) (after new.binary j begin_own) before result old_is new_is same at (after old.source u y)
          ∙ related at)
      alike t j u before result old_is new_is same (both_arrive g among binary_there source_there related) = absurd (no_goal new g no_goals among)

      agree : (n : ℕ) → Agree old n begin y
      agree n = record {
        safe = subst (λ (marks : List Mark). IsSafe old.binary marks n begin) (sym no_binary)
            (old_safe f.binary (beside_side f.binary own) begin begin_own ends
            (λ m. subst (λ (marks : List Mark). IsSafe new.binary marks m begin_own) no_binary (own_agree m).safe) n);
        forth = λ t within stops.
            let (before, old_is, result, both) = old_stops f.binary (beside_side f.binary own) begin begin_own ends t
            (subst (λ (marks : List Mark). StopsAt old.binary marks t begin) no_binary stops) in
            let j = both.new_first.moment in
            let (u, source_stops, end) = (own_agree j).forth j (omega arith)
            (subst (λ (marks : List Mark). StopsAt new.binary marks j begin_own) (sym no_binary) both.new_first.stops) in
            (u, source_stops, alike t j u before result old_is both.new_first.is both.same end);
        back = λ u within stops.
            let (j, own_stop, end) = (own_agree u).back u (omega arith) stops in
            let (result, new_is, before, both) = new_stops f.binary (beside_side f.binary own) begin begin_own ends j
            (subst (λ (marks : List Mark). StopsAt new.binary marks j begin_own) no_binary own_stop) in
            let t = both.old_first.moment in (
              t,
              subst (λ (marks : List Mark). StopsAt old.binary marks t begin) (sym no_binary) both.old_first.stops,
              alike t j u before result both.old_first.is new_is both.same end,
            );
      }

pub binary_sound : BinaryIsSound
binary_sound c lines f functions function free own whole side unfolds entry simulated = λ x y starts n.
    let (values, is) = at_node f.binary.graphs f.binary.outermost f.start.nodes.binary x starts.binary_at in
    subst (λ (s : State). Agree (frame_over c (all_hold lines) f) n s y ⊎ IsHeld (frame_over c (all_hold lines) f) s y) (sym is)
    (inl (agree c lines f functions function free own whole side unfolds entry values y
    (subst (λ (s : State). IsStart (frame_over c (all_hold lines) f) (IsBinaryFine c f) (IsSourceFine c f) s y) is starts) simulated n))
