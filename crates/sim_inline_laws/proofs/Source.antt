-- A frame may be simulated with calls of the source inlined.
use Rattle.std.proofs.Common.{◌≡◌, ◌≢◌, ◌∙◌, ◌⊎◌, inl, inr, ℕ, true, false, ◌||◌, refl, sym, ap, subst, arith, List, [], map, All}
use Rattle.std.proofs.lemmas.Bool.{and_parts, and_from}
use Rattle.std.proofs.lemmas.List.Elements.{All-nil, All-cons}
use Rattle.term_core_spec.specs.declared.Variable.{Variable}
use Rattle.term_core_spec.specs.Term.{Term}
use Rattle.term_core_spec.specs.Value.{Assignment}
use Rattle.graph_core_spec.specs.TransitionSystem.{after, StopsAt, IsSafe, KeepsBounds}
use Rattle.graph_core_spec.specs.declared.Mark.{Mark}
use Rattle.graph_core_spec.specs.declared.Next.TheVariants as next
use Rattle.graph_core_spec.specs.Graph.{Binding, Basic, Graph, IsValid}
use Rattle.graph_core_spec.specs.Simulation as systems
use Rattle.graph_core_spec.specs.Simulation.{Agree, EndsAlike, both_return, both_arrive, IsHeld, IsStart, source_marks}
use Rattle.graph_core_spec.specs.Run.{State, Running, Returned, Failed, has_returned, has_failed}
use Rattle.graph_core_spec.specs.Fixed.{holds_byte, AlwaysHoldsFixed}
use Rattle.graph_inline_spec.specs.Inlining.{TermSpeaksOf}
use Rattle.proof_tree_spec.specs.Frames.{Goal, Frame}
use Rattle.sim_rules_spec.specs.Points.{Convention, values_in, all_hold, with_memory, bounded, source_memory, source_zone}
use Rattle.sim_rules_spec.specs.Systems.{system_at, goal_over, hold_over, frame_over, source_always, IsBinaryFine, IsSourceFine, IsSimulated}
use Rattle.graph_inline_spec.specs.Beside.{beside, own_number}
use Rattle.sim_inline_laws.specs.Unfolding.{Inlinable, Functions, Unfolds}
use Rattle.sim_inline_laws.specs.Runs.{SameOfFunction, EndAlike, beside_side}
use Rattle.sim_inline_laws.specs.Frames.{SparesIt, IsNeverBound, IsWhole, IsInlinableSide, SourceIsSound}
use Rattle.sim_inline_laws.proofs.Beside.{at_own, all_beside, failing_valid}
use Rattle.sim_inline_laws.proofs.Unfolded.{IsUnfolded, unfolded_is}
use Rattle.sim_inline_laws.proofs.Chained.{chain_ends, chain_holds}
use Rattle.sim_inline_laws.proofs.Spared.{own_spares}
use Rattle.sim_inline_laws.proofs.Steady.{stays_so}
use Rattle.sim_inline_laws.proofs.Ending.{old_stops, new_stops, new_safe}
use Rattle.sim_inline_laws.proofs.Lines.{source_unchanged, source_returns, still_hold}
use Rattle.sim_inline_laws.proofs.Starting.{at_node, is_at_node, none_held, no_goal}

module _ (c : Convention) (lines : List Term) (f : Frame) (functions : Functions) (function : Inlinable) (free : ℕ) (own : Graph) (whole : IsWhole c f)
    (side : IsInlinableSide f.source f.start.nodes.source functions function) (unfolds : Unfolds functions function free own)
    (zone : All (TermSpeaksOf (IsNeverBound f.source.graphs)) (source_zone c)) where
  abbrev inlined_frame : Frame
  inlined_frame = record f { source = beside_side f.source own }

  abbrev old : systems.Frame State State
  old = frame_over c (all_hold lines) f

  abbrev new : systems.Frame State State
  new = frame_over c (all_hold lines) inlined_frame

  so_far : IsUnfolded f.source.graphs functions side.set f.source.outermost function side.outermost free own
  so_far = unfolded_is f.source.graphs functions side.set f.source.outermost function side.outermost free own unfolds

  -- with calls inlined, no graph binds what none bound
  none_binds : (v : Variable) → IsNeverBound f.source.graphs v → IsNeverBound (beside f.source.graphs own) v
  none_binds v is = record {
    shared = is.shared;
    unbound = all_beside (λ (g : Graph). All (SparesIt v) g.nodes) f.source.graphs own is.unbound
        (All-cons (SparesIt v) (Basic [] next.Err) [] (All-nil (λ (b : Binding). b.variable ≢ v)) (All-nil (SparesIt v)))
        (own_spares f.source.graphs functions side.set f.source.outermost function side.outermost v is free own unfolds);
  }

  no_source : source_marks new ≡ []
  no_source = ap (λ (goals : List Goal). map (λ (g : systems.Goal State State). g.source) (map (goal_over c) goals)) whole.no_goals

  no_goals : old.goals ≡ []
  no_goals = ap (map (goal_over c)) whole.no_goals

  no_holds : new.holds ≡ []
  no_holds = ap (map (hold_over c)) whole.no_holds

  module _ (values : Assignment) (x : State) where
    abbrev begin : State
    begin = Running f.source.outermost f.start.nodes.source values []

    abbrev begin_own : State
    begin_own = Running (own_number f.source.graphs) f.start.nodes.source values []

    ends : EndAlike f.source (beside_side f.source own) begin begin_own
    ends = chain_ends f.source.graphs f.source.outermost functions function side.set side.outermost f.start.nodes.source side.start_there values free own unfolds

    -- ---- what always holds

    module _ (fine : IsSourceFine c f begin) where
      bytes : AlwaysHoldsFixed f.source.graphs f.source.outermost (bounded c.fixed) source_memory begin
      bytes k at =
          (and_parts (holds_byte (bounded c.fixed) source_memory at (after (system_at f.source) k begin)) _ (fine.held k at)).0

      own_bytes : AlwaysHoldsFixed (beside f.source.graphs own) (own_number f.source.graphs) (bounded c.fixed) source_memory begin_own
      own_bytes =
          chain_holds f.source.graphs f.source.outermost functions function side.set side.outermost f.start.nodes.source side.start_there values (bounded c.fixed) source_memory refl bytes free own
          unfolds

      begins_so : (at : ℕ) → source_always c at begin ≡ true
      unfolding after
      begins_so at = fine.held 0 at

      zone_begins : (at : ℕ) → all_hold (source_zone c) at Failed begin ≡ true
      zone_begins at = (and_parts (holds_byte (bounded c.fixed) source_memory at begin) (all_hold (source_zone c) at Failed begin) (begins_so at)).1

      abbrev there : ℕ → State
      there k = after (system_at (beside_side f.source own)) k begin_own

      unchanged : (k : ℕ) → has_failed (there k) ≡ false → (v : Variable) → IsNeverBound f.source.graphs v → values_in (there k) v ≡ values_in begin v
      unchanged k live v is = stays_so (beside f.source.graphs own) v (none_binds v is) (values v) (own_number f.source.graphs) k f.start.nodes.source values refl live

      own_always : (k at : ℕ) → source_always c at (there k) ≡ true
      own_always k at =
          and_from (holds_byte (bounded c.fixed) source_memory at (there k)) (has_failed (there k) || all_hold (source_zone c) at Failed (there k)) (own_bytes k at)
          (still_hold (source_zone c) at Failed Failed (there k) begin (has_failed (there k))
          (λ live. source_unchanged (IsNeverBound f.source.graphs) (source_zone c) zone at Failed (there k) begin (unchanged k live)) (zone_begins at))

      own_fine : IsSourceFine c inlined_frame begin_own
      own_fine = record {
        kept = record { valid = all_beside IsValid f.source.graphs own fine.kept.valid failing_valid so_far.valid; sorted = fine.kept.sorted };
        held = own_always;
      }

    -- ---- the start

    module _ (starts : IsStart old (IsBinaryFine c f) (IsSourceFine c f) x begin) (simulated : IsSimulated c (all_hold lines) inlined_frame) where
      own_safe : (n : ℕ) → IsSafe new.source (source_marks new) n begin_own
      own_safe n =
          subst (λ (marks : List Mark). IsSafe new.source marks n begin_own) (sym no_source)
          (new_safe f.source (beside_side f.source own) begin begin_own ends
          (λ m. subst (λ (marks : List Mark). IsSafe old.source marks m begin) no_source (starts.source_safe m)) n)

      own_starts : IsStart new (IsBinaryFine c inlined_frame) (IsSourceFine c inlined_frame) x begin_own
      own_starts = record {
        binary_at = starts.binary_at;
        source_at = is_at_node (beside f.source.graphs own) (own_number f.source.graphs) f.start.nodes.source own values (at_own f.source.graphs own) (omega (arith, side.start_there, so_far.size));
        premise = starts.premise;
        binary_fine = starts.binary_fine;
        source_fine = own_fine starts.source_fine;
        binary_kept = starts.binary_kept;
        source_kept = λ n. subst (λ (bounds : List Mark). KeepsBounds new.source (source_marks new) bounds n begin_own) (sym whole.no_source_bounds) (λ k within running. All-nil _);
        source_safe = own_safe;
      }

      own_agree : (n : ℕ) → Agree new n x begin_own
      own_agree n = elim (simulated x begin_own own_starts n) [
        | inl agrees ↦ agrees
        | inr met ↦ absurd (none_held new x begin_own no_holds met)
      ]

      -- ---- the ends

      alike : (t j u : ℕ) (before result : Assignment) → after old.source t begin ≡ Returned before → after new.source j begin_own ≡ Returned result → SameOfFunction before result
          → EndsAlike new (after new.binary u x) (after new.source j begin_own) → EndsAlike old (after old.binary u x) (after old.source t begin)
      alike t j u before result old_is new_is same (both_return binary_returned _ related) =
          both_return binary_returned (ap has_returned old_is)
          (λ at.
          source_returns (with_memory c c.returns) whole.returns (after old.source t begin) (after new.source j begin_own) before result old_is new_is same at (after old.binary u x)
          ∙ related at)
      alike t j u before result old_is new_is same (both_arrive g among binary_there source_there related) = absurd (no_goal new g no_goals among)

      agree : (n : ℕ) → Agree old n x begin
      agree n = record {
        safe = (own_agree n).safe;
        forth = λ u within stops.
            let (j, own_stop, end) = (own_agree u).forth u (omega arith) stops in
            let (result, new_is, before, both) = new_stops f.source (beside_side f.source own) begin begin_own ends j
            (subst (λ (marks : List Mark). StopsAt new.source marks j begin_own) no_source own_stop) in
            let t = both.old_first.moment in (
              t,
              subst (λ (marks : List Mark). StopsAt old.source marks t begin) (sym no_source) both.old_first.stops,
              alike t j u before result both.old_first.is new_is both.same end,
            );
        back = λ t within stops.
            let (before, old_is, result, both) = old_stops f.source (beside_side f.source own) begin begin_own ends t
            (subst (λ (marks : List Mark). StopsAt old.source marks t begin) no_source stops) in
            let j = both.new_first.moment in
            let (u, binary_stops, end) = (own_agree j).back j (omega arith)
            (subst (λ (marks : List Mark). StopsAt new.source marks j begin_own) (sym no_source) both.new_first.stops) in
            (u, binary_stops, alike t j u before result old_is both.new_first.is both.same end);
      }

pub source_sound : SourceIsSound
source_sound c lines f functions function free own whole side unfolds zone simulated = λ x y starts n.
    let (values, is) = at_node f.source.graphs f.source.outermost f.start.nodes.source y starts.source_at in
    subst (λ (s : State). Agree (frame_over c (all_hold lines) f) n x s ⊎ IsHeld (frame_over c (all_hold lines) f) x s) (sym is)
    (inl (agree c lines f functions function free own whole side unfolds zone values x
    (subst (λ (s : State). IsStart (frame_over c (all_hold lines) f) (IsBinaryFine c f) (IsSourceFine c f) x s) is starts) simulated n))
