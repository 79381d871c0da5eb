-- Call: valid obligations and a callee that is right give the simulation from the calls to the landing nodes.
use Rattle.std.proofs.Common.{◌≡◌, List, [], sym, subst}
use Rattle.term_core_spec.specs.Value.{Assignment, IsAssignment}
use Rattle.graph_core_spec.specs.Simulation.{IsRelated, Simulates}
use Rattle.graph_core_spec.specs.Graph.{Binding}
use Rattle.graph_core_spec.specs.Run.{Running, resumed}
use Rattle.proof_tree_spec.specs.Cuts.{across}
use Rattle.proof_tree_spec.specs.Frames.{Frame, Hold}
use Rattle.sim_rules_spec.specs.Points.{Convention}
use Rattle.sim_rules_spec.specs.Systems.{Relation, entry_holds, frame_over, hold_over, relation, IsBinaryFine, IsSourceFine}
use Rattle.sim_rules_spec.specs.Proper.{IsConvention}
use Rattle.sim_rules_spec.specs.Calls.{CallPair, Callee, IsCallPair, IsReturnOf, IsGivenBack, AreTrueOfCall}
use Rattle.sim_rules_spec.specs.Crossing.{AreCallsAt, CalleesCross, IsRightCallee, pair_of}
use Rattle.sim_rules_spec.proofs.Calls.{callees_begin_well}
use Rattle.sim_rules_spec.proofs.Returned.{callees_return_well}
use Rattle.sim_rules_spec.proofs.Crossing.{crossed}

module _ (c : Convention) (known : Relation) (f : Frame) (callee : Callee) (call landing : Hold)
    (calls : AreCallsAt f (hold_over c call) (hold_over c landing)) where
  abbrev pair : CallPair
  pair = pair_of f (hold_over c call) (hold_over c landing) calls

  pub called : IsConvention c → calls.binary_outputs ≡ [] → IsCallPair pair → IsReturnOf c f pair callee call.relation landing.relation
      → AreTrueOfCall c f pair callee call.relation landing.relation → IsRightCallee c known f callee call landing calls
      → Simulates (across (frame_over c known f) (entry_holds f) (hold_over c call) (hold_over c landing)) (IsBinaryFine c f) (IsSourceFine c f)
  called convention none is back valid right =
      crossed c known (entry_holds f) f (hold_over c call) (hold_over c landing) (IsBinaryFine c f) (IsSourceFine c f)
      calls.binary_inputs calls.binary_outputs calls.source_inputs calls.source_outputs calls.binary calls.source agree
    where
      agree : CalleesCross c known (entry_holds f) f (hold_over c call) (hold_over c landing) (IsBinaryFine c f) (IsSourceFine c f) calls
      agree x y start =
          let begun = callees_begin_well c f pair callee call.relation f.binary.outermost call.nodes.binary f.source.outermost call.nodes.source x y
          convention is valid.begins start.premise start.binary_fine start.source_fine in
          let both = right x y start begun in
          let related : (r s : Assignment) → IsAssignment r → IsAssignment s → IsGivenBack c callee x r s
          → IsRelated (relation c landing.relation) (Running f.binary.outermost landing.nodes.binary (resumed calls.binary_outputs r x) [])
          (Running f.source.outermost landing.nodes.source (resumed calls.source_outputs s y) []) = λ r s sorted_r sorted_s given.
          subst (λ (outputs : List Binding). IsRelated (relation c landing.relation) (Running f.binary.outermost landing.nodes.binary (resumed outputs r x) [])
          (Running f.source.outermost landing.nodes.source (resumed calls.source_outputs s y) [])) (sym none)
          (callees_return_well c f pair callee call.relation landing.relation f.binary.outermost call.nodes.binary landing.nodes.binary
          f.source.outermost call.nodes.source landing.nodes.source x y r s convention back valid.returns start.premise start.binary_fine start.source_fine sorted_r sorted_s given) in
          record {
            safe = both.safe;
            forth = λ t r ret. let q = both.forth t r ret in (q.0, q.1, q.2, related r q.1 q.3.0 q.3.1 q.3.2);
            back = λ u s ret. let q = both.back u s ret in (q.0, q.1, q.2, related q.1 s q.3.0 q.3.1 q.3.2);
          }
