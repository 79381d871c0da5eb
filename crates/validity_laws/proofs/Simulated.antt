-- A frame that is proved is simulated.
use Rattle.std.proofs.Common.{◌≡◌, ◌∙◌, ◌<◌, ◌^◌, ℕ, List, [], ◌∷◌, ◌++◌, map, Option, Some, None, slice_get, option_and_then, refl, sym, ap, subst}
use Rattle.std.specs.List.{All}
use Rattle.std.proofs.lemmas.List.{map_push, append_assoc}
use Rattle.std.proofs.lemmas.List.Elements.{All-nil, All-cons, All-append}
use Rattle.memory_spec.specs.Zones.{Zone}
use Rattle.elf_read_spec.specs.Image.{fixed_byte}
use Rattle.term_core_spec.specs.declared.Width.TheVariants.{W32}
use Rattle.term_core_spec.specs.Term.{Term, not_term}
use Rattle.graph_core_spec.specs.TransitionSystem.{IsTransitionSystem, AreCounted}
use Rattle.graph_core_spec.specs.declared.Mark.{Mark}
use Rattle.graph_core_spec.specs.Simulation as systems
use Rattle.graph_core_spec.specs.Simulation.{Simulates}
use Rattle.graph_core_spec.specs.Graph as graph
use Rattle.graph_core_spec.specs.Graph.{Node, Graph, Graphs, node_at, node_count}
use Rattle.graph_core_spec.specs.Run.{State, IsPath, Lands}
use Rattle.graph_core_spec.specs.Sorts.{IsSorted}
use Rattle.graph_core_spec.proofs.Sorts.{stays_sorted}
use Rattle.graph_core_spec.proofs.Walks.{is_system}
use Rattle.c_token_spec.specs.Words.{entry_of}
use Rattle.c_types_spec.specs.declared.Scalar.{Scalar}
use Rattle.c_types_spec.specs.Core.{FunctionType}
use Rattle.c_graph_spec.specs.State.{result}
use Rattle.proof_tree_spec.specs.declared.Counts.{Counts}
use Rattle.proof_tree_spec.specs.Cuts as cuts
use Rattle.proof_tree_spec.specs.Cuts.{AreCounts, Passes, IsKept, IsOver, once}
use Rattle.proof_tree_spec.specs.Frames.{Start, Goal, Hold, Frame, with_premise, with_binary_bound, with_source_bound, goal_at, LetsPass, IsClear}
use Rattle.sim_rules_spec.specs.Points.{Convention, same_byte, is_binary, is_source}
use Rattle.sim_rules_spec.specs.Systems.{Relation, system_at, goal_over, hold_over, frame_over, entry_holds, binary_always, source_always, IsBinaryFine, IsSourceFine, IsSimulated}
use Rattle.sim_rules_spec.specs.Rules.{AreOfLeaf, AreOfBinaryRestrict, AreOfSourceRestrict, AreOfWait, at_cut}
use Rattle.sim_rules_spec.specs.Calls.{IsPlainLine, IsGivenTerm}
use Rattle.sim_rules_spec.specs.Proper.{IsConvention, IsProper, IsOwnNode, Opens}
use Rattle.sim_rules_spec.specs.Crossing.{AreCallsAt}
use Rattle.sim_rules_spec.proofs.AtCut.{cuts_open}
use Rattle.sim_rules_spec.proofs.Called.{called}
use Rattle.sim_rules_spec.proofs.Calling.{is_convention}
use Rattle.sim_rules_spec.proofs.Case.{case_is_sound}
use Rattle.sim_rules_spec.proofs.CutFrames.{enters_is, steps_is, later_is}
use Rattle.sim_rules_spec.proofs.Kept.{entry_is_kept}
use Rattle.sim_rules_spec.proofs.Leaf.{leaf_is_sound}
use Rattle.sim_rules_spec.proofs.Restrict.{binary_restrict_is_sound, source_restrict_is_sound}
use Rattle.sim_rules_spec.proofs.Start.{all_at}
use Rattle.sim_rules_spec.proofs.Wait.{waits}
use Rattle.sim_cut.proofs.Over as over
use Rattle.sim_cut.proofs.Soundness.{wait_is_sound}
use Rattle.agreement_laws.specs.EntryFrame.{Pair, place_of, convention_of, entry_frame, result_term, widened, entry_premises}
use Rattle.agreement_laws.specs.Statements.{IsPair, IsSimulatedAtEntry}
use Rattle.agreement_laws.specs.Callers.{Base, frame_in, IsPassed, callee_of}
use Rattle.agreement_laws.proofs.EntryOpens.{entry_opens}
use Rattle.agreement_laws.proofs.Pairs.{typed_body, fixed_below}
use Rattle.agreement_laws.proofs.RightCallee.{agree}
use Rattle.validity_laws.specs.Derivation.{Function, pair_for, Origin, AtEntry, AtCut, opening, no_zone, stated, start_at, HasCounts, IsCallOf, IsProved, AreSides, leaf, case, binary_bound, source_bound, split, call, hold, wait}
use Rattle.validity_laws.specs.Statements.{AreSimulated}
use Rattle.validity_laws.proofs.CodeSpeaks as code_graphs
use Rattle.validity_laws.proofs.EntryLines.{are_entry_lines}
use Rattle.validity_laws.proofs.PlainLines.{result_given, plain_lines, plain_premises, plain_low, plain_high, plain_memory}
use Rattle.validity_laws.proofs.SourceGraphs.{node_of_source, same_name}
use Rattle.validity_laws.specs.Inlined.{IsInlined}
use Rattle.validity_laws.proofs.InlinedSides.{IsSideOf}
use Rattle.validity_laws.proofs.InlinedCode.{IsCodeNode, code_side, code_speaks}
use Rattle.validity_laws.proofs.InlinedSource.{HasPassedShape, IsSourceNode, kind_spoken, source_side, source_speaks}

-- ---- marks of frames over systems

binary_marks_same : (c : Convention) (goals : List Goal) → map (λ (g : systems.Goal State State). g.binary) (map (goal_over c) goals) ≡ map (λ (g : Goal). g.binary) goals
binary_marks_same c [] = refl
binary_marks_same c (g ∷ goals) = ap (λ (marks : List Mark). g.binary ∷ marks) (binary_marks_same c goals)

source_marks_same : (c : Convention) (goals : List Goal) → map (λ (g : systems.Goal State State). g.source) (map (goal_over c) goals) ≡ map (λ (g : Goal). g.source) goals
source_marks_same c [] = refl
source_marks_same c (g ∷ goals) = ap (λ (marks : List Mark). g.source ∷ marks) (source_marks_same c goals)

-- ---- obligations are the same wherever the zone is

leaf_moved : (q : Pair) (zone : Zone) (origin : Origin) (f : Frame) (terms : List Term) → AreOfLeaf (stated q) (opening q no_zone origin) f terms
    → AreOfLeaf (convention_of q zone) (opening q zone origin) f terms
leaf_moved q zone AtEntry f terms are = record { binary = are.binary; source = are.source; binary_are = are.binary_are; source_are = are.source_are; terms_are = are.terms_are }
leaf_moved q zone AtCut f terms are = record { binary = are.binary; source = are.source; binary_are = are.binary_are; source_are = are.source_are; terms_are = are.terms_are }

binary_moved : (q : Pair) (zone : Zone) (origin : Origin) (f : Frame) (bound : Mark) (terms : List Term) → AreOfBinaryRestrict (opening q no_zone origin) f bound terms
    → AreOfBinaryRestrict (opening q zone origin) f bound terms
binary_moved q zone AtEntry f bound terms are = record { shape = are.shape; cut = are.cut; binary = are.binary; source = are.source; binary_are = are.binary_are; source_are = are.source_are; terms_are = are.terms_are }
binary_moved q zone AtCut f bound terms are = record { shape = are.shape; cut = are.cut; binary = are.binary; source = are.source; binary_are = are.binary_are; source_are = are.source_are; terms_are = are.terms_are }

source_moved : (q : Pair) (zone : Zone) (origin : Origin) (f : Frame) (bound : Mark) (terms : List Term) → AreOfSourceRestrict (opening q no_zone origin) f bound terms
    → AreOfSourceRestrict (opening q zone origin) f bound terms
source_moved q zone AtEntry f bound terms are = record { shape = are.shape; cut = are.cut; binary = are.binary; source = are.source; binary_are = are.binary_are; source_are = are.source_are; terms_are = are.terms_are }
source_moved q zone AtCut f bound terms are = record { shape = are.shape; cut = are.cut; binary = are.binary; source = are.source; binary_are = are.binary_are; source_are = are.source_are; terms_are = are.terms_are }

wait_moved : (q : Pair) (zone : Zone) (origin : Origin) (f : Frame) (cut : Hold) (terms : List Term) → AreOfWait (stated q) (opening q no_zone origin) f cut terms
    → AreOfWait (convention_of q zone) (opening q zone origin) f cut terms
wait_moved q zone AtEntry f cut terms are = record { binary = are.binary; source = are.source; binary_are = are.binary_are; source_are = are.source_are; terms_are = are.terms_are }
wait_moved q zone AtCut f cut terms are = record { binary = are.binary; source = are.source; binary_are = are.binary_are; source_are = are.source_are; terms_are = are.terms_are }

module _ (q : Pair) (is : IsPair q) (sides : AreSides q) (small : q.stack < 2 ^ 32) (b : Base) (inlined : IsInlined q b) (earlier : List Function) (right : AreSimulated q earlier) (zone : Zone) where
  abbrev c : Convention
  c = convention_of q zone

  convention : IsConvention c
  convention = is_convention q.stack zone.low zone.high (result_term q.body.signature.result) (fixed_byte q.image) small (fixed_below q is)

  of_code : IsSideOf (entry_frame q).binary b.binary IsCodeNode
  of_code = code_side q is sides b inlined

  of_source : IsSideOf (entry_frame q).source b.source (IsSourceNode q.unit)
  of_source = source_side q is b inlined

  opens : (origin : Origin) (start : Start) (goals : List Goal) (holds : List Hold) → Opens c (frame_in q b start goals holds) (opening q zone origin)
  opens AtEntry start goals holds = entry_opens q zone (frame_in q b start goals holds) is small
  opens AtCut start goals holds = cuts_open c (frame_in q b start goals holds) convention

  -- ---- the graphs

  is_proper : (start : Start) (goals : List Goal) (holds : List Hold) → HasCounts (frame_in q b start goals holds) → IsProper (frame_in q b start goals holds)
  is_proper start goals holds counts = record {
    binary = record { graph = of_code.graph; there = of_code.there; speaks = code_speaks q is sides b inlined };
    source = record { graph = of_source.graph; there = of_source.there; speaks = source_speaks q is b inlined };
    binary_goals = counts.binary_goals;
    source_goals = counts.source_goals;
    binary_bounds = counts.binary_bounds;
    source_bounds = counts.source_bounds;
  }

  -- ---- one frame

  module _ (start : Start) (goals : List Goal) (holds : List Hold) (known : Relation) (more : List Term) (begins : start.premises ≡ entry_premises q ++ more) where
    abbrev f : Frame
    f = frame_in q b start goals holds

    abbrev g : systems.Frame State State
    g = frame_over c known f

    abbrev fine_x : State → Type 0
    fine_x = IsBinaryFine c f

    abbrev fine_y : State → Type 0
    fine_y = IsSourceFine c f

    binary_laws : IsTransitionSystem (system_at f.binary) (IsPath f.binary.graphs f.binary.outermost) (Lands f.binary.graphs f.binary.outermost) (IsSorted f.binary.graphs)
        (node_count f.binary.graphs f.binary.outermost)
    binary_laws = is_system f.binary.graphs f.binary.outermost (IsSorted f.binary.graphs) (stays_sorted f.binary.graphs)

    source_laws : IsTransitionSystem (system_at f.source) (IsPath f.source.graphs f.source.outermost) (Lands f.source.graphs f.source.outermost) (IsSorted f.source.graphs)
        (node_count f.source.graphs f.source.outermost)
    source_laws = is_system f.source.graphs f.source.outermost (IsSorted f.source.graphs) (stays_sorted f.source.graphs)

    kept : IsKept g fine_x fine_y (entry_holds f)
    kept = entry_is_kept c f known (are_entry_lines q) more begins

    is_over : HasCounts f → IsOver g (system_at f.binary) (system_at f.source)
    is_over counts = record {
      of_binary = refl;
      of_source = refl;
      counted = record {
        binary = subst AreCounted (sym (binary_marks_same c goals)) counts.binary_goals;
        source = subst AreCounted (sym (source_marks_same c goals)) counts.source_goals;
      };
    }

    allowed : (cut : Hold) → LetsPass f cut.nodes
        → cuts.IsAllowed g (IsPath f.binary.graphs f.binary.outermost) (IsPath f.source.graphs f.source.outermost) (hold_over c cut)
    allowed cut lets = record {
      binary = subst (λ (marks : List Mark). All (Passes (IsPath f.binary.graphs f.binary.outermost) start.nodes.binary cut.nodes.binary) marks)
          (sym (binary_marks_same c goals)) lets.binary;
      source = subst (λ (marks : List Mark). All (Passes (IsPath f.source.graphs f.source.outermost) start.nodes.source cut.nodes.source) marks)
          (sym (source_marks_same c goals)) lets.source;
    }

    is_clear : (cut : Hold) → IsClear f cut.nodes → cuts.IsClear g (hold_over c cut)
    is_clear cut clear = record {
      binary = subst (λ (marks : List Mark). All (λ (m : Mark). m.node ≡ cut.nodes.binary → ⊥) marks) (sym (binary_marks_same c goals)) clear.binary;
      source = subst (λ (marks : List Mark). All (λ (m : Mark). m.node ≡ cut.nodes.source → ⊥) marks) (sym (source_marks_same c goals)) clear.source;
    }

    split_frame : (cut : Hold) (enter step : Counts) (path : List ℕ) → HasCounts f → AreCounts enter → AreCounts step → LetsPass f cut.nodes
        → IsSimulated c known (frame_in q b start (goals ++ goal_at cut.nodes enter cut.relation ∷ []) holds)
        → IsSimulated c (at_cut c).known (frame_in q b (start_at q cut.nodes path cut.relation) (goals ++ goal_at cut.nodes step cut.relation ∷ []) holds)
        → IsSimulated c known f
    split_frame cut enter step path counts some_enter some_step lets enters steps =
        over.split g (entry_holds f) (binary_always c f) (source_always c) (system_at f.binary) (system_at f.source) binary_laws source_laws (is_over counts) kept
        (hold_over c cut) enter step some_enter some_step (allowed cut lets)
        (record { enters = enters_is c f known cut path enter enters; steps = steps_is c f known cut path step steps })

    hold_frame : (cut : Hold) (step : Counts) (path : List ℕ) → HasCounts f → AreCounts step → LetsPass f cut.nodes
        → IsSimulated c known (frame_in q b start goals (holds ++ cut ∷ []))
        → IsSimulated c (at_cut c).known (frame_in q b (start_at q cut.nodes path cut.relation) (goals ++ goal_at cut.nodes step cut.relation ∷ []) holds)
        → IsSimulated c known f
    hold_frame cut step path counts some_step lets starts steps =
        over.hold g (entry_holds f) (binary_always c f) (source_always c) (system_at f.binary) (system_at f.source) binary_laws source_laws (is_over counts) kept
        (hold_over c cut) step some_step (allowed cut lets)
        (record {
          starts = subst (λ (list : List (systems.Hold State State)). Simulates (record g { holds = list }) fine_x fine_y) (map_push (hold_over c) holds cut) starts;
          steps = steps_is c f known cut path step steps;
        })

    call_frame : (at_call landing : Hold) (path : List ℕ) → HasCounts f → LetsPass f at_call.nodes → IsClear f landing.nodes → IsCallOf q earlier f path at_call landing
        → IsSimulated c known (frame_in q b start (goals ++ goal_at at_call.nodes once at_call.relation ∷ []) holds)
        → IsSimulated c (at_cut c).known (frame_in q b (start_at q landing.nodes path landing.relation) goals holds)
        → IsSimulated c known f
    call_frame at_call landing path counts lets clear of before later =
        over.call g (entry_holds f) (binary_always c f) (source_always c) (system_at f.binary) (system_at f.source) binary_laws source_laws (is_over counts) kept
        (hold_over c at_call) (hold_over c landing)
        (record { callee = of.calls.binary.callee; inputs = of.calls.binary_inputs; outputs = of.calls.binary_outputs; here = of.calls.binary.here })
        (record { callee = of.calls.source.callee; inputs = of.calls.source_inputs; outputs = of.calls.source_outputs; here = of.calls.source.here })
        (allowed at_call lets) (is_clear landing clear)
        (record {
          before = enters_is c f known at_call path once before;
          inner = called c known f (callee_of (pair_for q of.function)) at_call landing calls convention code_shape.1
              (record { binary = code_own.0; source = source_own.0 })
              (record {
                outputs = source_shape.given;
                result = λ t h. callee_result of.function.body.signature.result t h;
                zone_from = plain_low q.stack;
                zone_to = plain_high;
                before_plain = All-append IsPlainLine (entry_premises q) at_call.relation (plain_premises q) (plain_lines b.setting inlined.setting path at_call.relation of.before);
                after_plain = All-append IsPlainLine landing.relation (same_byte c ∷ []) (plain_lines b.setting inlined.setting path landing.relation of.later)
                    (All-cons IsPlainLine (same_byte c) [] (plain_memory q zone) (All-nil IsPlainLine));
              })
              (record { begins = of.valid.begins; returns = of.valid.returns })
              (λ x y begin well. agree q b of.function.entry of.function.stack of.function.body zone known start goals holds at_call landing calls
              of_code.set of_source.set callee_is.0 callee_is.1 of.binary_callee of.source_callee code_shape.1
              (record { binary = code_shape.0; source = passed }) x y begin well);
          later = later_is c f known landing path later;
        })
      where
        callee_is : IsPair (pair_for q of.function) × IsSimulatedAtEntry (pair_for q of.function)
        callee_is = right of.function of.is_earlier

        node_in : (graphs : Graphs) (n k : ℕ) (graph : Graph) (node : Node) → slice_get graphs n ≡ Some graph → node_at graphs n k ≡ Some node → slice_get graph.nodes k ≡ Some node
        node_in graphs n k graph node there here = sym (ap (λ (o : Option Graph). option_and_then (λ (g : Graph). slice_get g.nodes k) o) there) ∙ here

        binary_node : Node
        binary_node = graph.Call of.calls.binary.callee of.calls.binary_inputs of.calls.binary_outputs landing.nodes.binary

        source_node : Node
        source_node = graph.Call of.calls.source.callee of.calls.source_inputs of.calls.source_outputs landing.nodes.source

        binary_there : slice_get of_code.graph.nodes at_call.nodes.binary ≡ Some binary_node
        binary_there = node_in b.binary.graphs b.binary.outermost at_call.nodes.binary of_code.graph binary_node of_code.there of.calls.binary.here

        source_there : slice_get of_source.graph.nodes at_call.nodes.source ≡ Some source_node
        source_there = node_in b.source.graphs b.source.outermost at_call.nodes.source of_source.graph source_node of_source.there of.calls.source.here

        code_node : IsCodeNode binary_node
        code_node = all_at IsCodeNode of_code.graph.nodes at_call.nodes.binary binary_node of_code.nodes binary_there

        source_call : IsSourceNode q.unit source_node
        source_call = all_at (IsSourceNode q.unit) of_source.graph.nodes at_call.nodes.source source_node of_source.nodes source_there

        code_shape : code_graphs.HasCallShape binary_node
        code_shape = code_node.1

        source_shape : HasPassedShape q.unit source_node
        source_shape = source_call.1

        code_own : IsOwnNode is_binary binary_node
        code_own = code_node.0

        source_own : IsOwnNode is_source source_node
        source_own = node_of_source source_node (kind_spoken q.unit (place_of q) source_node source_call.0)

        same_type : (o : Option FunctionType) (t u : FunctionType) → o ≡ Some t → o ≡ Some u → t ≡ u
        same_type o t u h k = cc

        -- the function that the source calls has the type of the callee
        types_are : source_shape.type.parameters ≡ of.function.body.signature.parameters
        types_are =
            let name = same_name q.unit.bodies source_shape.function of.function.body.name of.function.body callee_is.0.body_is (sym source_shape.number ∙ of.source_callee) in
            let declared = (typed_body (pair_for q of.function) callee_is.0).declared in
            let there : entry_of q.unit.functions source_shape.function ≡ Some of.function.body.signature = ap (entry_of q.unit.functions) name ∙ declared in
            ap (λ (t : FunctionType). t.parameters) (same_type (entry_of q.unit.functions source_shape.function) source_shape.type of.function.body.signature source_shape.has_type there)

        passed : IsPassed 0 of.function.body.signature.parameters of.calls.source_inputs
        passed = subst (λ (types : List Scalar). IsPassed 0 types of.calls.source_inputs) types_are source_shape.passed

        callee_result : (o : Option Scalar) (t : Term) → result_term o ≡ Some t → IsGivenTerm t
        callee_result None t h = absurd (cc)
        callee_result (Some type) t h = let same : widened type (result type) ≡ t = cc in subst IsGivenTerm same (result_given type W32)

        calls : AreCallsAt f (hold_over c at_call) (hold_over c landing)
        calls = record {
          binary_inputs = of.calls.binary_inputs;
          binary_outputs = of.calls.binary_outputs;
          source_inputs = of.calls.source_inputs;
          source_outputs = of.calls.source_outputs;
          binary = of.calls.binary;
          source = of.calls.source;
        }

  -- ---- proofs

  more_premises : (start : Start) (more : List Term) (test : Term) → start.premises ≡ entry_premises q ++ more → start.premises ++ test ∷ [] ≡ entry_premises q ++ (more ++ test ∷ [])
  more_premises start more test begins = ap (λ (lines : List Term). lines ++ test ∷ []) begins ∙ append_assoc (entry_premises q) more (test ∷ [])

  pub simulated : (origin : Origin) (start : Start) (goals : List Goal) (holds : List Hold) → IsProved q b earlier origin start goals holds
      → (more : List Term) → start.premises ≡ entry_premises q ++ more
      → IsSimulated c (opening q zone origin).known (frame_in q b start goals holds)
  simulated _ _ _ _ (leaf origin start goals holds terms counts are valid) more begins =
      leaf_is_sound c (frame_in q b start goals holds) (opening q zone origin) terms (is_proper start goals holds counts) (opens origin start goals holds)
      (leaf_moved q zone origin (frame_in q b start goals holds) terms are) valid
  simulated _ _ _ _ (case origin start goals holds test line holding failing) more begins =
      case_is_sound c (frame_in q b start goals holds) (opening q zone origin).known test line
      (simulated origin (with_premise start test) goals holds holding (more ++ test ∷ []) (more_premises start more test begins))
      (simulated origin (with_premise start (not_term test)) goals holds failing (more ++ not_term test ∷ []) (more_premises start more (not_term test) begins))
  simulated _ _ _ _ (binary_bound origin start goals holds bound terms counts some are valid rest) more begins =
      binary_restrict_is_sound c (frame_in q b start goals holds) (opening q zone origin) bound terms (is_proper start goals holds counts) (opens origin start goals holds) some valid
      (binary_moved q zone origin (frame_in q b start goals holds) bound terms are)
      (simulated origin (with_binary_bound start bound) goals holds rest more begins)
  simulated _ _ _ _ (source_bound origin start goals holds bound terms counts some are valid rest) more begins =
      source_restrict_is_sound c (frame_in q b start goals holds) (opening q zone origin) bound terms (is_proper start goals holds counts) (opens origin start goals holds) some valid
      (source_moved q zone origin (frame_in q b start goals holds) bound terms are)
      (simulated origin (with_source_bound start bound) goals holds rest more begins)
  simulated _ _ _ _ (split origin start goals holds cut enter step path counts some_enter some_step lets enters steps) more begins =
      split_frame start goals holds (opening q zone origin).known more begins cut enter step path counts some_enter some_step lets
      (simulated origin start (goals ++ goal_at cut.nodes enter cut.relation ∷ []) holds enters more begins)
      (simulated AtCut (start_at q cut.nodes path cut.relation) (goals ++ goal_at cut.nodes step cut.relation ∷ []) holds steps cut.relation refl)
  simulated _ _ _ _ (call origin start goals holds calls landing path counts lets clear of before later) more begins =
      call_frame start goals holds (opening q zone origin).known more begins calls landing path counts lets clear of
      (simulated origin start (goals ++ goal_at calls.nodes once calls.relation ∷ []) holds before more begins)
      (simulated AtCut (start_at q landing.nodes path landing.relation) goals holds later landing.relation refl)
  simulated _ _ _ _ (hold origin start goals holds cut step path counts some_step lets starts steps) more begins =
      hold_frame start goals holds (opening q zone origin).known more begins cut step path counts some_step lets
      (simulated origin start goals (holds ++ cut ∷ []) starts more begins)
      (simulated AtCut (start_at q cut.nodes path cut.relation) (goals ++ goal_at cut.nodes step cut.relation ∷ []) holds steps cut.relation refl)
  simulated _ _ _ _ (wait origin start goals holds cut terms counts inside same are valid) more begins =
      wait_is_sound (frame_over c (opening q zone origin).known (frame_in q b start goals holds)) (IsBinaryFine c (frame_in q b start goals holds)) (IsSourceFine c (frame_in q b start goals holds))
      (hold_over c cut)
      (waits c (frame_in q b start goals holds) (opening q zone origin) cut terms (is_proper start goals holds counts) (opens origin start goals holds) inside same
      (wait_moved q zone origin (frame_in q b start goals holds) cut terms are) valid)
