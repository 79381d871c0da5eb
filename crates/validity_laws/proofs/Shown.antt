-- What lines of a part show is proved.
use Rattle.std.proofs.Common.{◌≡◌, ◌∙◌, ℕ, zero, suc, ◌^◌, ◌<◌, ◌≤◌, true, List, [], ◌∷◌, ◌++◌, length, map, Bool, Option, Some, slice_get, option_and_then, refl, sym, ap, subst, arith}
use Rattle.std.specs.Prelude.{All, Contains, is_some, unwrap_or}
use Rattle.std.proofs.lemmas.Option.{slice_get_within}
use Rattle.std.proofs.lemmas.List.Elements.{All-nil, All-cons, All-append, All-head, All-tail, All-contains}
use Rattle.elf_read_spec.proofs.Runs.{runs_are_fixed, runs_have_bytes}
use Rattle.term_core_spec.specs.Term.{Term, not_term}
use Rattle.graph_core_spec.specs.TransitionSystem.{AreCounted}
use Rattle.graph_core_spec.specs.declared.Mark.{Mark}
use Rattle.graph_core_spec.specs.Graph as graph
use Rattle.graph_core_spec.specs.Graph.{Node, Graph, Graphs, IsNode, node_at}
use Rattle.c_graph_spec.specs.SourceGraph.{body_number, graph_of, graphs_of}
use Rattle.proof_tree_spec.specs.declared.Counts.{Counts}
use Rattle.proof_tree_spec.specs.declared.Nodes.{Nodes}
use Rattle.proof_tree_spec.specs.Cuts.{AreCounts, once}
use Rattle.proof_tree_spec.specs.Proofs.{Points}
use Rattle.proof_tree_spec.specs.Scope.{IsLine}
use Rattle.proof_tree_spec.specs.Frames.{Start, Goal, Hold, Frame, with_premise, with_binary_bound, with_source_bound, with_goal, goal_at, from_cut, LetsPass, IsClear}
use Rattle.sim_rules_spec.specs.Systems.{hold_over}
use Rattle.sim_rules_spec.specs.Rules.{Opening, AreOfLeaf, AreOfBinaryRestrict, AreOfSourceRestrict, IsTrueWith, AreTrueWith}
use Rattle.sim_rules_spec.specs.Calls.{CallPair, Callee, call_terms, entry_term, return_term, IsTrueAcross}
use Rattle.sim_rules_spec.specs.Crossing.{IsCallAt, AreCallsAt}
use Rattle.sim_rules_spec.proofs.Start.{all_at}
use Rattle.sim_rules_spec.proofs.Truths.{all_left, all_right}
use Rattle.agreement_laws.specs.EntryFrame.{Pair, place_of, entry_frame, entry_premises}
use Rattle.agreement_laws.specs.Statements.{IsPair}
use Rattle.agreement_laws.specs.Callers.{Base, frame_in, callee_of}
use Rattle.validity_laws.specs.Inlined.{IsInlined}
use Rattle.validity_laws.proofs.InlinedSides.{IsSideOf}
use Rattle.validity_laws.proofs.InlinedCode.{IsCodeNode}
use Rattle.validity_laws.proofs.InlinedSource.{IsSourceNode}
use Rattle.agreement_laws.proofs.Pairs.{code, body_there, runs_are, plain, extents}
use Rattle.cert_check_lines_spec.specs.Sites.{CodeBody, SourceBody, Part, Calling, ArePaired}
use Rattle.cert_check_lines_spec.specs.Jobs as lines
use Rattle.cert_check_lines_spec.specs.Jobs.{pair_of, landing_of}
use Rattle.cert_check_lines_spec.specs.LineRules.{HasPart, with_test, binary_bounded, source_bounded, mark}
use Rattle.cert_check_lines_spec.specs.Shown as shown
use Rattle.cert_check_lines_spec.specs.Shown.{IsShown}
use Rattle.validity_laws.specs.Derivation as derivation
use Rattle.validity_laws.specs.Derivation.{Function, pair_for, Origin, AtEntry, AtCut, opening, no_zone, stated, start_at, HasCounts, IsCallOf, IsProved, AreSides, IsFunction, IsProvedFunction, AreProved}
use Rattle.validity_laws.specs.CheckStatements.{IsFile}
use Rattle.validity_laws.specs.Shown.{called, part_for, AreNamed, IsGiven, HaveShownParts, none, one_more, ShownIsProved, ShownPartsAreValid}
use Rattle.validity_laws.proofs.CheckFunctions.{line_good}
use Rattle.validity_laws.proofs.Conditions.{IsGoodNode}
use Rattle.validity_laws.proofs.CallTerms.{entry_test, return_test}
use Rattle.validity_laws.proofs.Functions.{is_pair, functions_valid}
use Rattle.validity_laws.proofs.Good.{IsTest, AreTests, not_good}
use Rattle.validity_laws.proofs.Graphs as graphs
use Rattle.validity_laws.proofs.Graphs.{code_good, body_good, entry_good, obligations_good, binary_bound_good, source_bound_good}
use Rattle.validity_laws.proofs.Leaves.{AreGoodGoals}
use Rattle.validity_laws.proofs.PlainLines.{plain_lines}
use Rattle.validity_laws.proofs.Validity.{goal_true, goal_true_across}

-- ---- counts

marks_more : {X : Type 0} (f : X → Mark) (xs : List X) (x : X) → AreCounted (map f xs) → 1 ≤ (f x).count → AreCounted (map f (xs ++ x ∷ []))
marks_more f [] x all some = All-cons (λ (m : Mark). 1 ≤ m.count) (f x) [] some (All-nil (λ (m : Mark). 1 ≤ m.count))
marks_more f (y ∷ xs) x all some =
    All-cons (λ (m : Mark). 1 ≤ m.count) (f y) (map f (xs ++ x ∷ [])) (All-head (λ (m : Mark). 1 ≤ m.count) (f y) (map f xs) all)
    (marks_more f xs x (All-tail (λ (m : Mark). 1 ≤ m.count) (f y) (map f xs) all) some)

bounds_more : (bounds : List Mark) (bound : Mark) → AreCounted bounds → 1 ≤ bound.count → AreCounted (bounds ++ bound ∷ [])
bounds_more bounds bound all some = All-append (λ (m : Mark). 1 ≤ m.count) bounds (bound ∷ []) all (All-cons (λ (m : Mark). 1 ≤ m.count) bound [] some (All-nil (λ (m : Mark). 1 ≤ m.count)))

no_marks : AreCounted []
no_marks = All-nil (λ (m : Mark). 1 ≤ m.count)

-- ---- earlier functions

-- a function that has an earlier part is one of them
called_from : (q : Pair) (earlier : List Function) (number : ℕ) (callee : Callee) → Contains (map (called q) earlier) (number, callee)
    → (h : Function) × Contains earlier h × (called q h ≡ (number, callee))
called_from q [] number callee (k, within, at) = absurd (omega (arith, within))
called_from q (h ∷ earlier) number callee (zero, within, at) = (h, (0, omega arith, refl), at)
called_from q (h ∷ earlier) number callee (suc k, within, at) =
    let rest = called_from q earlier number callee (k, omega (arith, within), at) in
    (rest.0, (suc rest.1.0, omega (arith, rest.1.1), rest.1.2), rest.2)

abbrev to_origin : lines.Origin → Origin
to_origin lines.AtEntry = AtEntry
to_origin lines.AtCut = AtCut

-- a node of a graph, and whether it is there
node_in : (graphs : Graphs) (n k : ℕ) (g : Graph) (node : Node) → slice_get graphs n ≡ Some g → node_at graphs n k ≡ Some node → slice_get g.nodes k ≡ Some node
node_in graphs n k g node there here = sym (ap (λ (o : Option Graph). option_and_then (λ (h : Graph). slice_get h.nodes k) o) there) ∙ here

within_is : (nodes : List Node) (k : ℕ) → k < length nodes → is_some (slice_get nodes k) ≡ true
within_is [] k less = absurd (omega (arith, less))
within_is (node ∷ nodes) zero less = refl
within_is (node ∷ nodes) (suc k) less = within_is nodes k (omega (arith, less))

node_there : (graphs : Graphs) (n k : ℕ) (g : Graph) → slice_get graphs n ≡ Some g → k < length g.nodes → is_some (node_at graphs n k) ≡ true
node_there graphs n k g there less = ap (λ (o : Option Graph). is_some (option_and_then (λ (h : Graph). slice_get h.nodes k) o)) there ∙ within_is g.nodes k less

-- ---- one function

module _ (q : Pair) (earlier : List Function) (g : Function) (sides : AreSides q) (file : IsFile q) (given : All (IsGiven q) earlier) (function : IsFunction q g) (small : g.stack < 2 ^ 32)
    (base : Base) (inlined : IsInlined (pair_for q g) base) (code_bodies : List CodeBody) (source_bodies : List SourceBody) (alike : ℕ → ℕ → Bool) (named : AreNamed q earlier alike) where
  abbrev p : Pair
  p = pair_for q g

  abbrev part : Part
  part = part_for q g earlier code_bodies source_bodies alike

  is : IsPair p
  is = is_pair q g sides function

  opening_is : (origin : lines.Origin) → lines.opening part origin ≡ opening p no_zone (to_origin origin)
  opening_is lines.AtEntry = refl
  opening_is lines.AtCut = refl

  -- ---- obligations that are closed are true

  all_true : (terms : List Term) → AreTests terms → shown.AreClosed part terms → AreTrueWith (stated p) terms
  all_true terms tests closed i d lt =
      goal_true (stated p) p.numbering.runs (runs_have_bytes p.image p.numbering.runs file.bytes (runs_are p is)) (runs_are_fixed p.image p.numbering.runs (runs_are p is))
      _ (tests i d lt) (closed i d lt)

  one_true : (term : Term) → IsTest term → shown.IsClosed part term → IsTrueWith (stated p) term
  one_true term test closed =
      goal_true (stated p) p.numbering.runs (runs_have_bytes p.image p.numbering.runs file.bytes (runs_are p is)) (runs_are_fixed p.image p.numbering.runs (runs_are p is)) term test closed

  -- ---- lines

  lines_good : (path : List ℕ) (list : List Term) → All (IsLine base.setting path) list → AreTests list
  lines_good path list all i d lt = line_good base.setting path _ (all i d lt)

  premises : AreTests (entry_premises p)
  premises = entry_good q g sides file function small

  -- ---- frames

  -- what is kept from frame to frame
  record IsKept (start : Start) (goals : List Goal) : Type 0 where
    counts : HasCounts (frame_in p base start goals [])
    tests : AreTests start.premises
    relations : AreGoodGoals goals

  with_test_kept : (start : Start) (goals : List Goal) (test : Term) → IsTest test → IsKept start goals → IsKept (with_premise start test) goals
  with_test_kept start goals test is_test kept = record {
    counts = record { binary_goals = kept.counts.binary_goals; source_goals = kept.counts.source_goals; binary_bounds = kept.counts.binary_bounds; source_bounds = kept.counts.source_bounds };
    tests = All-append IsTest start.premises (test ∷ []) kept.tests (All-cons IsTest test [] is_test (All-nil IsTest));
    relations = kept.relations;
  }

  binary_bound_kept : (start : Start) (goals : List Goal) (bound : Mark) → 1 ≤ bound.count → IsKept start goals → IsKept (with_binary_bound start bound) goals
  binary_bound_kept start goals bound some kept = record {
    counts = record {
      binary_goals = kept.counts.binary_goals;
      source_goals = kept.counts.source_goals;
      binary_bounds = bounds_more start.binary_bounds bound kept.counts.binary_bounds some;
      source_bounds = kept.counts.source_bounds;
    };
    tests = kept.tests;
    relations = kept.relations;
  }

  source_bound_kept : (start : Start) (goals : List Goal) (bound : Mark) → 1 ≤ bound.count → IsKept start goals → IsKept (with_source_bound start bound) goals
  source_bound_kept start goals bound some kept = record {
    counts = record {
      binary_goals = kept.counts.binary_goals;
      source_goals = kept.counts.source_goals;
      binary_bounds = kept.counts.binary_bounds;
      source_bounds = bounds_more start.source_bounds bound kept.counts.source_bounds some;
    };
    tests = kept.tests;
    relations = kept.relations;
  }

  goal_kept : (start : Start) (goals : List Goal) (nodes : Nodes) (counts : Counts) (list : List Term) → AreCounts counts → AreTests list → IsKept start goals
      → IsKept start (goals ++ goal_at nodes counts list ∷ [])
  goal_kept start goals nodes counts list some tests kept = record {
    counts = record {
      binary_goals = marks_more (λ (h : Goal). h.binary) goals (goal_at nodes counts list) kept.counts.binary_goals some.binary;
      source_goals = marks_more (λ (h : Goal). h.source) goals (goal_at nodes counts list) kept.counts.source_goals some.source;
      binary_bounds = kept.counts.binary_bounds;
      source_bounds = kept.counts.source_bounds;
    };
    tests = kept.tests;
    relations =
        All-append (λ (h : Goal). AreTests h.relation) goals (goal_at nodes counts list ∷ []) kept.relations
        (All-cons (λ (h : Goal). AreTests h.relation) (goal_at nodes counts list) [] tests (All-nil (λ (h : Goal). AreTests h.relation)));
  }

  cut_kept : (start : Start) (goals : List Goal) (nodes : Nodes) (path : List ℕ) (list : List Term) → AreTests list → IsKept start goals → IsKept (start_at p nodes path list) goals
  cut_kept start goals nodes path list tests kept = record {
    counts = record { binary_goals = kept.counts.binary_goals; source_goals = kept.counts.source_goals; binary_bounds = no_marks; source_bounds = no_marks };
    tests = All-append IsTest (entry_premises p) list premises tests;
    relations = kept.relations;
  }

  -- ---- calls

  module _ (start : Start) (goals : List Goal) (points : Points) (call : Nodes) (binary source : Calling) (path : List ℕ) (callee : Callee) (before later : List Term)
      (paired : ArePaired part (frame_in p base start goals []) points call binary source) (has : HasPart part source callee)
      (before_lines : All (IsLine base.setting path) before) (later_lines : All (IsLine base.setting path) later)
      (closed : shown.AreClosed part (call_terms (stated p) (frame_in p base start goals []) (pair_of binary source) callee before later)) where
    abbrev f : Frame
    f = frame_in p base start goals []

    abbrev found : (h : Function) × Contains earlier h × (called q h ≡ (source.callee, callee))
    found = called_from q earlier source.callee callee has

    h : Function
    h = found.0

    among : Contains earlier h
    unfolding h
    among = found.1

    number_is : body_number h.body.name q.unit.bodies ≡ source.callee
    unfolding h
    number_is = ap (λ (x : ℕ × Callee). x.0) found.2

    callee_is : callee_of (pair_for q h) ≡ callee
    unfolding h
    callee_is = ap (λ (x : ℕ × Callee). x.1) found.2

    given_h : IsGiven q h
    given_h = All-contains (IsGiven q) earlier h given among

    is_h : IsPair (pair_for q h)
    is_h = is_pair q h sides given_h.0

    entry_is : binary.callee ≡ q.numbering.graph_number h.entry
    entry_is = named h among binary.callee (ap (λ (n : ℕ). alike binary.callee n) number_is ∙ paired.alike)

    binary_node : Node
    binary_node = graph.Call binary.callee binary.inputs binary.outputs binary.landing

    source_node : Node
    source_node = graph.Call source.callee source.inputs source.outputs source.landing

    of_code : IsSideOf (entry_frame p).binary base.binary IsCodeNode
    of_code = graphs.of_code q g sides file function small base inlined

    of_source : IsSideOf (entry_frame p).source base.source (IsSourceNode p.unit)
    of_source = graphs.of_source q g sides file function small base inlined

    binary_here : slice_get of_code.graph.nodes call.binary ≡ Some binary_node
    unfolding binary_node
    binary_here = node_in base.binary.graphs base.binary.outermost call.binary of_code.graph binary_node of_code.there paired.binary_calls

    source_here : slice_get of_source.graph.nodes call.source ≡ Some source_node
    unfolding source_node
    source_here = node_in base.source.graphs base.source.outermost call.source of_source.graph source_node of_source.there paired.source_calls

    code_there : slice_get base.binary.graphs (q.numbering.graph_number h.entry) ≡ Some (code (pair_for q h) is_h).0
    code_there =
        of_code.set.there (q.numbering.graph_number h.entry) (slice_get_within q.graphs (q.numbering.graph_number h.entry) (code (pair_for q h) is_h).0 (code (pair_for q h) is_h).1)
        ∙ (code (pair_for q h) is_h).1

    body_in_set : slice_get (graphs_of q.unit (place_of q)) (body_number h.body.name q.unit.bodies) ≡ Some (graph_of q.unit (place_of q) h.body)
    body_in_set = body_there (graph_of q.unit (place_of q)) q.unit.bodies h.body.name h.body given_h.0.body_is

    source_there : slice_get base.source.graphs (body_number h.body.name q.unit.bodies) ≡ Some (graph_of q.unit (place_of q) h.body)
    source_there =
        of_source.set.there (body_number h.body.name q.unit.bodies)
        (slice_get_within (graphs_of q.unit (place_of q)) (body_number h.body.name q.unit.bodies) (graph_of q.unit (place_of q) h.body) body_in_set) ∙ body_in_set

    binary_at : IsCallAt f.binary call.binary binary.inputs binary.outputs binary.landing
    unfolding binary_node
    binary_at = record {
      callee = binary.callee;
      graph = (code (pair_for q h) is_h).0;
      here = paired.binary_calls;
      there = ap (slice_get base.binary.graphs) entry_is ∙ code_there;
      lands = node_there base.binary.graphs base.binary.outermost binary.landing of_code.graph of_code.there
          (all_at (IsNode (length of_code.graph.nodes)) of_code.graph.nodes call.binary binary_node of_code.valid.nodes binary_here).2;
    }

    source_at : IsCallAt f.source call.source source.inputs source.outputs source.landing
    unfolding source_node
    source_at = record {
      callee = source.callee;
      graph = graph_of q.unit (place_of q) h.body;
      here = paired.source_calls;
      there = ap (slice_get base.source.graphs) (sym number_is) ∙ source_there;
      lands = node_there base.source.graphs base.source.outermost source.landing of_source.graph of_source.there
          (all_at (IsNode (length of_source.graph.nodes)) of_source.graph.nodes call.source source_node of_source.valid.nodes source_here).2;
    }

    abbrev at_call : Hold
    at_call = record { nodes = call; relation = before }

    abbrev landing : Hold
    landing = record { nodes = landing_of binary source; relation = later }

    calls : AreCallsAt f (hold_over (stated p) at_call) (hold_over (stated p) landing)
    calls = record {
      binary_inputs = binary.inputs;
      binary_outputs = binary.outputs;
      source_inputs = source.inputs;
      source_outputs = source.outputs;
      binary = binary_at;
      source = source_at;
    }

    -- what the graphs bind there is well sorted
    binary_bindings : IsGoodNode binary_node
    binary_bindings =
        code_good q g sides file function small base inlined call.binary binary_node
        (ap (λ (o : Option Graph). slice_get (unwrap_or o graph.empty).nodes call.binary) of_code.there ∙ binary_here)

    source_bindings : IsGoodNode source_node
    source_bindings =
        body_good q g sides file function small base inlined call.source source_node
        (ap (λ (o : Option Graph). slice_get (unwrap_or o graph.empty).nodes call.source) of_source.there ∙ source_here)

    abbrev pair : CallPair
    pair = pair_of binary source

    closed_h : shown.AreClosed part (call_terms (stated p) f pair (callee_of (pair_for q h)) before later)
    closed_h = subst (λ (c : Callee). shown.AreClosed part (call_terms (stated p) f pair c before later)) (sym callee_is) closed

    entry_true : IsTrueWith (stated p) (entry_term (stated p) f pair (callee_of (pair_for q h)) before)
    unfolding binary_node source_node
    entry_true =
        one_true (entry_term (stated p) f pair (callee_of (pair_for q h)) before)
        (entry_test p small (pair_for q h) given_h.1 (plain (pair_for q h) is_h) pair binary_bindings.0 source_bindings.0 f before premises (lines_good path before before_lines))
        (All-head (shown.IsClosed part) (entry_term (stated p) f pair (callee_of (pair_for q h)) before) (return_term (stated p) f pair (callee_of (pair_for q h)) before later ∷ []) closed_h)

    return_true : IsTrueAcross (stated p) (return_term (stated p) f pair (callee_of (pair_for q h)) before later)
    unfolding source_node
    return_true =
        goal_true_across (stated p) p.numbering.runs (runs_have_bytes p.image p.numbering.runs file.bytes (runs_are p is)) (runs_are_fixed p.image p.numbering.runs (runs_are p is))
        (return_term (stated p) f pair (callee_of (pair_for q h)) before later)
        (return_test p small (pair_for q h) given_h.1 (extents (pair_for q h) is_h).result pair source_bindings.1 f before later premises (lines_good path before before_lines)
        (lines_good path later later_lines) (plain_lines base.setting inlined.setting path later later_lines))
        (All-head (shown.IsClosed part) (return_term (stated p) f pair (callee_of (pair_for q h)) before later) []
        (All-tail (shown.IsClosed part) (entry_term (stated p) f pair (callee_of (pair_for q h)) before) (return_term (stated p) f pair (callee_of (pair_for q h)) before later ∷ []) closed_h))

    is_call : IsCallOf p earlier f path at_call landing
    unfolding calls binary_at source_at
    is_call = record {
      function = h;
      is_earlier = among;
      calls = calls;
      binary_callee = entry_is;
      source_callee = sym number_is;
      before = before_lines;
      later = later_lines;
      valid = record { begins = entry_true; returns = return_true };
    }

  -- ---- the tree

  shown_proved : (origin : lines.Origin) (f : Frame) (start : Start) (goals : List Goal) → IsShown part origin f → f ≡ frame_in p base start goals [] → IsKept start goals
      → IsProved p base earlier (to_origin origin) start goals []
  shown_proved _ _ start goals (shown.leaf origin f terms are closed) same kept =
      let here : AreOfLeaf (stated p) (opening p no_zone (to_origin origin)) (frame_in p base start goals []) terms =
      subst (λ (o : Opening). AreOfLeaf (stated p) o (frame_in p base start goals []) terms) (opening_is origin) (subst (λ (e : Frame). AreOfLeaf (stated p) (lines.opening part origin) e terms) same are) in
      derivation.leaf (to_origin origin) start goals [] terms kept.counts here
      (all_true terms (obligations_good q g sides file function small base inlined (to_origin origin) start goals terms kept.tests kept.relations here) closed)
  shown_proved _ _ start goals (shown.case origin f test line holding failing) same kept =
      let here : IsLine base.setting start.path test = subst (λ (e : Frame). IsLine e.setting e.start.path test) same line in
      let good = line_good base.setting start.path test here in
      derivation.case (to_origin origin) start goals [] test here
      (shown_proved origin (with_test f test) (with_premise start test) goals holding (ap (λ (e : Frame). with_test e test) same) (with_test_kept start goals test good kept))
      (shown_proved origin (with_test f (not_term test)) (with_premise start (not_term test)) goals failing (ap (λ (e : Frame). with_test e (not_term test)) same)
      (with_test_kept start goals (not_term test) (not_good test good) kept))
  shown_proved _ _ start goals (shown.restrict_binary origin f node count terms some are closed rest) same kept =
      let here : AreOfBinaryRestrict (opening p no_zone (to_origin origin)) (frame_in p base start goals []) (mark node count) terms =
      subst (λ (o : Opening). AreOfBinaryRestrict o (frame_in p base start goals []) (mark node count) terms) (opening_is origin)
      (subst (λ (e : Frame). AreOfBinaryRestrict (lines.opening part origin) e (mark node count) terms) same are) in
      derivation.binary_bound (to_origin origin) start goals [] (mark node count) terms kept.counts some here
      (all_true terms (binary_bound_good q g sides file function small base inlined (to_origin origin) start goals (mark node count) terms kept.tests here) closed)
      (shown_proved origin (binary_bounded f (mark node count)) (with_binary_bound start (mark node count)) goals rest (ap (λ (e : Frame). binary_bounded e (mark node count)) same)
      (binary_bound_kept start goals (mark node count) some kept))
  shown_proved _ _ start goals (shown.restrict_source origin f node count terms some are closed rest) same kept =
      let here : AreOfSourceRestrict (opening p no_zone (to_origin origin)) (frame_in p base start goals []) (mark node count) terms =
      subst (λ (o : Opening). AreOfSourceRestrict o (frame_in p base start goals []) (mark node count) terms) (opening_is origin)
      (subst (λ (e : Frame). AreOfSourceRestrict (lines.opening part origin) e (mark node count) terms) same are) in
      derivation.source_bound (to_origin origin) start goals [] (mark node count) terms kept.counts some here
      (all_true terms (source_bound_good q g sides file function small base inlined (to_origin origin) start goals (mark node count) terms kept.tests here) closed)
      (shown_proved origin (source_bounded f (mark node count)) (with_source_bound start (mark node count)) goals rest (ap (λ (e : Frame). source_bounded e (mark node count)) same)
      (source_bound_kept start goals (mark node count) some kept))
  shown_proved _ _ start goals (shown.split origin f nodes path enter step list some_enter some_step lets are enters steps) same kept =
      let here : All (IsLine base.setting path) list = subst (λ (e : Frame). shown.AreLines e path list) same are in
      let tests = lines_good path list here in
      derivation.split (to_origin origin) start goals [] (record { nodes = nodes; relation = list }) enter step path kept.counts some_enter some_step
      (subst (λ (e : Frame). LetsPass e nodes) same lets)
      (shown_proved origin (with_goal f (goal_at nodes enter list)) start (goals ++ goal_at nodes enter list ∷ []) enters (ap (λ (e : Frame). with_goal e (goal_at nodes enter list)) same)
      (goal_kept start goals nodes enter list some_enter tests kept))
      (shown_proved lines.AtCut (with_goal (from_cut f nodes path list) (goal_at nodes step list)) (start_at p nodes path list) (goals ++ goal_at nodes step list ∷ []) steps
      (ap (λ (e : Frame). with_goal (from_cut e nodes path list) (goal_at nodes step list)) same)
      (goal_kept (start_at p nodes path list) goals nodes step list some_step tests (cut_kept start goals nodes path list tests kept)))
  shown_proved _ _ start goals (shown.call origin f points call binary source path callee before later paired has allowed before_are later_are closed first second) same kept =
      let before_lines : All (IsLine base.setting path) before = subst (λ (e : Frame). shown.AreLines e path before) same before_are in
      let later_lines : All (IsLine base.setting path) later = subst (λ (e : Frame). shown.AreLines e path later) same later_are in
      let lets = subst (λ (e : Frame). LetsPass e call × IsClear e (landing_of binary source)) same allowed in
      derivation.call (to_origin origin) start goals [] (record { nodes = call; relation = before }) (record { nodes = landing_of binary source; relation = later }) path kept.counts lets.0 lets.1
      (is_call start goals points call binary source path callee before later (subst (λ (e : Frame). ArePaired part e points call binary source) same paired) has before_lines later_lines
      (subst (λ (e : Frame). shown.AreClosed part (call_terms (stated p) e (pair_of binary source) callee before later)) same closed))
      (shown_proved origin (with_goal f (goal_at call once before)) start (goals ++ goal_at call once before ∷ []) first (ap (λ (e : Frame). with_goal e (goal_at call once before)) same)
      (goal_kept start goals call once before (record { binary = omega arith; source = omega arith }) (lines_good path before before_lines) kept))
      (shown_proved lines.AtCut (from_cut f (landing_of binary source) path later) (start_at p (landing_of binary source) path later) goals second
      (ap (λ (e : Frame). from_cut e (landing_of binary source) path later) same)
      (cut_kept start goals (landing_of binary source) path later (lines_good path later later_lines) kept))

  entry_kept : IsKept (entry_frame p).start []
  entry_kept = record {
    counts = record { binary_goals = no_marks; source_goals = no_marks; binary_bounds = no_marks; source_bounds = no_marks };
    tests = premises;
    relations = All-nil (λ (h : Goal). AreTests h.relation);
  }

  pub part_proved : IsShown part lines.AtEntry (frame_in p base (entry_frame p).start [] []) → IsProvedFunction q earlier g
  part_proved is_shown = record {
    function = function;
    small = small;
    base = base;
    inlined = inlined;
    proved = shown_proved lines.AtEntry (frame_in p base (entry_frame p).start [] []) (entry_frame p).start [] is_shown refl entry_kept;
  }

-- ---- the laws

pub shown_is_proved : ShownIsProved
shown_is_proved q earlier g sides file given is has =
    part_proved q earlier g sides file given is.0 is.1 has.base has.inlined has.code has.source has.alike has.named has.shown

all_proved : (q : Pair) (functions : List Function) → AreSides q → IsFile q → All (IsGiven q) functions → HaveShownParts q functions → AreProved q functions
all_proved q _ sides file given none = derivation.none
all_proved q _ sides file given (one_more earlier g before has) =
    let first = all_left (IsGiven q) earlier (g ∷ []) given in
    let last = All-head (IsGiven q) g [] (all_right (IsGiven q) earlier (g ∷ []) given) in
    derivation.one_more earlier g (all_proved q earlier sides file first before) (shown_is_proved q earlier g sides file first last has)

pub shown_parts_are_valid : ShownPartsAreValid
shown_parts_are_valid q functions sides file given parts g among named stack =
    functions_valid q functions sides (all_proved q functions sides file given parts) g among named stack
