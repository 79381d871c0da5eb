-- Graphs of C with calls inlined speak of the source's variables alone, with one memory; their calls pass an argument of its
-- type for each parameter.
use Rattle.std.proofs.Common.{◌≡◌, ◌∙◌, ℕ, suc, Bool, true, false, ◌&&◌, if◌then◌else◌, refl, sym, ap, subst, List, [], ◌∷◌, map, All, Some, slice_get}
use Rattle.std.specs.Prelude.{◌||◌, not}
use Rattle.std.proofs.lemmas.Bool.{and_parts}
use Rattle.std.proofs.lemmas.List.Elements.{All-nil, All-cons, All-head, All-map, All-tail}
use Rattle.term_core_spec.specs.declared.Family.{Family}
use Rattle.term_core_spec.specs.declared.Family.TheVariants as family
use Rattle.term_core_spec.specs.declared.Variable.{Variable}
use Rattle.term_core_spec.specs.Same.{same_variable}
use Rattle.term_core_spec.specs.Substitution.{at_instance, renamed}
use Rattle.term_core_spec.proofs.Same.{variable-same}
use Rattle.graph_core_spec.specs.Graph.{Binding, Node, Basic, Cond, Call, Graph}
use Rattle.graph_core_spec.specs.Run.{is_shared}
use Rattle.c_token_spec.specs.Words.{entry_of}
use Rattle.c_types_spec.specs.declared.Scalar.{Scalar}
use Rattle.c_types_spec.specs.Core.{Core, FunctionType, Body, Typed, type_of}
use Rattle.c_types_spec.specs.HasType.{IsTypedBody}
use Rattle.c_graph_spec.specs.State.{memory}
use Rattle.c_graph_spec.specs.Guards.{Place}
use Rattle.c_graph_spec.specs.Layout.{Setting, inputs, value_in}
use Rattle.c_graph_spec.specs.SourceGraph.{body_number, setting_of, graph_of, graphs_of}
use Rattle.c_graph_laws.proofs.ValidGraphs.{all_valid}
use Rattle.graph_inline_spec.specs.Naming.{inlined_variable, with_inlined_term, with_inlined_variable}
use Rattle.graph_inline_spec.specs.Inlined.{inlined_node}
use Rattle.sim_rules_spec.specs.Points.{is_source}
use Rattle.sim_rules_spec.specs.Calls.{IsGivenTerm}
use Rattle.sim_rules_spec.specs.Proper.{IsOwnNode, IsOwnGraph}
use Rattle.sim_inline_laws.proofs.Kept.{IsKept}
use Rattle.sim_inline_laws.proofs.OfKind.{IsOfKind, IsKindNode, kind_kept}
use Rattle.agreement_laws.specs.EntryFrame.{Pair, place_of, entry_frame}
use Rattle.agreement_laws.specs.Callers.{Base, IsPassed}
use Rattle.agreement_laws.specs.Statements.{IsPair}
use Rattle.agreement_laws.proofs.Pairs.{body_there}
use Rattle.validity_laws.specs.Inlined.{is_own_of_source, IsInlined}
use Rattle.validity_laws.proofs.SourceSpeaks.{is_source_memory, is_spoken}
use Rattle.validity_laws.proofs.SourceGraphs.{HasCallShape, IsSpokenNode, IsSpokenGraph, node_of_source, source_call_shape, source_is_spoken}
use Rattle.validity_laws.proofs.InlinedSides.{IsSideOf, kept_both, kept_of, side_is, all_graphs}

-- ---- variables

-- a variable that is renamed is no memory
named_spoken : (instance : ℕ) (v : Variable) → is_spoken v ≡ true → is_spoken (inlined_variable instance v) ≡ true
named_spoken instance v spoken = by (is_shared v) refl
  where
    parts : (is_source v.family ≡ true) × ((not (is_source_memory v.family) || same_variable v memory) ≡ true)
    parts = and_parts (is_source v.family) (not (is_source_memory v.family) || same_variable v memory) spoken

    no_memory : is_shared v ≡ false → (m : Bool) → is_source_memory v.family ≡ m → (not m || same_variable v memory) ≡ true → (not m || same_variable (at_instance instance v) memory) ≡ true
    no_memory own false e h = refl
    no_memory own true e h =
        let shared : is_shared v ≡ true = ap is_shared (variable-same v memory h) in
        absurd (let bad : true ≡ false = sym shared ∙ own in cc)

    by : (b : Bool) → is_shared v ≡ b → is_spoken (if b then v else at_instance instance v) ≡ true
    by true e = spoken
    by false e =
        ap (λ (a : Bool). a && (not (is_source_memory v.family) || same_variable (at_instance instance v) memory)) parts.0
        ∙ no_memory e (is_source_memory v.family) refl parts.1

-- a function's own variable
own_spoken : (v : Variable) → is_own_of_source v.family ≡ true → is_spoken v ≡ true
own_spoken v own = by v.family own
  where
    by : (f : Family) → is_own_of_source f ≡ true → (is_source f && (not (is_source_memory f) || same_variable v memory)) ≡ true
    by family.Parameter own = refl
    by family.Local own = refl
    by family.IsSet own = refl
    by family.Further own = refl
    by family.Register own = absurd (let bad : false ≡ true = own in cc)
    by family.Entry own = absurd (let bad : false ≡ true = own in cc)
    by family.SourceMemory own = absurd (let bad : false ≡ true = own in cc)
    by family.BinaryMemory own = absurd (let bad : false ≡ true = own in cc)
    by family.ZoneMemory own = absurd (let bad : false ≡ true = own in cc)
    by family.Address own = absurd (let bad : false ≡ true = own in cc)
    by family.LoadedByte own = absurd (let bad : false ≡ true = own in cc)

-- ---- what calls bind

-- the call of a function that has a type: an argument for each parameter; and where it is back what its callee gives
pub record IsPassedCall (unit : Typed) (callee : ℕ) (inputs outputs : List Binding) : Type 0 where
  pub function : List ℕ
  pub type : FunctionType
  pub number : callee ≡ body_number function unit.bodies
  pub has_type : entry_of unit.functions function ≡ Some type
  pub passed : IsPassed 0 type.parameters inputs
  pub given : All (λ (b : Binding). IsGivenTerm b.term) outputs

abbrev pub HasPassedShape : Typed → Node → Type 0
HasPassedShape unit (Basic bindings to) = Unit {0}
HasPassedShape unit (Cond test on_true on_false) = Unit {0}
HasPassedShape unit (Call callee inputs outputs landing) = IsPassedCall unit callee inputs outputs

pub passed_from : (f : Setting) (number : ℕ) (arguments : List Core) → IsPassed number (map type_of arguments) (inputs f number arguments)
unfolding inputs
passed_from f number [] = refl
passed_from f number (x ∷ arguments) = (value_in f x, inputs f (suc number) arguments, refl, passed_from f (suc number) arguments)

passed_renamed : (instance number : ℕ) (types : List Scalar) (ins : List Binding) → IsPassed number types ins → IsPassed number types (map (with_inlined_term instance) ins)
unfolding renamed
passed_renamed instance number [] ins is = ap (map (with_inlined_term instance)) is
passed_renamed instance number (type ∷ types) ins (term, rest, is, later) =
    (_, map (with_inlined_term instance) rest, ap (map (with_inlined_term instance)) is, passed_renamed instance (suc number) types rest later)

module _ (unit : Typed) where
  passed_body : (instance first last : ℕ) (node : Node) → HasPassedShape unit node → HasPassedShape unit (inlined_node instance first last node)
  passed_body instance first last (Basic bindings to) is = tt
  passed_body instance first last (Cond test on_true on_false) is = tt
  passed_body instance first last (Call callee ins outs landing) is = record {
    function = is.function;
    type = is.type;
    number = is.number;
    has_type = is.has_type;
    passed = passed_renamed instance 0 is.type.parameters ins is.passed;
    given = All-map (λ (b : Binding). IsGivenTerm b.term) (with_inlined_variable instance) outs is.given;
  }

  passed_kept : IsKept (IsOfKind is_spoken) (HasPassedShape unit)
  passed_kept = record {
    starts = λ instance own callee ins outs landing to are kinds is. tt;
    body = passed_body;
    ends = λ instance callee ins outs landing to is. tt;
  }

  abbrev pub IsSourceNode : Node → Type 0
  IsSourceNode node = IsKindNode is_spoken node × HasPassedShape unit node

  source_kept : IsKept (λ (v : Variable). is_own_of_source v.family ≡ true) IsSourceNode
  source_kept =
      kept_of (IsOfKind is_spoken) (λ (v : Variable). is_own_of_source v.family ≡ true) IsSourceNode own_spoken
      (kept_both (IsOfKind is_spoken) (IsKindNode is_spoken) (HasPassedShape unit) (kind_kept is_spoken named_spoken) passed_kept)

  -- ---- the graphs of a unit

  module _ (p : Place) where
    passed_shape : (body : Body) (node : Node) → HasCallShape unit (setting_of unit p body) node → HasPassedShape unit node
    passed_shape body (Basic bindings to) is = tt
    passed_shape body (Cond test on_true on_false) is = tt
    passed_shape body (Call callee ins outs landing) is = record {
      function = is.0;
      type = is.2;
      number = is.3;
      has_type = is.5;
      passed = subst (λ (list : List Binding). IsPassed 0 is.2.parameters list) (sym is.4)
          (subst (λ (types : List Scalar). IsPassed 0 types (inputs (setting_of unit p body) 0 is.1)) is.6 (passed_from (setting_of unit p body) 0 is.1));
      given = is.7;
    }

    own_kind : (node : Node) → IsSpokenNode node → IsKindNode is_spoken node
    own_kind (Basic bindings to) own = own
    own_kind (Cond test on_true on_false) own = own
    own_kind (Call callee ins outs landing) own = own

    pub kind_spoken : (node : Node) → IsKindNode is_spoken node → IsSpokenNode node
    kind_spoken (Basic bindings to) own = own
    kind_spoken (Cond test on_true on_false) own = own
    kind_spoken (Call callee ins outs landing) own = own

    each_from : (bodies : List Body) → All (λ (b : Body). IsTypedBody unit b) bodies → All IsSpokenGraph (map (graph_of unit p) bodies)
        → All (λ (g : Graph). All IsSourceNode g.nodes) (map (graph_of unit p) bodies)
    each_from [] are spoken = All-nil (λ (g : Graph). All IsSourceNode g.nodes)
    each_from (body ∷ bodies) are spoken =
        All-cons (λ (g : Graph). All IsSourceNode g.nodes) (graph_of unit p body) (map (graph_of unit p) bodies)
        (λ k d less. (
          own_kind _ (All-head IsSpokenGraph (graph_of unit p body) (map (graph_of unit p) bodies) spoken k d less),
          passed_shape body _ (source_call_shape unit p body (All-head (λ (b : Body). IsTypedBody unit b) body bodies are) k d less),
        ))
        (each_from bodies (All-tail (λ (b : Body). IsTypedBody unit b) body bodies are) (All-tail IsSpokenGraph (graph_of unit p body) (map (graph_of unit p) bodies) spoken))

    pub each_source : All (λ (b : Body). IsTypedBody unit b) unit.bodies → All (λ (g : Graph). All IsSourceNode g.nodes) (graphs_of unit p)
    each_source are = each_from unit.bodies are (source_is_spoken unit p are)

-- ---- a function

module _ (q : Pair) (is : IsPair q) (b : Base) (inlined : IsInlined q b) where
  abbrev graphs : List Graph
  graphs = graphs_of q.unit (place_of q)

  pub own_graph : slice_get graphs (body_number q.body.name q.unit.bodies) ≡ Some (graph_of q.unit (place_of q) q.body)
  own_graph = body_there (graph_of q.unit (place_of q)) q.unit.bodies q.body.name q.body is.body_is

  pub source_side : IsSideOf (entry_frame q).source b.source (IsSourceNode q.unit)
  source_side =
      side_is is_own_of_source (entry_frame q).source (graph_of q.unit (place_of q) q.body) own_graph (all_valid q.unit (place_of q) is.placed is.typed is.sizes)
      (IsSourceNode q.unit) (source_kept q.unit) (each_source q.unit (place_of q) is.typed.bodies_typed) b.source inlined.source

  pub source_speaks : All (IsOwnGraph is_source) b.source.graphs
  source_speaks =
      all_graphs is_own_of_source (entry_frame q).source (graph_of q.unit (place_of q) q.body) own_graph (all_valid q.unit (place_of q) is.placed is.typed is.sizes)
      (IsSourceNode q.unit) (source_kept q.unit) (each_source q.unit (place_of q) is.typed.bodies_typed) (IsOwnNode is_source)
      (λ node here. node_of_source node (kind_spoken q.unit (place_of q) node here.0)) (All-nil _) b.source inlined.source
