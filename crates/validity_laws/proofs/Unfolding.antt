-- A part whose calls are inlined one after the other has frames over graphs of its own.
use Rattle.std.proofs.Common.{◌≡◌, ◌∙◌, ℕ, suc, ◌≤◌, Bool, true, false, refl, sym, ap, subst, arith, List, [], ◌∷◌, ◌++◌, All, Contains, Option, Some, None}
use Rattle.std.specs.Prelude.{slice_get, option_map, unwrap_or, IsSome}
use Rattle.std.proofs.lemmas.List.Elements.{All-nil, All-cons, All-append}
use Rattle.term_core_spec.specs.declared.Family.{Family}
use Rattle.term_core_spec.specs.declared.Sort.{Sort}
use Rattle.term_core_spec.specs.declared.Variable.{Variable}
use Rattle.term_core_spec.specs.Sort.{is_memory}
use Rattle.graph_core_spec.specs.Graph.{Binding, Call, Graph, IsValid, node_at, empty}
use Rattle.graph_inline_spec.specs.Inlined.{inlined}
use Rattle.proof_tree_spec.specs.Scope as scope
use Rattle.proof_tree_spec.specs.Frames.{Side, Frame}
use Rattle.sim_rules_spec.specs.Points.{is_binary}
use Rattle.sim_rules_spec.specs.Sides.{graph_at}
use Rattle.c_graph_spec.specs.SourceGraph.{body_number, graphs_of}
use Rattle.sim_inline_laws.specs.Runs.{beside_side}
use Rattle.sim_inline_laws.specs.Unfolding as inlining
use Rattle.sim_inline_laws.specs.Unfolding.{Inlinable, AreInlinable, as_it_is, one_more}
use Rattle.sim_inline_laws.proofs.Beside.{node_in, at_own}
use Rattle.agreement_laws.specs.EntryFrame.{Pair, place_of, entry_frame}
use Rattle.agreement_laws.specs.Callers.{Base, own_base, frame_in}
use Rattle.cert_check_lines_spec.specs.Parts as parts
use Rattle.cert_check_lines_spec.specs.Parts.{CodeFunction, SourceFunction, Functions, Member, Unfolded, Unfolds}
use Rattle.validity_laws.specs.Inlined as side_of
use Rattle.validity_laws.specs.Inlined.{is_own_of_source, IsInlinedSide, HasWords, IsInlined}
use Rattle.validity_laws.specs.Derivation.{Function, pair_for, AreSides}
use Rattle.validity_laws.specs.Accepted.{member_for, AreKnown, code_functions, source_functions}
use Rattle.validity_laws.proofs.Inlinable.{code_inlinable, source_inlinable, code_kinds, source_kinds}
use Rattle.validity_laws.proofs.PlainLines.{own_words}

-- ---- one side

module _ (own_family : Family → Bool) (functions : inlining.Functions) (function : Inlinable) (side : Side) (set : AreInlinable side.graphs functions)
    (named : functions side.outermost ≡ Some function)
    (kinds : (number : ℕ) (f : Inlinable) → functions number ≡ Some f → All (λ (v : Variable). own_family v.family ≡ true) f.own) where
  -- the calls that are inlined so far are of instances below the limit
  pub record IsSoFar (limit : ℕ) (new : Side) : Type 0 where
    pub own : Graph
    pub free : ℕ
    pub unfolds : inlining.Unfolds functions function free own
    pub within : free ≤ limit
    pub there : slice_get new.graphs new.outermost ≡ Some own
    pub is_inlined : IsInlinedSide own_family side new

  pub none_yet : IsSoFar 2 side
  none_yet = record {
    own = function.graph;
    free = 2;
    unfolds = as_it_is;
    within = omega arith;
    there = set.there side.outermost function named;
    is_inlined = side_of.as_it_is;
  }

  pub still : (limit more : ℕ) (new : Side) → limit ≤ more → IsSoFar limit new → IsSoFar more new
  still limit more new less so_far = record {
    own = so_far.own;
    free = so_far.free;
    unfolds = so_far.unfolds;
    within = omega (arith, less, so_far.within);
    there = so_far.there;
    is_inlined = so_far.is_inlined;
  }

  graph_is : (limit : ℕ) (new : Side) (so_far : IsSoFar limit new) → graph_at new ≡ so_far.own
  graph_is limit new so_far = ap (λ (o : Option Graph). unwrap_or o empty) so_far.there

  module _ (limit : ℕ) (new : Side) (so_far : IsSoFar limit new) (n number : ℕ) (inputs outputs : List Binding) (landing : ℕ) (f : Inlinable) (result : Graph)
      (call : node_at new.graphs new.outermost n ≡ Some (Call number inputs outputs landing)) (is : functions number ≡ Some f)
      (made : inlined (graph_at new) n f.graph f.own limit ≡ Some result) where
    next : inlining.Unfolds functions function (suc limit) result
    next =
        one_more so_far.free limit so_far.own result n number inputs outputs landing f so_far.unfolds so_far.within
        (sym (node_in new.graphs new.outermost so_far.own n so_far.there) ∙ call) is
        (ap (λ (g : Graph). inlined g n f.graph f.own limit) (sym (graph_is limit new so_far)) ∙ made)

    pub one_inlined : IsSoFar (suc limit) (beside_side side result)
    one_inlined = record {
      own = result;
      free = suc limit;
      unfolds = next;
      within = omega arith;
      there = at_own side.graphs result;
      is_inlined = side_of.inlined functions function (suc limit) result set kinds named next;
    }

-- ---- both sides

some_there : {X : Type 0} (o : Option X) → IsSome o → (x : X) × (o ≡ Some x)
some_there None is = absurd (let bad : false ≡ true = is in cc)
some_there (Some x) is = (x, refl)

module _ (q : Pair) (sides : AreSides q) (valid : All IsValid q.graphs) (source_valid : All IsValid (graphs_of q.unit (place_of q))) (functions : List Function) (firsts : List (List (ℕ × ℕ)))
    (fs : Functions) (known : AreKnown q functions fs) (g : Function) (among : Contains functions g) where
  abbrev p : Pair
  p = pair_for q g

  abbrev m : Member
  m = member_for q firsts g

  -- the function itself
  own_code : (f : CodeFunction) × (fs.code (q.numbering.graph_number g.entry) ≡ Some f)
  own_code = some_there (fs.code (q.numbering.graph_number g.entry)) (known.code_there g among)

  own_source : (f : SourceFunction) × (fs.source (body_number g.body.name q.unit.bodies) ≡ Some f)
  own_source = some_there (fs.source (body_number g.body.name q.unit.bodies)) (known.source_there g among)

  pub code_one : Inlinable
  code_one = record { graph = own_code.0.graph; own = own_code.0.own }

  pub source_one : Inlinable
  source_one = record { graph = own_source.0.graph; own = own_source.0.own }

  to_code : Option CodeFunction → Option Inlinable
  to_code = option_map (λ (f : CodeFunction). record { graph = f.graph; own = f.own })

  to_source : Option SourceFunction → Option Inlinable
  to_source = option_map (λ (f : SourceFunction). record { graph = f.graph; own = f.own })

  pub code_named : code_functions fs (q.numbering.graph_number g.entry) ≡ Some code_one
  unfolding to_code code_one
  code_named = ap to_code own_code.1

  pub source_named : source_functions fs (body_number g.body.name q.unit.bodies) ≡ Some source_one
  unfolding to_source source_one
  source_named = ap to_source own_source.1

  pub code_set : AreInlinable q.graphs (code_functions fs)
  code_set = code_inlinable q sides valid source_valid functions fs known

  pub source_set : AreInlinable (graphs_of q.unit (place_of q)) (source_functions fs)
  source_set = source_inlinable q sides valid source_valid functions fs known

  pub own_of_code : (number : ℕ) (f : Inlinable) → code_functions fs number ≡ Some f → All (λ (v : Variable). is_binary v.family ≡ true) f.own
  own_of_code = code_kinds q sides valid source_valid functions fs known

  pub own_of_source : (number : ℕ) (f : Inlinable) → source_functions fs number ≡ Some f → All (λ (v : Variable). is_own_of_source v.family ≡ true) f.own
  own_of_source = source_kinds q sides valid source_valid functions fs known

  abbrev CodeSoFar : ℕ → Side → Type 0
  CodeSoFar = IsSoFar is_binary (code_functions fs) code_one (entry_frame p).binary code_set code_named own_of_code

  abbrev SourceSoFar : ℕ → Side → Type 0
  SourceSoFar = IsSoFar is_own_of_source (source_functions fs) source_one (entry_frame p).source source_set source_named own_of_source

  -- a part so far: its frame is the function's over such graphs
  pub record IsPart (u : Unfolded) : Type 0 where
    pub base : Base
    pub frame : u.frame ≡ frame_in p base (entry_frame p).start [] []
    pub code : CodeSoFar u.instance base.binary
    pub source : SourceSoFar u.instance base.source
    pub setting : HasWords base.setting

  pub part_is : (u : Unfolded) → Unfolds fs m u → IsPart u
  part_is _ parts.as_it_is = record {
    base = own_base p;
    frame = refl;
    code = none_yet is_binary (code_functions fs) code_one (entry_frame p).binary code_set code_named own_of_code;
    source = none_yet is_own_of_source (source_functions fs) source_one (entry_frame p).source source_set source_named own_of_source;
    setting = own_words p.body;
  }
  part_is _ (parts.code_inlined u point node callee new before is made) =
      let so_far = part_is u before in
      let c = is.calls in
      let binary_is : u.frame.binary ≡ so_far.base.binary = ap (λ (f : Frame). f.binary) so_far.frame in
      let call : node_at so_far.base.binary.graphs so_far.base.binary.outermost node ≡ Some (Call is.number c.inputs c.outputs c.landing) =
      subst (λ (s : Side). node_at s.graphs s.outermost node ≡ Some (Call is.number c.inputs c.outputs c.landing)) binary_is c.call in
      let result = subst (λ (s : Side). inlined (graph_at s) node callee.graph callee.own u.instance ≡ Some new) binary_is made in
      let function : Inlinable = record { graph = callee.graph; own = callee.own } in
      let there : code_functions fs is.number ≡ Some function = ap (option_map (λ (f : CodeFunction). record { graph = f.graph; own = f.own })) is.is_callee in
      record {
        base = record so_far.base { binary = beside_side (entry_frame p).binary new };
        frame = ap (λ (f : Frame). record f { binary = beside_side (entry_frame p).binary new }) so_far.frame;
        code = one_inlined is_binary (code_functions fs) code_one (entry_frame p).binary code_set code_named own_of_code u.instance so_far.base.binary so_far.code
            node is.number c.inputs c.outputs c.landing function new call there result;
        source = still is_own_of_source (source_functions fs) source_one (entry_frame p).source source_set source_named own_of_source u.instance (suc u.instance) so_far.base.source
            (omega arith) so_far.source;
        setting = so_far.setting;
      }
  part_is _ (parts.source_inlined u path call_at node callee new before is made) =
      let so_far = part_is u before in
      let c = is.calls in
      let source_is : u.frame.source ≡ so_far.base.source = ap (λ (f : Frame). f.source) so_far.frame in
      let call : node_at so_far.base.source.graphs so_far.base.source.outermost node ≡ Some (Call is.number c.inputs c.outputs c.landing) =
      subst (λ (s : Side). node_at s.graphs s.outermost node ≡ Some (Call is.number c.inputs c.outputs c.landing)) source_is c.call in
      let result = subst (λ (s : Side). inlined (graph_at s) node callee.graph callee.own u.instance ≡ Some new) source_is made in
      let function : Inlinable = record { graph = callee.graph; own = callee.own } in
      let there : source_functions fs is.number ≡ Some function = ap (option_map (λ (f : SourceFunction). record { graph = f.graph; own = f.own })) is.is_callee in
      let body : scope.Body = record { path = path ++ call_at ∷ []; instance = u.instance; locals = callee.locals } in
      let next = one_inlined is_own_of_source (source_functions fs) source_one (entry_frame p).source source_set source_named own_of_source u.instance so_far.base.source so_far.source
      node is.number c.inputs c.outputs c.landing function new call there result in
      record {
        base = record {
          binary = so_far.base.binary;
          source = beside_side (entry_frame p).source new;
          setting = parts.with_body so_far.base.setting body;
        };
        frame = ap (λ (f : Frame). record f { source = beside_side (entry_frame p).source new; setting = parts.with_body f.setting body }) so_far.frame;
        code = still is_binary (code_functions fs) code_one (entry_frame p).binary code_set code_named own_of_code u.instance (suc u.instance) so_far.base.binary (omega arith)
            so_far.code;
        source = next;
        setting = record {
          parameters = so_far.setting.parameters;
          locals = All-append (λ (b : scope.Body). All (λ (t : Sort). is_memory t ≡ false) b.locals) so_far.base.setting.bodies (body ∷ []) so_far.setting.locals
              (All-cons (λ (b : scope.Body). All (λ (t : Sort). is_memory t ≡ false) b.locals) body [] (known.words is.number callee is.is_callee)
              (All-nil (λ (b : scope.Body). All (λ (t : Sort). is_memory t ≡ false) b.locals)));
        };
      }

  pub part_inlined : (u : Unfolded) (part : IsPart u) → IsInlined p part.base
  part_inlined u part = record { binary = part.code.is_inlined; source = part.source.is_inlined; setting = part.setting }
