-- What stays true of a graph while calls are inlined into it.
use Rattle.std.proofs.Common.{◌≡◌, ◌≢◌, ◌∙◌, inl, inr, ℕ, suc, ◌+◌, ◌<◌, ◌≤◌, true, false, Bool, if◌then◌else◌, refl, sym, subst, arith, List, [], map, length, All, Some}
use Rattle.std.specs.Prelude.{slice_get, slice_set}
use Rattle.std.proofs.lemmas.List.Elements.{All-nil, All-cons, All-append, All-set, All-map, All-weaker, All-contains}
use Rattle.std.proofs.lemmas.Option.{same_Some, slice_get_within}
use Rattle.term_core_spec.specs.declared.Variable.{Variable}
use Rattle.term_core_spec.specs.Sort.{is_memory}
use Rattle.term_core_spec.specs.Substitution.{at_instance}
use Rattle.term_core_spec.specs.Term.{Term}
use Rattle.graph_core_spec.specs.declared.Next.TheVariants as next
use Rattle.graph_core_spec.specs.Graph.{Binding, Node, Basic, Cond, Call, Graph, Graphs, IsValid, node_at}
use Rattle.graph_core_spec.specs.Run.{is_shared}
use Rattle.graph_inline_spec.specs.Naming.{inlined_variable, with_inlined_term, with_inlined_variable}
use Rattle.graph_inline_spec.specs.Inlined.{start_bindings, inlined_node, inlined}
use Rattle.graph_inline_spec.specs.Inlining.{TermSpeaksOf, SpeaksOf, IsOfCallee, IsElsewhere, IsOwn, CanInline, NeverCalls, Inlines}
use Rattle.graph_inline_spec.specs.Kept.{NeverBindsIt}
use Rattle.graph_inline_spec.proofs.Valid.{is_graph, inlined_valid, sizes}
use Rattle.graph_inline_spec.proofs.Again.{stays_fresh}
use Rattle.graph_inline_spec.proofs.Unbound.{stays_unbound}
use Rattle.sim_rules_spec.proofs.Start.{all_at}
use Rattle.graph_inline_spec.specs.Beside.{beside, own_number}
use Rattle.sim_inline_laws.specs.Unfolding.{Inlinable, Functions, IsPlainCall, CallsPlainly, IsPlainGraph, AreInlinable, Unfolds, as_it_is, one_more}
use Rattle.sim_inline_laws.proofs.Beside.{in_set, at_own, others_same, all_beside, node_found}

-- ---- variables

-- what a function that can be inlined speaks of is shared, or its own: none of it belongs to an inlined call
module _ (instance : ℕ) (later : 2 ≤ instance) (own : List Variable) (are : All IsOwn own) where
  callee_elsewhere : (v : Variable) → IsOfCallee own v → IsElsewhere instance v
  callee_elsewhere v (inl shared) = inl shared
  callee_elsewhere v (inr there) = inr (λ e. let own_one = (All-contains IsOwn own v are there).1 in omega (arith, own_one, e, later))

  term_elsewhere : (t : Term) → TermSpeaksOf (IsOfCallee own) t → TermSpeaksOf (IsElsewhere instance) t
  term_elsewhere t speaks v o = callee_elsewhere v (speaks v o)

  node_elsewhere : (node : Node) → SpeaksOf (IsOfCallee own) node → SpeaksOf (IsElsewhere instance) node
  node_elsewhere (Basic bindings to) speaks =
      All-weaker (λ (b : Binding). IsOfCallee own b.variable × TermSpeaksOf (IsOfCallee own) b.term) (λ (b : Binding). IsElsewhere instance b.variable × TermSpeaksOf (IsElsewhere instance) b.term)
      (λ b s. (callee_elsewhere b.variable s.0, term_elsewhere b.term s.1)) bindings speaks
  node_elsewhere (Cond test on_true on_false) speaks = term_elsewhere test speaks
  node_elsewhere (Call callee inputs outputs landing) speaks = (
    All-weaker (λ (b : Binding). TermSpeaksOf (IsOfCallee own) b.term) (λ (b : Binding). TermSpeaksOf (IsElsewhere instance) b.term) (λ b s. term_elsewhere b.term s) inputs speaks.0,
    All-weaker (λ (b : Binding). IsOfCallee own b.variable) (λ (b : Binding). IsElsewhere instance b.variable) (λ b s. callee_elsewhere b.variable s) outputs speaks.1,
  )

-- ---- calls of an inlined body

module _ (count : ℕ) (functions : Functions) where
  same_sort : (instance : ℕ) (v : Variable) → is_memory (inlined_variable instance v).sort ≡ is_memory v.sort
  same_sort instance v = by (is_shared v)
    where
      by : (b : Bool) → is_memory (if b then v else at_instance instance v).sort ≡ is_memory v.sort
      by true = refl
      by false = refl

  plain_body : (instance first last : ℕ) (node : Node) → CallsPlainly count functions node → CallsPlainly count functions (inlined_node instance first last node)
  plain_body instance first last (Basic bindings to) plain = tt
  plain_body instance first last (Cond test on_true on_false) plain = tt
  plain_body instance first last (Call callee inputs outputs landing) plain = record {
    within = plain.within;
    passes = All-map (λ (b : Binding). is_memory b.variable.sort ≡ false) (with_inlined_term instance) inputs plain.passes;
    takes = All-map (λ (b : Binding). is_memory b.variable.sort ≡ false) (with_inlined_variable instance) outputs
        (All-weaker (λ (b : Binding). is_memory b.variable.sort ≡ false) (λ (b : Binding). is_memory (inlined_variable instance b.variable).sort ≡ false)
        (λ b none. same_sort instance b.variable ∙ none) outputs plain.takes);
    taken = λ f is. All-map (λ (b : Binding). TermSpeaksOf (IsOfCallee f.own) b.term) (with_inlined_variable instance) outputs (plain.taken f is);
  }

  plain_inlined : (caller : Graph) (n : ℕ) (callee : Graph) (own : List Variable) (instance : ℕ) → CanInline caller n callee own instance → (new : Graph)
      → inlined caller n callee own instance ≡ Some new → IsPlainGraph count functions caller → IsPlainGraph count functions callee → IsPlainGraph count functions new
  plain_inlined caller n callee own instance can new e plain plain_callee =
      subst (IsPlainGraph count functions) (same_Some _ new (sym (is_graph caller n callee own instance can) ∙ e))
      (All-append (CallsPlainly count functions)
      (slice_set caller.nodes n (Basic (start_bindings own instance can.inputs) (next.At (length caller.nodes + callee.entry)))) _
      (All-set (CallsPlainly count functions) caller.nodes n _ tt plain)
      (All-append (CallsPlainly count functions)
      (map (inlined_node instance (length caller.nodes) (length caller.nodes + length callee.nodes)) callee.nodes) _
      (All-map (CallsPlainly count functions) (inlined_node instance (length caller.nodes) (length caller.nodes + length callee.nodes)) callee.nodes
      (All-weaker (CallsPlainly count functions) (λ (node : Node). CallsPlainly count functions (inlined_node instance (length caller.nodes) (length caller.nodes + length callee.nodes) node))
      (λ node p. plain_body instance (length caller.nodes) (length caller.nodes + length callee.nodes) node p) callee.nodes plain_callee))
      (All-cons (CallsPlainly count functions) (Basic (map (with_inlined_term instance) can.outputs) (next.At can.landing)) [] tt (All-nil (CallsPlainly count functions)))))

-- ---- a graph with calls inlined

module _ (graphs : Graphs) (functions : Functions) (set : AreInlinable graphs functions) (number : ℕ) (function : Inlinable) (named : functions number ≡ Some function) where
  pub record IsUnfolded (free : ℕ) (g : Graph) : Type 0 where
    pub valid : IsValid g
    pub fresh : (instance : ℕ) → free ≤ instance → All (SpeaksOf (IsElsewhere instance)) g.nodes
    pub calls : IsPlainGraph (length graphs) functions g
    pub size : length function.graph.nodes ≤ length g.nodes
    pub keeps : (v : Variable) → is_shared v ≡ false → v.instance < 2 → NeverBindsIt function.graph v → NeverBindsIt g v
    pub later : 2 ≤ free

  pub valid_there : (k : ℕ) (f : Inlinable) → functions k ≡ Some f → IsValid f.graph
  valid_there k f is = all_at IsValid graphs k f.graph set.valid (set.there k f is)

  plain_there : (k : ℕ) (f : Inlinable) → functions k ≡ Some f → IsPlainGraph (length graphs) functions f.graph
  plain_there k f is = all_at (IsPlainGraph (length graphs) functions) graphs k f.graph set.calls (set.there k f is)

  base : IsUnfolded 2 function.graph
  base = record {
    valid = valid_there number function named;
    fresh = λ instance later. All-weaker (SpeaksOf (IsOfCallee function.own)) (SpeaksOf (IsElsewhere instance))
        (λ node speaks. node_elsewhere instance later function.own (set.own number function named) node speaks) function.graph.nodes (set.listed number function named);
    calls = plain_there number function named;
    size = omega arith;
    keeps = λ v own instance never. never;
    later = omega arith;
  }

  -- ---- one call more

  module _ (free instance : ℕ) (g new : Graph) (n callee : ℕ) (inputs outputs : List Binding) (landing : ℕ) (f : Inlinable) (so_far : IsUnfolded free g) (fits : free ≤ instance)
      (call : slice_get g.nodes n ≡ Some (Call callee inputs outputs landing)) (is : functions callee ≡ Some f) (made : inlined g n f.graph f.own instance ≡ Some new) where
    pub plain_call : IsPlainCall (length graphs) functions callee inputs outputs
    plain_call = all_at (CallsPlainly (length graphs) functions) g.nodes n (Call callee inputs outputs landing) so_far.calls call

    abbrev pub can : CanInline g n f.graph f.own instance
    can = record {
      number = callee;
      inputs = inputs;
      outputs = outputs;
      landing = landing;
      call = call;
      own_variables = set.own callee f is;
      fresh = so_far.fresh instance fits;
      listed = set.listed callee f is;
      takes = plain_call.taken f is;
      valid_caller = so_far.valid;
      valid_callee = valid_there callee f is;
    }

    larger : length function.graph.nodes ≤ length new.nodes
    larger = let size = sizes g n f.graph f.own instance new made in omega (arith, size, so_far.size)

    other_instance : (v : Variable) → v.instance < 2 → v.instance ≢ instance
    other_instance v less e = omega (arith, less, e, fits, so_far.later)

    pub more : IsUnfolded (suc instance) new
    more = record {
      valid = inlined_valid g n f.graph f.own instance can new made;
      fresh = λ other after. stays_fresh g n f.graph f.own instance can new made other (λ e. omega (arith, after, e)) (so_far.fresh other (omega (arith, after, fits)));
      calls = plain_inlined (length graphs) functions g n f.graph f.own instance can new made so_far.calls (plain_there callee f is);
      size = larger;
      keeps = λ v own less never. stays_unbound g n f.graph f.own instance can new made v own (other_instance v less) (so_far.keeps v own less never);
      later = omega (arith, fits, so_far.later);
    }

    -- ---- the sets with the graphs before and after

    set_plain : All (IsPlainGraph (length graphs) functions) (beside graphs g)
    set_plain =
        all_beside (IsPlainGraph (length graphs) functions) graphs g set.calls
        (All-cons (CallsPlainly (length graphs) functions) (Basic [] next.Err) [] tt (All-nil (CallsPlainly (length graphs) functions))) so_far.calls

    plain_at : (h m : ℕ) (node : Node) → node_at (beside graphs g) h m ≡ Some node → CallsPlainly (length graphs) functions node
    plain_at h m node e =
        let (x, there, at) = node_found (beside graphs g) h m node e in
        all_at (CallsPlainly (length graphs) functions) x.nodes m node (all_at (IsPlainGraph (length graphs) functions) (beside graphs g) h x set_plain there) at

    pub never : NeverCalls (beside graphs g) (own_number graphs)
    never h m d inputs outputs landing e same =
        let plain : IsPlainCall (length graphs) functions d inputs outputs = plain_at h m (Call d inputs outputs landing) e in
        omega (arith, plain.within, same)

    pub callee_less : callee < length graphs
    callee_less = slice_get_within graphs callee f.graph (set.there callee f is)

    abbrev pub inlines : Inlines (beside graphs g) (own_number graphs) n f.own instance (beside graphs new)
    inlines = record {
      caller = g;
      callee = f.graph;
      can = can;
      here = at_own graphs g;
      there = in_set graphs g callee callee_less ∙ set.there callee f is;
      changed = at_own graphs new ∙ sym made;
      others = λ h other. others_same graphs g new h other;
      never_called = never;
    }

  pub unfolded_is : (free : ℕ) (g : Graph) → Unfolds functions function free g → IsUnfolded free g
  unfolded_is _ _ as_it_is = base
  unfolded_is _ _ (one_more free instance g new n callee inputs outputs landing f before fits call is made) =
      more free instance g new n callee inputs outputs landing f (unfolded_is free g before) fits call is made
