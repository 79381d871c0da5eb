-- A run passes a visit exactly where the condition there is true, and then in its state.
use Rattle.std.proofs.Common.{◌≡◌, ◌∙◌, ℕ, ◌<◌, zero, suc, true, List, [], ◌∷◌, length, get_or, map, take, Option, Some, None, refl, sym, ap, subst, inl, inr, arith}
use Rattle.std.specs.Prelude.{slice_get, Contains}
use Rattle.std.specs.List.{All}
use Rattle.std.proofs.lemmas.Bool.{and_parts, and_from, cases_lt}
use Rattle.std.proofs.lemmas.List.{get_or-take}
use Rattle.std.proofs.lemmas.Option.{slice_get_within, get_or_from_slice_get}
use Rattle.term_core_spec.specs.declared.Variable.{Variable}
use Rattle.term_core_spec.specs.Term.{truth}
use Rattle.term_core_spec.specs.Substitution.{State, values_of}
use Rattle.term_core_spec.specs.Value.{Assignment, IsAssignment, Truth, value}
use Rattle.graph_core_spec.specs.declared.Next.{Next}
use Rattle.graph_core_spec.specs.declared.Next.TheVariants as next
use Rattle.graph_core_spec.specs.Graph.{Node, Graph, IsNode, IsValid}
use Rattle.graph_core_spec.specs.Run.{is_truth}
use Rattle.visit_walk_spec.specs.declared.Incoming.{Incoming}
use Rattle.path_cond_spec.specs.Junctions.{Junction, junction_at}
use Rattle.path_cond_spec.specs.Conditions.{Conditional, any_of, merged, united, node_of_place, node_of_junction, after_node, conditional_at, along, entered_by, conditional_next, conditionals}
use Rattle.path_cond_spec.specs.Passages.{takes, values_after, IsInto, PassesAt, AreLinked, holds, IsExact}
use Rattle.path_cond_spec.proofs.Growing.{grown-at}
use Rattle.path_cond_spec.proofs.Truths.{IsTruth, truth_is, value-truth}
use Rattle.path_cond_spec.proofs.Merging.{IsTested, some_holds, any-value, Gives, merged-value, IsFit, merged-sort}
use Rattle.path_cond_spec.proofs.Leaving.{IsOptionalNode, state_after-values, state_after-sort, IsLeft, left}
use Rattle.path_cond_spec.proofs.Passages.{one_passage}
use Rattle.path_cond_spec.proofs.Edges.{contains_none, map_same, each, some_of, some_at}

-- ---- the conditional at each visit, from those at the sources of its edges

module _ (g : Graph) (js : List Junction) (start : State) where
  abbrev pub known_at : ℕ → Conditional
  known_at j = conditional_at start (conditionals g js start) j

  -- what the edges into a visit lead to
  abbrev pub arriving : ℕ → List Conditional
  arriving j = map (along g js start (conditionals g js start)) (junction_at js j).edges

  pub known_at-is : AreLinked g js → (j : ℕ) → j < length js → known_at j ≡ entered_by start (arriving j)
  unfolding conditionals
  known_at-is linked j within =
      let all : List Conditional = conditionals g js start in
      let made : get_or all j (united start []) ≡ conditional_next g js start (take j all) (junction_at js j) =
      subst (λ (n : ℕ). get_or all n (united start []) ≡ conditional_next g js start (take n all) (junction_at js j)) (omega arith)
      (grown-at (conditional_next g js start) [] js j (united start []) (record { place = next.Err; edges = [] }) within) in
      made ∙ ap (entered_by start) (map_same (along g js start (take j all)) (along g js start all) (junction_at js j).edges
      (λ e into. ap (after_node (node_of_junction g js e.source) e.branch) (get_or-take j all e.source (united start []) (linked.earlier j e into))))

-- ---- nodes of a valid graph

module _ (g : Graph) (valid : IsValid g) where
  found_sound : (n : ℕ) (node : Option Node) → node ≡ slice_get g.nodes n → IsOptionalNode (length g.nodes) node
  found_sound n None e = tt
  found_sound n (Some node) e = subst (IsNode (length g.nodes)) (get_or_from_slice_get g.nodes n node node (sym e)) (valid.nodes n node (slice_get_within g.nodes n node (sym e)))

  pub place_sound : (p : Next) → IsOptionalNode (length g.nodes) (node_of_place g p)
  place_sound (next.At n) = found_sound n (slice_get g.nodes n) refl
  place_sound next.Ret = tt
  place_sound next.Err = tt

-- ---- the meaning

module _ (g : Graph) (js : List Junction) (start : State) (a : Assignment) (valid : IsValid g) (linked : AreLinked g js) (sorted : IsAssignment (values_of a start)) where
  pub record IsMeant (j : ℕ) (c : Conditional) : Type 0 where
    pub truth : IsTruth a c.condition
    pub fit : IsAssignment (values_of a c.state)
    pub exact : IsExact g js start a j c

  -- at the first visit
  only_first : (j k : ℕ) (values : Assignment) → (junction_at js j).edges ≡ [] → PassesAt g js (values_of a start) k j values
      → (holds a (truth true) ≡ true) × (values ≡ values_of a start)
  unfolding PassesAt
  only_first j zero values none p = (ap is_truth (value-truth a true), p.1)
  only_first j (suc k) values none p = absurd (contains_none p.edge (subst (λ (es : List Incoming). Contains es p.edge) none p.into))

  at_first : (j : ℕ) → j ≡ 0 → (junction_at js j).edges ≡ [] → IsMeant j (record { condition = truth true; state = start })
  unfolding PassesAt
  at_first j zero_is none = record {
    truth = truth_is a (truth true) true (value-truth a true);
    fit = sorted;
    exact = record { passed = λ h. (0, (zero_is, refl)); only = λ k values p. only_first j k values none p };
  }

  -- at another, from those before it
  module _ (j : ℕ) (later : 0 < j) (before : (i : ℕ) → i < j → IsMeant i (known_at g js start i)) where
    abbrev al : Incoming → Conditional
    al e = along g js start (conditionals g js start) e

    abbrev node : Incoming → Option Node
    node e = node_of_junction g js e.source

    abbrev come : List Conditional
    come = arriving g js start j

    left_by : (e : Incoming) → IsInto js j e → IsLeft a (node e) e.branch (known_at g js start e.source)
    left_by e into =
        let from = before e.source (linked.earlier j e into) in
        left a (length g.nodes) (node e) e.branch (junction_at js j).place (known_at g js start e.source) (linked.leads j e into)
        (place_sound g valid (junction_at js e.source).place) from.truth from.fit

    tested : All (IsTested a) come
    tested = each (IsTested a) al (junction_at js j).edges (λ e into. (left_by e into).truth)

    fits : (v : Variable) → All (IsFit a v) come
    fits v = each (IsFit a v) al (junction_at js j).edges
        (λ e into. state_after-sort a (length g.nodes) (node e) (known_at g js start e.source).state (place_sound g valid (junction_at js e.source).place) (before e.source (linked.earlier j e into)).fit v)

    some_is : value a (any_of come) ≡ Truth (some_holds a come)
    some_is = any-value a come tested

    -- an edge whose condition is true is one of a run
    by_edge : (e : Incoming) → IsInto js j e → holds a (al e).condition ≡ true → (k : ℕ) × PassesAt g js (values_of a start) (suc k) j (values_of a (al e).state)
    unfolding PassesAt
    by_edge e into h =
        let parts = and_parts (holds a (known_at g js start e.source).condition) (takes (node e) e.branch (values_of a (known_at g js start e.source).state)) (sym (left_by e into).both ∙ h) in
        let from = (before e.source (linked.earlier j e into)).exact.passed parts.0 in (
          from.0,
          record {
            edge = e;
            before = values_of a (known_at g js start e.source).state;
            from = from.1;
            into = into;
            taken = parts.1;
            is = state_after-values a (node e) (known_at g js start e.source).state;
          },
        )

    -- all such edges give one assignment of values
    agree : (e f : Incoming) → IsInto js j e → IsInto js j f → holds a (al e).condition ≡ true → holds a (al f).condition ≡ true
        → values_of a (al f).state ≡ values_of a (al e).state
    agree e f into_e into_f holds_e holds_f =
        let by_e = by_edge e into_e holds_e in
        let by_f = by_edge f into_f holds_f in
        (one_passage g js linked (values_of a start) (suc by_f.0) (suc by_e.0) j (values_of a (al f).state) (values_of a (al e).state) by_f.1 by_e.1).1

    state_is : (e : Incoming) → IsInto js j e → holds a (al e).condition ≡ true → values_of a (merged start come) ≡ values_of a (al e).state
    state_is e into h =
        let some : some_holds a come ≡ true = some_at (λ (c : Conditional). holds a c.condition) al (junction_at js j).edges e into h in
        let at : (v : Variable) → value a (merged start come v) ≡ value a ((al e).state v) =
        λ v. merged-value a v (value a ((al e).state v)) start come tested
        (each (Gives a v (value a ((al e).state v))) al (junction_at js j).edges (λ f into_f holds_f. ap (λ (values : Assignment). values v) (agree e f into into_f h holds_f))) some in
        λ i v. at v i

    passed_then : holds a (any_of come) ≡ true → (k : ℕ) × PassesAt g js (values_of a start) k j (values_of a (merged start come))
    passed_then h =
        let some = some_of (λ (c : Conditional). holds a c.condition) al (junction_at js j).edges (sym (ap is_truth some_is) ∙ h) in
        let by_it = by_edge some.0 some.1 some.2 in
        (suc by_it.0, subst (λ (values : Assignment). PassesAt g js (values_of a start) (suc by_it.0) j values) (sym (state_is some.0 some.1 some.2)) by_it.1)

    only_then : (k : ℕ) (values : Assignment) → PassesAt g js (values_of a start) k j values → (holds a (any_of come) ≡ true) × (values ≡ values_of a (merged start come))
    unfolding PassesAt
    only_then zero values p = absurd (omega (arith, p.0))
    only_then (suc k) values p =
        let source = known_at g js start p.edge.source in
        let from = (before p.edge.source (linked.earlier j p.edge p.into)).exact.only k p.before p.from in
        let taken : takes (node p.edge) p.edge.branch (values_of a source.state) ≡ true = ap (takes (node p.edge) p.edge.branch) (sym from.1) ∙ p.taken in
        let true_then : holds a (al p.edge).condition ≡ true = (left_by p.edge p.into).both ∙ and_from (holds a source.condition) (takes (node p.edge) p.edge.branch (values_of a source.state)) from.0 taken in
        let some : some_holds a come ≡ true = some_at (λ (c : Conditional). holds a c.condition) al (junction_at js j).edges p.edge p.into true_then in (
          ap is_truth some_is ∙ some,
          p.is ∙ ap (values_after (node p.edge)) from.1 ∙ sym (state_after-values a (node p.edge) source.state) ∙ sym (state_is p.edge p.into true_then),
        )

    at_later : IsMeant j (united start come)
    at_later = record {
      truth = truth_is a (any_of come) (some_holds a come) some_is;
      fit = λ v. merged-sort a v start come (sorted v) tested (fits v);
      exact = record { passed = passed_then; only = only_then };
    }

  by_edges : (j : ℕ) → j < length js → ((i : ℕ) → i < j → IsMeant i (known_at g js start i)) → (es : List Incoming) → (junction_at js j).edges ≡ es → IsMeant j (known_at g js start j)
  by_edges j within before [] e = elim (cases_lt 0 j) [
    | inl later ↦ absurd (linked.entered j later within e)
    | inr none ↦
        let is : known_at g js start j ≡ record { condition = truth true; state = start } =
        known_at-is g js start linked j within ∙ ap (λ (es : List Incoming). entered_by start (map (along g js start (conditionals g js start)) es)) e in
        subst (IsMeant j) (sym is) (at_first j (omega arith) e)
  ]
  by_edges j within before (x ∷ rest) e = elim (cases_lt 0 j) [
    | inl later ↦
        let some : entered_by start (arriving g js start j) ≡ united start (arriving g js start j) =
        subst (λ (es : List Incoming). entered_by start (map (along g js start (conditionals g js start)) es) ≡ united start (map (along g js start (conditionals g js start)) es)) (sym e) refl in
        subst (IsMeant j) (sym (known_at-is g js start linked j within ∙ some)) (at_later j later before)
    | inr none ↦
        let zero_is : j ≡ 0 = omega arith in
        let bad : [] ≡ x ∷ rest = sym linked.none_first ∙ ap (λ (n : ℕ). (junction_at js n).edges) (sym zero_is) ∙ e in
        absurd (cc)
  ]

  below : (n j : ℕ) → j < n → j < length js → IsMeant j (known_at g js start j)
  below zero j less within = absurd (omega arith)
  below (suc n) j less within = by_edges j within (λ i earlier. below n i (omega arith) (omega arith)) (junction_at js j).edges refl

  pub meant : (j : ℕ) → j < length js → IsMeant j (known_at g js start j)
  meant j within = below (suc j) j (omega arith) within
