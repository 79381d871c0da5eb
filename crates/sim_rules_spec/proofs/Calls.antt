-- Where the relation before two calls holds, a valid obligation gives the callee's entry relation.
use Rattle.std.proofs.Common.{◌≡◌, ◌∙◌, ℕ, Bool, true, false, if◌then◌else◌, List, [], ◌∷◌, ◌++◌, map, refl, sym, ap, subst, inl, inr}
use Rattle.std.specs.List.{All, list_all}
use Rattle.std.proofs.lemmas.Bool.{cases_Bool, false≢true, and_parts, or_left}
use Rattle.std.proofs.lemmas.List.Elements.{All-head, All-tail, All-append, All-weaker}
use Rattle.term_core_spec.specs.declared.Sort.{Sort}
use Rattle.term_core_spec.specs.declared.Sort.TheVariants as sort
use Rattle.term_core_spec.specs.declared.Family.{Family}
use Rattle.term_core_spec.specs.declared.Variable.{Variable}
use Rattle.term_core_spec.specs.Same.{same_variable}
use Rattle.term_core_spec.specs.Sort.{is_memory}
use Rattle.term_core_spec.specs.Term.{Term, Occurs}
use Rattle.term_core_spec.specs.Value.{Assignment, Value, IsAssignment, value}
use Rattle.term_core_spec.specs.Substitution.{State as Terms, substituted, values_of}
use Rattle.term_core_spec.proofs.Substitution.{value-substituted}
use Rattle.term_core_spec.proofs.Variables.{value-occurs}
use Rattle.graph_core_spec.specs.TransitionSystem.{after}
use Rattle.graph_core_spec.specs.Simulation.{IsRelated}
use Rattle.graph_core_spec.specs.Graph.{Binding}
use Rattle.graph_core_spec.specs.Run.{Running, Failed, bound, entered, unset, is_shared, is_truth}
use Rattle.graph_core_spec.specs.Fixed.{has_byte, holds_byte}
use Rattle.path_cond_spec.specs.Conditions.{assigned}
use Rattle.path_cond_spec.specs.Passages.{holds}
use Rattle.proof_tree_spec.specs.Cuts.{both}
use Rattle.proof_tree_spec.specs.Frames.{Frame}
use Rattle.sim_rules_spec.specs.Points.{Convention, source_memory, is_binary, is_source, all_hold, same_byte, with_memory, bounded, source_zone}
use Rattle.sim_rules_spec.specs.Systems.{relation, IsBinaryFine, IsSourceFine}
use Rattle.sim_rules_spec.specs.Rules.{at_cut, terms_at, IsTrueWith}
use Rattle.sim_rules_spec.specs.Proper.{IsConvention, IsOpened, AreOwnBindings, IsOwnBinding}
use Rattle.sim_rules_spec.specs.Calls.{CallPair, Callee, IsCallPair, unset_or, entered_terms, is_entry, binary_begins, source_begins, begins_well, call_premises, callee_lines, entry_term, begun_binary, begun_at, BeginsWell}
use Rattle.sim_rules_spec.proofs.Truths.{IsTrue, all_pass, pass_all, all_left, all_right, all_mapped, all_true, from_under}
use Rattle.sim_rules_spec.proofs.Sides.{joined, joined-sort, start_values, point_values}
use Rattle.sim_rules_spec.proofs.Start.{holds_fixed, start_lines}
use Rattle.sim_rules_spec.proofs.Case.{values-sort}
use Rattle.sim_rules_spec.proofs.AtCut.{cuts_open}

-- ---- values where a callee begins

module _ (a : Assignment) where
  pub either_value : (test : Bool) (s t : Term) (p q : Value) → value a s ≡ p → value a t ≡ q → value a (if test then s else t) ≡ (if test then p else q)
  either_value true s t p q es et = es
  either_value false s t p q es et = et

  -- bindings whose terms speak of variables that have these values
  module _ (terms : Terms) (values : Assignment) where
    abbrev pub Has : Binding → Type 0
    Has b = (w : Variable) → Occurs w b.term → values_of a terms w ≡ values w

    pub assigned-by : (bindings : List Binding) (rest : Terms) (others : Assignment) → All Has bindings → (v : Variable)
        → value a (rest v) ≡ others v → value a (assigned bindings terms rest v) ≡ bound bindings values others v
    unfolding assigned bound
    assigned-by [] rest others speaks v e = e
    assigned-by (b ∷ bindings) rest others speaks v e =
        either_value (same_variable v b.variable) (substituted terms b.term) (assigned bindings terms rest v) (value values b.term) (bound bindings values others v)
        (value-substituted a terms b.term ∙ value-occurs (values_of a terms) values b.term (All-head Has b bindings speaks))
        (assigned-by bindings rest others (All-tail Has b bindings speaks) v e)

  -- terms that have the values of a side's own variables
  module _ (own : Family → Bool) (terms : Terms) (values : Assignment) (each : (v : Variable) → own v.family ≡ true → values_of a terms v ≡ values v) where
    unset_value : (s : Sort) (memory : Term) → is_memory s ≡ false → value a (unset_or s memory) ≡ unset s
    unfolding value
    unset_value sort.Truth memory h = refl
    unset_value (sort.Word width) memory h = refl
    unset_value sort.Memory memory h = absurd (false≢true (sym h))

    rest_value : (v : Variable) → own v.family ≡ true
        → value a (if is_shared v then terms v else unset_or v.sort (terms v)) ≡ (if is_shared v then values v else unset v.sort)
    rest_value v mine = elim (cases_Bool (is_shared v)) [
      | inl shared ↦
          ap (λ (p : Bool). value a (if p then terms v else unset_or v.sort (terms v))) shared ∙ each v mine
          ∙ sym (ap (λ (p : Bool). if p then values v else unset v.sort) shared)
      | inr alone ↦
          ap (λ (p : Bool). value a (if p then terms v else unset_or v.sort (terms v))) alone
          ∙ unset_value v.sort (terms v) (not_memory alone)
          ∙ sym (ap (λ (p : Bool). if p then values v else unset v.sort) alone)
    ]
      where
        not_memory : is_shared v ≡ false → is_memory v.sort ≡ false
        not_memory h = elim (cases_Bool (is_memory v.sort)) [
          | inl m ↦ absurd (false≢true (sym h ∙ or_left (is_memory v.sort) _ m))
          | inr n ↦ n
        ]

    pub entered-value : (inputs : List Binding) → AreOwnBindings own inputs → (v : Variable) → own v.family ≡ true
        → value a (entered_terms inputs terms v) ≡ entered inputs values v
    entered-value inputs speaks v mine =
        assigned-by terms values inputs (λ w. if is_shared w then terms w else unset_or w.sort (terms w)) (λ w. if is_shared w then values w else unset w.sort)
        (All-weaker (IsOwnBinding own) (Has terms values) (λ b h w o. each w (h.1 w o)) inputs speaks) v (rest_value v mine)

-- ---- at the calls

module _ (c : Convention) (convention : IsConvention c) (f : Frame) (before : List Term) (g m k n : ℕ) (x y : Assignment)
    (related : IsRelated (both (all_hold f.entry) (relation c before)) (Running g m x []) (Running k n y []))
    (fine_x : IsBinaryFine c f (Running g m x [])) (fine_y : IsSourceFine c f (Running k n y [])) where
  -- what holds there, at one address
  module _ (at : ℕ) where
    abbrev a : Assignment
    a = joined at x y

    here : (all_hold f.entry at (Running g m x []) (Running k n y []) ≡ true) × (relation c before at (Running g m x []) (Running k n y []) ≡ true)
    here = and_parts (all_hold f.entry at (Running g m x []) (Running k n y [])) (relation c before at (Running g m x []) (Running k n y [])) (related at)

    pub lines_hold : list_all (λ (line : Term). holds a line) (f.entry ++ before) ≡ true
    lines_hold = pass_all (λ (line : Term). holds a line) (f.entry ++ before)
        (All-append (λ (line : Term). holds a line ≡ true) f.entry before (all_pass (λ (line : Term). holds a line) f.entry here.0)
        (all_left (λ (line : Term). holds a line ≡ true) before (same_byte c ∷ []) (all_pass (λ (line : Term). holds a line) (with_memory c before) here.1)))

    pub same_there : all_hold (same_byte c ∷ []) at (Running g m x []) (Running k n y []) ≡ true
    same_there = pass_all (λ (line : Term). holds a line) (same_byte c ∷ [])
        (all_right (λ (line : Term). holds a line ≡ true) before (same_byte c ∷ []) (all_pass (λ (line : Term). holds a line) (with_memory c before) here.1))

    pub sorted_there : IsAssignment a
    sorted_there = joined-sort at x y (values-sort (Running g m x []) fine_x.kept.sorted) (values-sort (Running k n y []) fine_y.kept.sorted)

  pub opened_there : (at : ℕ) → IsOpened (at_cut c) at (Running g m x []) (Running k n y [])
  opened_there at = (cuts_open c f convention).opened (Running g m x []) (Running k n y []) refl refl (λ q. same_there q) fine_x fine_y at

  pub fixed_there : (q : ℕ) → has_byte (y source_memory) q (c.fixed q) ≡ true
  unfolding after
  fixed_there = holds_fixed c.fixed convention.fixed_below (y source_memory)
      (λ q. (and_parts (holds_byte (bounded c.fixed) source_memory q (Running k n y [])) (all_hold (source_zone c) q Failed (Running k n y [])) (fine_y.held 0 q)).0)

  -- ---- the callee's entry

  module _ (calls : CallPair) (callee : Callee) (is : IsCallPair calls)
      (valid : IsTrueWith c (entry_term c f calls callee before)) (at : ℕ) where
    abbrev now : Assignment
    now = joined at x y

    binary_begun : (v : Variable) → is_binary v.family ≡ true → values_of now (binary_begins calls (at_cut c)) v ≡ begun_binary calls x v
    binary_begun v mine = either_value now (is_entry v.family) ((at_cut c).binary v) (entered_terms calls.binary_inputs (at_cut c).binary v) (x v) (entered calls.binary_inputs x v)
        ((opened_there at).binary v mine)
        (entered-value now is_binary (at_cut c).binary x (opened_there at).binary calls.binary_inputs is.binary v mine)

    source_begun : (v : Variable) → is_source v.family ≡ true → values_of now (source_begins calls (at_cut c)) v ≡ entered calls.source_inputs y v
    source_begun v mine = entered-value now is_source (at_cut c).source y (opened_there at).source calls.source_inputs is.source v mine

    premises_hold : All (IsTrue now) (call_premises c f before)
    premises_hold = start_lines at x y (at_cut c) (start_values at x y (at_cut c) (opened_there at).binary (opened_there at).source) (f.entry ++ before) (lines_hold at)

    goal_holds : IsTrue now (begins_well c calls callee (at_cut c))
    goal_holds = from_under now (call_premises c f before) (begins_well c calls callee (at_cut c)) (valid now (sorted_there at) fixed_there) premises_hold

    begun : list_all (λ (line : Term). holds (begun_at calls at x y) line) (with_memory c (callee_lines c callee)) ≡ true
    begun =
        let terms = terms_at (binary_begins calls (at_cut c)) (source_begins calls (at_cut c)) in
        let later = point_values at x y (binary_begins calls (at_cut c)) (source_begins calls (at_cut c)) (begun_binary calls x) (entered calls.source_inputs y) binary_begun source_begun in
        let each = all_mapped (IsTrue now) (substituted terms) (with_memory c (callee_lines c callee))
        (all_true now (map (substituted terms) (with_memory c (callee_lines c callee))) goal_holds) in
        pass_all (λ (line : Term). holds (begun_at calls at x y) line) (with_memory c (callee_lines c callee))
        (All-weaker (λ (line : Term). IsTrue now (substituted terms line)) (λ (line : Term). holds (begun_at calls at x y) line ≡ true)
        (λ line h. sym (ap is_truth (value-substituted now terms line) ∙ ap (λ (b : Assignment). is_truth (value b line)) later) ∙ h)
        (with_memory c (callee_lines c callee)) each)

pub callees_begin_well : (c : Convention) (f : Frame) (calls : CallPair) (callee : Callee) (before : List Term)
    (g m k n : ℕ) (x y : Assignment) → IsConvention c → IsCallPair calls → IsTrueWith c (entry_term c f calls callee before)
    → IsRelated (both (all_hold f.entry) (relation c before)) (Running g m x []) (Running k n y [])
    → IsBinaryFine c f (Running g m x []) → IsSourceFine c f (Running k n y []) → BeginsWell c calls callee x y
callees_begin_well c f calls callee before g m k n x y convention is valid related fine_x fine_y =
    begun c convention f before g m k n x y related fine_x fine_y calls callee is valid
