-- The visits of a list that pass a test, as one.
use Rattle.std.proofs.Common.{◌≡◌, ◌∙◌, ℕ, ◌+◌, ◌≤◌, ◌==◌, zero, suc, Bool, true, false, if◌then◌else◌, List, [], ◌∷◌, map, Some, refl, sym, ap, subst, inl, inr, arith}
use Rattle.std.specs.Prelude.{slice_get, nat_le, Contains, get_or}
use Rattle.std.specs.List.{All}
use Rattle.std.proofs.lemmas.Bool.{false≢true, or_left, or_right, and_parts, leb-true, both_ways}
use Rattle.std.proofs.lemmas.List.Elements.{Contains-get_or}
use Rattle.std.proofs.lemmas.Option.{same_Some}
use Rattle.term_core_spec.specs.Substitution.{State as Terms, values_of}
use Rattle.term_core_spec.specs.Value.{Assignment, IsAssignment, Truth, value}
use Rattle.graph_core_spec.specs.declared.Next.{Next}
use Rattle.graph_core_spec.specs.declared.Next.TheVariants as next
use Rattle.graph_core_spec.specs.Graph.{Graph, Graphs}
use Rattle.graph_core_spec.specs.Run.{system_of}
use Rattle.graph_core_spec.specs.TransitionSystem.{after}
use Rattle.graph_core_spec.specs.declared.Mark.{Mark}
use Rattle.visit_walk_spec.specs.Visits.{Walk, Visit, marks, edges, is_full, is_last}
use Rattle.path_cond_spec.specs.Junctions.{junctions}
use Rattle.path_cond_spec.specs.Conditions.{Conditional, conditionals, conditional_of}
use Rattle.path_cond_spec.specs.Passages.{holds}
use Rattle.path_cond_spec.specs.Runs.{IsWalkOver, conditional, start_of, state_at, is_failure, AreEnds, AreCounted}
use Rattle.path_cond_spec.proofs.Edges.{each, contains_head, contains_tail, contains_none, contains_cases}
use Rattle.path_cond_spec.proofs.Merging.{IsTested, some_holds, any-value}
use Rattle.path_cond_spec.proofs.Truths.{IsTruth, truth_is}
use Rattle.path_cond_spec.proofs.Visiting.{meant_at, visited_where}
use Rattle.path_cond_spec.proofs.Ends.{one_of}
use Rattle.sim_rules_spec.specs.Points.{values_in}
use Rattle.sim_rules_spec.specs.Sides.{members, members_from}
use Rattle.sim_rules_spec.proofs.Ends.{IsEnd, one_ending}

-- ---- indices

module _ (test : Visit → Bool) where
  -- the visit at an index of the list, whose first is at `from`, passes the test
  abbrev IsMember : (from : ℕ) → List Visit → ℕ → Type 0
  IsMember from visits i = (k : ℕ) × (v : Visit) × (i ≡ from + k) × (slice_get visits k ≡ Some v) × (test v ≡ true)

  later : (from : ℕ) (v : Visit) (visits : List Visit) (i : ℕ) → IsMember (suc from) visits i → IsMember from (v ∷ visits) i
  later from v visits i m = (suc m.0, m.1, omega (arith, m.2), m.3, m.4)

  member_by : (from : ℕ) (v : Visit) (visits : List Visit) (i : ℕ) (b : Bool) → test v ≡ b
      → (Contains (members_from (suc from) test visits) i → IsMember from (v ∷ visits) i)
      → Contains (if b then from ∷ members_from (suc from) test visits else members_from (suc from) test visits) i → IsMember from (v ∷ visits) i
  member_by from v visits i true e rest c = elim (contains_cases from (members_from (suc from) test visits) i c) [
    | inl same ↦ (0, v, omega (arith, same), refl, e)
    | inr others ↦ rest others
  ]
  member_by from v visits i false e rest c = rest c

  member_at : (from : ℕ) (visits : List Visit) (i : ℕ) → Contains (members_from from test visits) i → IsMember from visits i
  member_at from [] i c = absurd (contains_none i c)
  member_at from (v ∷ visits) i c = member_by from v visits i (test v) refl (λ d. later from v visits i (member_at (suc from) visits i d)) c

  kept : (b : Bool) (from i : ℕ) (rest : List ℕ) → Contains rest i → Contains (if b then from ∷ rest else rest) i
  kept true from i rest c = contains_tail from i rest c
  kept false from i rest c = c

  member_from : (from : ℕ) (visits : List Visit) (k : ℕ) (v : Visit) → slice_get visits k ≡ Some v → test v ≡ true → Contains (members_from from test visits) (from + k)
  member_from from [] k v there h = absurd (cc)
  member_from from (u ∷ visits) zero v there h =
      let is : u ≡ v = same_Some u v there in
      let passes : test u ≡ true = ap test is ∙ h in
      let here : from + 0 ≡ from = omega arith in
      subst (λ (b : Bool). Contains (if b then from ∷ members_from (suc from) test visits else members_from (suc from) test visits) (from + 0)) (sym passes)
      (subst (Contains (from ∷ members_from (suc from) test visits)) (sym here) (contains_head from (members_from (suc from) test visits)))
  member_from from (u ∷ visits) (suc k) v there h =
      let here : suc from + k ≡ from + suc k = omega arith in
      kept (test u) from (from + suc k) (members_from (suc from) test visits)
      (subst (Contains (members_from (suc from) test visits)) here (member_from (suc from) visits k v there h))

  pub in_members : (visits : List Visit) (i : ℕ) (v : Visit) → slice_get visits i ≡ Some v → test v ≡ true → Contains (members test visits) i
  in_members visits i v there h =
      let here : 0 + i ≡ i = omega arith in
      subst (Contains (members_from 0 test visits)) here (member_from 0 visits i v there h)

  pub of_members : (visits : List Visit) (i : ℕ) → Contains (members test visits) i → (v : Visit) × (slice_get visits i ≡ Some v) × (test v ≡ true)
  of_members visits i c =
      let m = member_at 0 visits i c in
      let here : m.0 ≡ i = omega (arith, m.2) in
      (m.1, subst (λ (n : ℕ). slice_get visits n ≡ Some m.1) here m.3, m.4)

-- ---- marks

-- where a mark's count is full, one of the marks is
pub arrived_last : (place : Next) (ms : List Mark) (counts : List ℕ) (index : ℕ) (m : Mark) → slice_get ms index ≡ Some m → 1 ≤ m.count
    → is_full place m (get_or counts index 0) ≡ true → is_last place ms counts ≡ true
arrived_last place [] counts index m there some full = absurd (cc)
arrived_last place (x ∷ ms) [] index m there some full = absurd (none place full)
  where
    none : (p : Next) → is_full p m 0 ≡ true → ⊥
    none (next.At n) e =
        let enough : m.count ≤ 0 = leb-true m.count 0 (and_parts (m.node == n) (nat_le m.count 0) e).1 in
        omega (arith, some, enough)
    none next.Ret e = false≢true e
    none next.Err e = false≢true e
arrived_last place (x ∷ ms) (c ∷ counts) zero m there some full =
    let is : x ≡ m = same_Some x m there in
    or_left (is_full place x c) (is_last place ms counts) (ap (λ (y : Mark). is_full place y c) is ∙ full)
arrived_last place (x ∷ ms) (c ∷ counts) (suc index) m there some full =
    or_right (is_full place x c) (is_last place ms counts) (arrived_last place ms counts index m there some full)

-- ---- several ends as one

module _ (graphs : Graphs) (outermost : ℕ) (g : Graph) (w : Walk) (visits : List Visit) (start : Terms) (a : Assignment)
    (over : IsWalkOver graphs outermost g w visits) (sorted : IsAssignment (values_of a start)) (counted : AreCounted (marks w))
    (end : IsEnd graphs outermost g w visits over (values_of a start)) where
  -- the visits that pass a test at which the walk ends
  module _ (test : Visit → Bool) (ends : (v : Visit) → test v ≡ true → edges w v ≡ []) where
    abbrev as_one : Conditional
    as_one = conditional_of start (conditionals g (junctions w visits) start) (members test visits)

    at : ℕ → Conditional
    at i = conditional g w visits start i

    are_ends : AreEnds w visits (members test visits)
    are_ends = λ k d less.
        let m = of_members test visits (get_or (members test visits) k d) (Contains-get_or (members test visits) k d less) in
        (m.0, m.1, ends m.0 m.2)

    tested : All (IsTested a) (map (conditional g w visits start) (members test visits))
    tested = each (IsTested a) (conditional g w visits start) (members test visits)
        (λ i c. let m = of_members test visits i c in (meant_at graphs outermost g w visits start a over sorted i m.0 m.1).truth)

    truth : IsTruth a as_one.condition
    truth = truth_is a as_one.condition (some_holds a (map (conditional g w visits start) (members test visits)))
        (any-value a (map (conditional g w visits start) (members test visits)) tested)

    -- the condition is true exactly where the run's walk ends at such a visit
    found : holds a as_one.condition ≡ true → test end.visit ≡ true
    found h =
        let some = (one_of graphs outermost g w visits start a over sorted (members test visits) are_ends).found h in
        let m = of_members test visits some.0 some.1 in
        let come = (visited_where graphs outermost g w visits start a over sorted some.0 m.0 m.1).visited some.2 in
        let one = one_ending graphs outermost g w visits over (values_of a start) counted end come.0 m.0 _ come.1 (ends m.0 m.2) in
        ap test (sym one.1) ∙ m.2

    given : test end.visit ≡ true → (holds a as_one.condition ≡ true)
        × (is_failure end.visit.place ≡ false → values_in (after (system_of graphs outermost) end.moment (start_of outermost w start a)) ≡ values_of a as_one.state)
    given h =
        let only = (visited_where graphs outermost g w visits start a over sorted end.index end.visit end.there).only end.moment end.values end.here in
        let one = (one_of graphs outermost g w visits start a over sorted (members test visits) are_ends).given end.index
        (in_members test visits end.index end.visit end.there h) only.0 in (
          one.0,
          λ alive. ap values_in only.1.state ∙ placed end.visit.place alive (values_of a (conditional g w visits start end.index).state) ∙ sym one.1,
        )
      where
        placed : (p : Next) → is_failure p ≡ false → (values : Assignment) → values_in (state_at outermost p values) ≡ values
        placed (next.At n) alive values = refl
        placed next.Ret alive values = refl
        placed next.Err alive values = absurd (both_ways true alive refl)

    pub value_is : value a as_one.condition ≡ Truth (test end.visit)
    value_is = truth ∙ ap Truth (same_test (holds a as_one.condition) (test end.visit) found (λ h. (given h).0))
      where
        same_test : (p q : Bool) → (p ≡ true → q ≡ true) → (q ≡ true → p ≡ true) → p ≡ q
        same_test true q there back = sym (there refl)
        same_test false true there back = back refl
        same_test false false there back = refl

    pub values_are : test end.visit ≡ true → is_failure end.visit.place ≡ false
        → values_in (after (system_of graphs outermost) end.moment (start_of outermost w start a)) ≡ values_of a as_one.state
    values_are h alive = (given h).1 alive
