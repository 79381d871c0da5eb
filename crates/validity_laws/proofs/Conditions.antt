-- The conditions of visits and the states there are well sorted, and in them the source has one memory.
use Rattle.std.proofs.Common.{◌≡◌, ℕ, Bool, true, false, List, [], ◌∷◌, ◌++◌, map, length, Option, Some, None, refl, sym, subst, inl, inr}
use Rattle.std.specs.Prelude.{All, slice_get}
use Rattle.std.specs.List.{fold}
use Rattle.std.proofs.lemmas.Bool.{cases_lt}
use Rattle.std.proofs.lemmas.List.{get_or_past}
use Rattle.std.proofs.lemmas.List.Elements.{All-nil, All-cons, All-append, All-head, All-tail}
use Rattle.term_core_spec.specs.declared.Sort.TheVariants.{Truth}
use Rattle.term_core_spec.specs.declared.Variable.{Variable}
use Rattle.term_core_spec.specs.Term.{Term, or_term, not_term}
use Rattle.term_core_spec.specs.Substitution.{State, substituted}
use Rattle.graph_core_spec.specs.declared.Next.{Next}
use Rattle.graph_core_spec.specs.declared.Next.TheVariants as next
use Rattle.graph_core_spec.specs.Graph.{Binding, Node, Basic, Cond, Call, Graph}
use Rattle.visit_walk_spec.specs.declared.Branch.{Branch}
use Rattle.visit_walk_spec.specs.declared.Branch.TheVariants.{Only, IfTrue, IfFalse}
use Rattle.visit_walk_spec.specs.declared.Incoming.{Incoming}
use Rattle.visit_walk_spec.specs.Visits.{Visit}
use Rattle.path_cond_spec.specs.Junctions.{Junction, junctions, junction_at}
use Rattle.path_cond_spec.specs.Conditions.{Conditional, any_of, is_common, chosen, merged, united, node_of_place, node_of_junction, assigned, after_node, conditional_at, along, entered_by, conditional_next, conditionals}
use Rattle.sim_rules_spec.specs.Sides.{Way, members, visits_where}
use Rattle.validity_laws.proofs.Good.{IsPlain, IsGood, IsGoodState, IsTest, truth_good, not_good, and_good, or_good, choose_good, either_good, put_good, substituted_good}

-- ---- graphs

-- the terms of a call's outputs are over the callee's variables, of which the same is asked
abbrev pub IsGoodBinding : Binding → Type 0
IsGoodBinding b = IsGood b.term b.variable.sort

abbrev pub IsGoodNode : Node → Type 0
IsGoodNode (Basic bindings to) = All IsGoodBinding bindings
IsGoodNode (Cond test on_true on_false) = IsTest test
IsGoodNode (Call callee inputs outputs landing) = All IsGoodBinding inputs × All IsGoodBinding outputs

abbrev pub IsGoodGraph : Graph → Type 0
IsGoodGraph g = (n : ℕ) (node : Node) → slice_get g.nodes n ≡ Some node → IsGoodNode node

abbrev IsGoodIf : Option Node → Type 0
IsGoodIf None = Unit {0}
IsGoodIf (Some node) = IsGoodNode node

-- ---- conditionals

pub record IsFine (c : Conditional) : Type 0 where
  pub tested : IsTest c.condition
  pub states : IsGoodState c.state

abbrev AreFine : List Conditional → Type 0
AreFine cs = All IsFine cs

any_more : (cs : List Conditional) (t : Term) → IsTest t → AreFine cs → IsTest (fold (λ (u : Term) (d : Conditional). or_term u d.condition) t cs)
any_more [] t h all = h
any_more (d ∷ cs) t h all = any_more cs (or_term t d.condition) (or_good t d.condition h (All-head IsFine d cs all).tested) (All-tail IsFine d cs all)

any_fine : (cs : List Conditional) → AreFine cs → IsTest (any_of cs)
any_fine [] all = truth_good false
any_fine (c ∷ rest) all = any_more rest c.condition (All-head IsFine c rest all).tested (All-tail IsFine c rest all)

chosen_fine : (v : Variable) → IsPlain v → (c : Conditional) (rest : List Conditional) → IsFine c → AreFine rest → IsGood (chosen v c rest) v.sort
unfolding chosen
chosen_fine v plain c [] fine all = fine.states v plain
chosen_fine v plain c (d ∷ rest) fine all =
    choose_good v.sort c.condition (c.state v) (chosen v d rest) fine.tested (fine.states v plain)
    (chosen_fine v plain d rest (All-head IsFine d rest all) (All-tail IsFine d rest all))

merged_fine : (start : State) (cs : List Conditional) → IsGoodState start → AreFine cs → IsGoodState (merged start cs)
unfolding merged
merged_fine start [] good all = good
merged_fine start (c ∷ rest) good all = λ v plain.
    either_good (is_common v (c.state v) rest) v.sort (c.state v) (chosen v c rest) (λ same. (All-head IsFine c rest all).states v plain)
    (chosen_fine v plain c rest (All-head IsFine c rest all) (All-tail IsFine c rest all))

united_fine : (start : State) (cs : List Conditional) → IsGoodState start → AreFine cs → IsFine (united start cs)
united_fine start cs good all = record { tested = any_fine cs all; states = merged_fine start cs good all }

-- ---- edges

pub assigned_good : (bindings : List Binding) (state rest : State) → IsGoodState state → IsGoodState rest → All IsGoodBinding bindings → IsGoodState (assigned bindings state rest)
unfolding assigned
assigned_good [] state rest good others all = others
assigned_good (b ∷ bindings) state rest good others all = λ v plain.
    put_good v b.variable (substituted state b.term) (assigned bindings state rest v)
    (substituted_good state good b.term b.variable.sort (All-head IsGoodBinding b bindings all))
    (assigned_good bindings state rest good others (All-tail IsGoodBinding b bindings all) v plain)

after_fine : (node : Option Node) (branch : Branch) (c : Conditional) → IsGoodIf node → IsFine c → IsFine (after_node node branch c)
after_fine None branch c good fine = record { tested = fine.tested; states = fine.states }
after_fine (Some (Basic bindings to)) branch c good fine = record { tested = fine.tested; states = assigned_good bindings c.state c.state fine.states fine.states good }
after_fine (Some (Cond test on_true on_false)) Only c good fine = record { tested = fine.tested; states = fine.states }
after_fine (Some (Cond test on_true on_false)) IfTrue c good fine = record {
  tested = and_good c.condition (substituted c.state test) fine.tested (substituted_good c.state fine.states test Truth good);
  states = fine.states;
}
after_fine (Some (Cond test on_true on_false)) IfFalse c good fine = record {
  tested = and_good c.condition (not_term (substituted c.state test)) fine.tested
      (not_good (substituted c.state test) (substituted_good c.state fine.states test Truth good));
  states = fine.states;
}
after_fine (Some (Call callee inputs outputs landing)) branch c good fine = record { tested = fine.tested; states = fine.states }

-- ---- visits

module _ (g : Graph) (graph : IsGoodGraph g) (start : State) (good : IsGoodState start) where
  known_fine : (known : List Conditional) (i : ℕ) → AreFine known → IsFine (conditional_at start known i)
  known_fine known i all = elim (cases_lt i (length known)) [
    | inl within ↦ all i (united start []) within
    | inr past ↦ subst IsFine (sym (get_or_past known i (united start []) past)) (united_fine start [] good (All-nil IsFine))
  ]

  place_good : (p : Next) → IsGoodIf (node_of_place g p)
  place_good (next.At n) = by (slice_get g.nodes n) refl
    where
      by : (o : Option Node) → slice_get g.nodes n ≡ o → IsGoodIf o
      by None is = tt
      by (Some node) is = graph n node is
  place_good next.Ret = tt
  place_good next.Err = tt

  edges_fine : (js : List Junction) (known : List Conditional) (edges : List Incoming) → AreFine known → AreFine (map (along g js start known) edges)
  edges_fine js known [] all = All-nil IsFine
  edges_fine js known (e ∷ edges) all =
      All-cons IsFine (along g js start known e) (map (along g js start known) edges)
      (after_fine (node_of_junction g js e.source) e.branch (conditional_at start known e.source) (place_good (junction_at js e.source).place) (known_fine known e.source all))
      (edges_fine js known edges all)

  entered_fine : (cs : List Conditional) → AreFine cs → IsFine (entered_by start cs)
  entered_fine [] all = record { tested = truth_good true; states = good }
  entered_fine (c ∷ rest) all = united_fine start (c ∷ rest) good all

  folded_fine : (js all : List Junction) (known : List Conditional) → AreFine known
      → AreFine (fold (λ (cs : List Conditional) (j : Junction). cs ++ conditional_next g all start cs j ∷ []) known js)
  folded_fine [] all known fine = fine
  folded_fine (j ∷ js) all known fine =
      folded_fine js all (known ++ conditional_next g all start known j ∷ [])
      (All-append IsFine known (conditional_next g all start known j ∷ []) fine
      (All-cons IsFine (conditional_next g all start known j) [] (entered_fine (map (along g all start known) j.edges) (edges_fine all known j.edges fine)) (All-nil IsFine)))

  conditionals_fine : (js : List Junction) → AreFine (conditionals g js start)
  unfolding conditionals
  conditionals_fine js = folded_fine js js [] (All-nil IsFine)

  members_fine : (known : List Conditional) (indices : List ℕ) → AreFine known → AreFine (map (conditional_at start known) indices)
  members_fine known [] all = All-nil IsFine
  members_fine known (i ∷ indices) all = All-cons IsFine (conditional_at start known i) (map (conditional_at start known) indices) (known_fine known i all) (members_fine known indices all)

-- several visits of a side
pub where_fine : (w : Way) → IsGoodGraph w.graph → IsGoodState w.start → (visits : List Visit) (test : Visit → Bool) → IsFine (visits_where w visits test)
where_fine w graph good visits test =
    united_fine w.start (map (conditional_at w.start (conditionals w.graph (junctions w.walk visits) w.start)) (members test visits)) good
    (members_fine w.graph graph w.start good (conditionals w.graph (junctions w.walk visits) w.start) (members test visits) (conditionals_fine w.graph graph w.start good (junctions w.walk visits)))
