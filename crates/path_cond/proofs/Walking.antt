-- The visits in their order.
use Rattle.std.proofs.Common.{◌≡◌, ◌∙◌, ℕ, ◌+◌, ◌<◌, ◌≤◌, List, [], ◌∷◌, ◌++◌, length, get_or, take, Some, None, ap, subst, arith, length-take}
use Rattle.std.specs.Prelude.{slice_get}
use Rattle.std.specs.List.{All}
use Rattle.std.proofs.lemmas.List.{take_more}
use Rattle.std.proofs.lemmas.Option.{slice_get-get_or}
use Rattle.std.proofs.lemmas.List.Elements.{Contains-get_or}
use Rattle.term_core_spec.specs.declared.Variable.{Variable}
use Rattle.term_core_spec.specs.Term.{Term}
use Rattle.term_core_spec.specs.Substitution.{State}
use Rattle.graph_core_spec.specs.declared.Next.TheVariants as next
use Rattle.graph_core_spec.specs.Graph.{Graph}
use Rattle.visit_walk_spec.specs.declared.Incoming.{Incoming}
use Rattle.path_cond_spec.specs.Junctions.{Junction, junction_at}
use Rattle.path_cond_spec.specs.Conditions.{Conditional, united, conditional_next, conditionals}
use Rattle.path_cond_spec.proofs.Growing.{grown-at, length-grown}
use Rattle.path_cond.specs.declared.known.Known.{Known}
use Rattle.path_cond.specs.Table.{AreKnown, AreEarlier, IsNothing}

module _ (g : Graph) (js : List Junction) (start : State) where
  pub count_all : length (conditionals g js start) ≡ length js
  unfolding conditionals
  count_all = length-grown (conditional_next g js start) [] js ∙ (omega arith)

  -- one more
  pub next_one : (i : ℕ) → i < length js
      → take (i + 1) (conditionals g js start) ≡ take i (conditionals g js start) ++ conditional_next g js start (take i (conditionals g js start)) (junction_at js i) ∷ []
  unfolding conditionals
  next_one i less =
      let all : List Conditional = conditionals g js start in
      let count = count_all in
      let made : get_or all i (united start []) ≡ conditional_next g js start (take i all) (junction_at js i) =
      subst (λ (n : ℕ). get_or all n (united start []) ≡ conditional_next g js start (take n all) (junction_at js i)) (omega arith)
      (grown-at (conditional_next g js start) [] js i (united start []) (record { place = next.Err; edges = [] }) less) in
      take_more all i (united start []) (omega arith) ∙ ap (λ (c : Conditional). take i all ++ c ∷ []) made

  pub count_taken : (i : ℕ) → i ≤ length js → length (take i (conditionals g js start)) ≡ i
  count_taken i le = let count = count_all in let taken = length-take i (conditionals g js start) in omega arith

  -- the edges into a visit come from those that were taken
  pub earlier_taken : AreEarlier js → (i : ℕ) → i < length js → All (λ (e : Incoming). e.source < length (take i (conditionals g js start))) (junction_at js i).edges
  earlier_taken earlier i less = λ k d within.
      let count = count_taken i (omega arith) in
      let before = earlier i (get_or (junction_at js i).edges k d) (Contains-get_or (junction_at js i).edges k d within) in
      omega arith

pub at_junction : (js : List Junction) (i : ℕ) → i < length js → slice_get js i ≡ Some (junction_at js i)
at_junction js i less = slice_get-get_or js i (record { place = next.Err; edges = [] }) less

pub known_none : (trees : List Term) (variables : List Variable) (start : State) (g : Graph) (js : List Junction) (known : Known) → IsNothing known → AreKnown trees variables start g js known []
known_none trees variables start g js known none = record {
  conditions = ap length none.0;
  states = ap length none.1;
  leaving = ap length none.2;
  after = ap length none.3;
  each = λ i c there. let bad : None ≡ Some c = there in absurd (cc);
}
