-- The visits at which a walk ends, several as one.
use Rattle.std.proofs.Common.{◌≡◌, ◌∙◌, ℕ, true, List, [], map, Some, sym, ap}
use Rattle.std.specs.Prelude.{slice_get, Contains}
use Rattle.std.specs.List.{All}
use Rattle.std.proofs.lemmas.List.Elements.{All-contains}
use Rattle.term_core_spec.specs.declared.Variable.{Variable}
use Rattle.term_core_spec.specs.Substitution.{State as Terms, values_of}
use Rattle.term_core_spec.specs.Value.{Assignment, IsAssignment, value}
use Rattle.graph_core_spec.specs.Graph.{Graph, Graphs}
use Rattle.graph_core_spec.specs.Run.{is_truth}
use Rattle.visit_walk_spec.specs.Visits.{Walk, Visit, edges}
use Rattle.path_cond_spec.specs.Junctions.{junctions}
use Rattle.path_cond_spec.specs.Conditions.{Conditional, any_of, merged, conditionals, conditional_of}
use Rattle.path_cond_spec.specs.Passages.{holds}
use Rattle.path_cond_spec.specs.Runs.{IsWalkOver, conditional, AreEnds, IsOneOf}
use Rattle.path_cond_spec.proofs.Merging.{IsTested, some_holds, any-value, Gives, merged-value}
use Rattle.path_cond_spec.proofs.Edges.{each, some_of, some_at}
use Rattle.path_cond_spec.proofs.Visiting.{meant_at, one_end}

module _ (graphs : Graphs) (outermost : ℕ) (g : Graph) (w : Walk) (visits : List Visit) (start : Terms) (a : Assignment) (over : IsWalkOver graphs outermost g w visits) (sorted : IsAssignment (values_of a start)) where
  module _ (members : List ℕ) (ends : AreEnds w visits members) where
    abbrev at : ℕ → Conditional
    at i = conditional g w visits start i

    abbrev all : List Conditional
    all = map at members

    end_at : (i : ℕ) → Contains members i → (v : Visit) × (slice_get visits i ≡ Some v) × (edges w v ≡ [])
    end_at i m = All-contains (λ (n : ℕ). (v : Visit) × (slice_get visits n ≡ Some v) × (edges w v ≡ [])) members i ends m

    tested : All (IsTested a) all
    tested = each (IsTested a) at members (λ i m. let end = end_at i m in (meant_at graphs outermost g w visits start a over sorted i end.0 end.1).truth)

    some_is : holds a (any_of all) ≡ some_holds a all
    some_is = ap is_truth (any-value a all tested)

    same : (i j : ℕ) → Contains members i → Contains members j → holds a (at i).condition ≡ true → holds a (at j).condition ≡ true → i ≡ j
    same i j m n h k =
        let u = end_at i m in
        let v = end_at j n in
        one_end graphs outermost g w visits start a over sorted i j u.0 v.0 u.1 v.1 u.2 v.2 h k

    state_is : (i : ℕ) → Contains members i → holds a (at i).condition ≡ true → some_holds a all ≡ true → values_of a (merged start all) ≡ values_of a (at i).state
    state_is i m h some =
        let here : (v : Variable) → value a (merged start all v) ≡ value a ((at i).state v) =
        λ v. merged-value a v (value a ((at i).state v)) start all tested
        (each (Gives a v (value a ((at i).state v))) at members (λ j n k. ap (λ (l : ℕ). value a ((at l).state v)) (same j i n m k h))) some in
        λ x v. here v x

    pub one_of : IsOneOf a at members (conditional_of start (conditionals g (junctions w visits) start) members)
    one_of = record {
      found = λ h. some_of (λ (c : Conditional). holds a c.condition) at members (sym some_is ∙ h);
      given = λ i m h.
          let some : some_holds a all ≡ true = some_at (λ (c : Conditional). holds a c.condition) at members i m h in
          (some_is ∙ some, state_is i m h some);
    }
