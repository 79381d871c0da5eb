-- A run comes to a visit exactly where the condition there is true, and then it is in the state there.
use Rattle.std.proofs.Common.{◌≡◌, ℕ, ◌<◌, true, List, [], length, Some, subst, inl, inr, arith}
use Rattle.std.specs.Prelude.{slice_get}
use Rattle.std.proofs.lemmas.Bool.{cases_order}
use Rattle.std.proofs.lemmas.List.{length-map}
use Rattle.std.proofs.lemmas.Option.{slice_get_within}
use Rattle.term_core_spec.specs.Substitution.{State as Terms, values_of}
use Rattle.term_core_spec.specs.Value.{Assignment, IsAssignment}
use Rattle.graph_core_spec.specs.Graph.{Graph, Graphs}
use Rattle.visit_walk_spec.specs.Visits.{Walk, Visit, edges}
use Rattle.path_cond_spec.specs.Junctions.{junction_of, junctions}
use Rattle.path_cond_spec.specs.Passages.{PassesAt, holds}
use Rattle.path_cond_spec.specs.Runs.{IsAt, GoesOn, Visits, IsWalkOver, conditional, start_of, IsVisitedWhere, IsListed}
use Rattle.path_cond_spec.proofs.Meaning.{IsMeant, meant}
use Rattle.path_cond_spec.proofs.Links.{linked, once}
use Rattle.path_cond_spec.proofs.Runs.{one_at_a_time, comes, passing}

module _ (graphs : Graphs) (outermost : ℕ) (g : Graph) (w : Walk) (visits : List Visit) (start : Terms) (a : Assignment) (over : IsWalkOver graphs outermost g w visits) (sorted : IsAssignment (values_of a start)) where
  pub meant_at : (j : ℕ) (v : Visit) → slice_get visits j ≡ Some v → IsMeant g (junctions w visits) start a over.valid (linked g w visits over.shape over.are) sorted j (conditional g w visits start j)
  meant_at j v there =
      let long : length (junctions w visits) ≡ length visits = length-map visits (junction_of w visits) in
      let within : j < length visits = slice_get_within visits j v there in
      meant g (junctions w visits) start a over.valid (linked g w visits over.shape over.are) sorted j (omega arith)

  visited_only : (j : ℕ) (v : Visit) → slice_get visits j ≡ Some v → (k : ℕ) (values : Assignment) → Visits graphs outermost w (start_of outermost w start a) k v values
      → (holds a (conditional g w visits start j).condition ≡ true) × IsAt graphs outermost w (start_of outermost w start a) k v (values_of a (conditional g w visits start j).state)
  visited_only j v there k values visit =
      let p = passing graphs outermost g w visits over (values_of a start) k visit.before in
      let come = comes graphs outermost g w visits over (values_of a start) k p.index p.visit p.values p.there p.passes in
      let is : p.visit ≡ v = one_at_a_time graphs outermost w (start_of outermost w start a) k p.visit v p.values values come.here visit.here in
      let index : p.index ≡ j = once w visits over.are p.index j v (subst (λ (x : Visit). slice_get visits p.index ≡ Some x) is p.there) there in
      let passes : PassesAt g (junctions w visits) (values_of a start) k j p.values = subst (λ (i : ℕ). PassesAt g (junctions w visits) (values_of a start) k i p.values) index p.passes in
      let exact = (meant_at j v there).exact.only k p.values passes in (
        exact.0,
        subst (λ (x : Assignment). IsAt graphs outermost w (start_of outermost w start a) k v x) exact.1
            (subst (λ (x : Visit). IsAt graphs outermost w (start_of outermost w start a) k x p.values) is come.here),
      )

  pub visited_where : (j : ℕ) (v : Visit) → slice_get visits j ≡ Some v → IsVisitedWhere graphs outermost w (start_of outermost w start a) a v (conditional g w visits start j)
  visited_where j v there = record {
    visited = λ h.
        let passes = (meant_at j v there).exact.passed h in
        (passes.0, comes graphs outermost g w visits over (values_of a start) passes.0 j v (values_of a (conditional g w visits start j).state) there passes.1);
    only = visited_only j v there;
  }

  pub listed : (k : ℕ) → GoesOn graphs outermost w (start_of outermost w start a) k → IsListed graphs outermost w visits (start_of outermost w start a) k
  listed k on =
      let p = passing graphs outermost g w visits over (values_of a start) k on in
      record {
        visit = p.visit;
        values = p.values;
        index = p.index;
        there = p.there;
        visited = comes graphs outermost g w visits over (values_of a start) k p.index p.visit p.values p.there p.passes;
      }

  -- ---- ends

  -- a run comes to no end after an end
  not_after : (k l : ℕ) (u v : Visit) (x y : Assignment) → k < l → edges w u ≡ [] → Visits graphs outermost w (start_of outermost w start a) k u x
      → Visits graphs outermost w (start_of outermost w start a) l v y → ⊥
  not_after k l u v x y less end p q = q.before k u x less p.here end

  pub one_end : (i j : ℕ) (u v : Visit) → slice_get visits i ≡ Some u → slice_get visits j ≡ Some v → edges w u ≡ [] → edges w v ≡ []
      → holds a (conditional g w visits start i).condition ≡ true → holds a (conditional g w visits start j).condition ≡ true → i ≡ j
  one_end i j u v at_i at_j end_u end_v holds_i holds_j =
      let p = (visited_where i u at_i).visited holds_i in
      let q = (visited_where j v at_j).visited holds_j in
      elim (cases_order p.0 q.0) [
        | inl same ↦
            let is : u ≡ v = one_at_a_time graphs outermost w (start_of outermost w start a) q.0 u v _ _
            (subst (λ (k : ℕ). IsAt graphs outermost w (start_of outermost w start a) k u (values_of a (conditional g w visits start i).state)) same p.1.here) q.1.here in
            once w visits over.are i j v (subst (λ (x : Visit). slice_get visits i ≡ Some x) is at_i) at_j
        | inr apart ↦ elim apart [
          | inl less ↦ absurd (not_after p.0 q.0 u v _ _ less end_u p.1 q.1)
          | inr more ↦ absurd (not_after q.0 p.0 v u _ _ more end_v q.1 p.1)
        ]
      ]
