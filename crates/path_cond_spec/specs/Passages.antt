-- When a run passes a visit, by the edges between visits.
use Rattle.std.specs.Prelude.{◌≡◌, ◌≢◌, ℕ, ◌<◌, zero, suc, Bool, true, false, not, List, [], length, Option, Some, None, Contains}
use Rattle.term_core_spec.specs.Term.{Term}
use Rattle.term_core_spec.specs.Value.{Assignment, value}
use Rattle.term_core_spec.specs.Substitution.{State, values_of}
use Rattle.graph_core_spec.specs.declared.Next.{Next}
use Rattle.graph_core_spec.specs.declared.Next.TheVariants as next
use Rattle.graph_core_spec.specs.Graph.{Node, Basic, Cond, Call, Graph}
use Rattle.graph_core_spec.specs.Run.{bound, is_truth}
use Rattle.visit_walk_spec.specs.declared.Branch.{Branch}
use Rattle.visit_walk_spec.specs.declared.Branch.TheVariants.{Only, IfTrue, IfFalse}
use Rattle.visit_walk_spec.specs.declared.Incoming.{Incoming}
use Rattle.path_cond_spec.specs.Junctions.{Junction, junction_at}
use Rattle.path_cond_spec.specs.Conditions.{Conditional, node_of_junction}

-- with these values a run leaves the node by this branch; at a node that is missing it fails
abbrev pub takes : Option Node → Branch → Assignment → Bool
takes None Only values = true
takes None IfTrue values = false
takes None IfFalse values = false
takes (Some (Basic bindings to)) Only values = true
takes (Some (Basic bindings to)) IfTrue values = false
takes (Some (Basic bindings to)) IfFalse values = false
takes (Some (Cond test on_true on_false)) Only values = false
takes (Some (Cond test on_true on_false)) IfTrue values = is_truth (value values test)
takes (Some (Cond test on_true on_false)) IfFalse values = not (is_truth (value values test))
takes (Some (Call callee inputs outputs landing)) branch values = false

-- where a branch of a node leads, if the node has the branch: a call has none
abbrev pub target : Option Node → Branch → Option Next
target None Only = Some next.Err
target None IfTrue = None
target None IfFalse = None
target (Some (Basic bindings to)) Only = Some to
target (Some (Basic bindings to)) IfTrue = None
target (Some (Basic bindings to)) IfFalse = None
target (Some (Cond test on_true on_false)) Only = None
target (Some (Cond test on_true on_false)) IfTrue = Some on_true
target (Some (Cond test on_true on_false)) IfFalse = Some on_false
target (Some (Call callee inputs outputs landing)) branch = None

-- the values after the node
abbrev pub values_after : Option Node → Assignment → Assignment
values_after None values = values
values_after (Some (Basic bindings to)) values = bound bindings values values
values_after (Some (Cond test on_true on_false)) values = values
values_after (Some (Call callee inputs outputs landing)) values = values

abbrev pub IsInto : List Junction → ℕ → Incoming → Type 0
IsInto js j e = Contains (junction_at js j).edges e

-- from a passage of an edge's source, by the edge
pub record Passes (g : Graph) (js : List Junction) (passed : ℕ → Assignment → Type 0) (j : ℕ) (values : Assignment) : Type 0 where
  pub edge : Incoming
  pub before : Assignment
  pub from : passed edge.source before
  pub into : IsInto js j edge
  pub taken : takes (node_of_junction g js edge.source) edge.branch before ≡ true
  pub is : values ≡ values_after (node_of_junction g js edge.source) before

-- after k edges a run that starts with the values `first` at visit 0 is at visit j with these values
unfoldable pub PassesAt : Graph → List Junction → Assignment → ℕ → ℕ → Assignment → Type 0
PassesAt g js first zero j values = (j ≡ 0) × (values ≡ first)
PassesAt g js first (suc k) j values = Passes g js (PassesAt g js first k) j values

-- no edge leads to the first visit, and some edge to each other; an edge comes from an earlier visit, goes where its
-- branch of the node there leads, and is the only one of its source by that branch
pub record AreLinked (g : Graph) (js : List Junction) : Type 0 where
  pub some : 0 < length js
  pub none_first : (junction_at js 0).edges ≡ []
  pub entered : (j : ℕ) → 0 < j → j < length js → (junction_at js j).edges ≢ []
  pub earlier : (j : ℕ) (e : Incoming) → IsInto js j e → e.source < j
  pub leads : (j : ℕ) (e : Incoming) → IsInto js j e → target (node_of_junction g js e.source) e.branch ≡ Some (junction_at js j).place
  pub one_target : (i j : ℕ) (e : Incoming) → IsInto js i e → IsInto js j e → i ≡ j

-- the condition is true
abbrev pub holds : Assignment → Term → Bool
holds a t = is_truth (value a t)

-- a run from the values of the start passes visit j, at whatever moment, exactly where the condition there is true,
-- and then its values are those of the state there
pub record IsExact (g : Graph) (js : List Junction) (start : State) (a : Assignment) (j : ℕ) (c : Conditional) : Type 0 where
  pub passed : holds a c.condition ≡ true → (k : ℕ) × PassesAt g js (values_of a start) k j (values_of a c.state)
  pub only : (k : ℕ) (values : Assignment) → PassesAt g js (values_of a start) k j values
      → (holds a c.condition ≡ true) × (values ≡ values_of a c.state)
