-- The nodes of points in the graphs of a listed function.
use Rattle.std.specs.Prelude.{◌≡◌, ℕ, Bool, true, false, List, [], Option, Some, None, nat_eq}
use Rattle.std.specs.Map.{lookup}
use Rattle.graph_core_spec.specs.Graph.{Binding, Call, node_at}
use Rattle.graph_core.specs.declared.shared.SharedNode.{SharedNode}
use Rattle.graph_core.specs.declared.shared.SharedNode.TheVariants as shared
use Rattle.proof_tree_spec.specs.Proofs.{BinaryPoint, SourcePoint}
use Rattle.proof_tree_spec.specs.Frames.{Side}
use Rattle.proof_tree.specs.Frames.{side_of}
use Rattle.cert_check_lines_spec.specs.Sites.{IsNoCall}
use Rattle.cert_check_lines_spec.specs.Members.{same_place}
use Rattle.cert_check_frames.specs.declared.listed.Listed.{Listed}
use Rattle.cert_check_frames.specs.Listed.{firsts_at, places_at}

abbrev pub is_call : SharedNode → Bool
is_call (shared.Basic bindings next) = false
is_call (shared.Cond test on_true on_false) = false
is_call (shared.Call callee inputs outputs landing) = true

-- the node is a call
pub record IsCallThere (side : Side) (node : ℕ) : Type 0 where
  pub callee : ℕ
  pub inputs : List Binding
  pub outputs : List Binding
  pub landing : ℕ
  pub is : node_at side.graphs side.outermost node ≡ Some (Call callee inputs outputs landing)

-- the node, unless there is none or it is a call
abbrev pub IsUnlessCall : Side → Option ℕ → Option ℕ → Type 0
IsUnlessCall side node (Some n) = (node ≡ Some n) × IsNoCall side n
IsUnlessCall side node None = (n : ℕ) → node ≡ Some n → IsNoCall side n → ⊥

-- a number of which this holds, if there is one
abbrev pub Finds : (ℕ → Type 0) → Option ℕ → Type 0
Finds Is (Some n) = Is n
Finds Is None = (n : ℕ) → Is n → ⊥

-- the node at a point of the function's own body, which is no call
pub record IsBinaryAt (code : Listed) (point : BinaryPoint) (node : ℕ) : Type 0 where
  pub own : point.path ≡ []
  pub there : lookup (nat_eq point.address) (firsts_at code) ≡ Some node
  pub no_call : IsNoCall (side_of code.binary) node

pub record IsSourceAt (code : Listed) (point : SourcePoint) (node : ℕ) : Type 0 where
  pub own : point.path ≡ []
  pub there : lookup (same_place point.place) (places_at code) ≡ Some node
  pub no_call : IsNoCall (side_of code.source) node
