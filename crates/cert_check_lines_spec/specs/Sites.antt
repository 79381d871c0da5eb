-- The nodes of the points that a certificate's lines name.
use Rattle.std.specs.Prelude.{◌≡◌, ◌≢◌, ℕ, ◌+◌, Bool, true, List, Contains, Option, Some}
use Rattle.memory_spec.specs.Runs.{Run}
use Rattle.graph_core_spec.specs.Graph.{Binding, Call, node_at}
use Rattle.proof_tree_spec.specs.declared.Nodes.{Nodes}
use Rattle.proof_tree_spec.specs.declared.Place.{Place}
use Rattle.proof_tree_spec.specs.Proofs.{BinaryPoint, SourcePoint, Points}
use Rattle.proof_tree_spec.specs.Frames.{Side, Frame}
use Rattle.sim_rules_spec.specs.Points.{Convention}
use Rattle.sim_rules_spec.specs.Rules.{Opening}
use Rattle.sim_rules_spec.specs.Calls.{Callee}

-- ---- bodies

-- the code of a function in the graph of a part: the addresses of the calls that lead to it, outermost first; its first
-- node; and from there, by address, the first node of each instruction and the call node of each that calls
pub record CodeBody : Type 0 where
  pub path : List ℕ
  pub offset : ℕ
  pub first : ℕ → Option ℕ
  pub call : ℕ → Option ℕ

-- the body of a source function there: the numbers of the calls that lead to it, its first node, and from there the node
-- of each place
pub record SourceBody : Type 0 where
  pub path : List ℕ
  pub offset : ℕ
  pub node : Place → Option ℕ

-- what the lines of a part speak of: what holds where both sides have returned, and the zone; what is known at the entry;
-- the fixed bytes; the bodies of the function and of the inlined calls; which graphs of both sides are of functions of one
-- name; and by the number of the source's graph, the functions that have an earlier part
pub record Part : Type 0 where
  pub convention : Convention
  pub entry : Opening
  pub runs : List Run
  pub code : List CodeBody
  pub source : List SourceBody
  pub named_alike : (binary source : ℕ) → Bool
  pub earlier : List (ℕ × Callee)

-- ---- points

-- the first node of the instruction at the point
pub record IsBinaryNode (p : Part) (point : BinaryPoint) (node : ℕ) : Type 0 where
  pub body : CodeBody
  pub is_body : Contains p.code body
  pub path : body.path ≡ point.path
  pub number : ℕ
  pub there : body.first point.address ≡ Some number
  pub node_is : node ≡ body.offset + number

-- its call node
pub record IsBinaryCall (p : Part) (point : BinaryPoint) (node : ℕ) : Type 0 where
  pub body : CodeBody
  pub is_body : Contains p.code body
  pub path : body.path ≡ point.path
  pub number : ℕ
  pub there : body.call point.address ≡ Some number
  pub node_is : node ≡ body.offset + number

pub record IsSourceNode (p : Part) (point : SourcePoint) (node : ℕ) : Type 0 where
  pub body : SourceBody
  pub is_body : Contains p.source body
  pub path : body.path ≡ point.path
  pub number : ℕ
  pub there : body.node point.place ≡ Some number
  pub node_is : node ≡ body.offset + number

-- the node is no call
abbrev pub IsNoCall : Side → ℕ → Type 0
IsNoCall side node = (callee : ℕ) (inputs outputs : List Binding) (landing : ℕ) → node_at side.graphs side.outermost node ≢ Some (Call callee inputs outputs landing)

-- points at which walks may be bounded or cut
abbrev pub IsBinaryPoint : Part → Frame → BinaryPoint → ℕ → Type 0
IsBinaryPoint p f point node = IsBinaryNode p point node × IsNoCall f.binary node

abbrev pub IsSourcePoint : Part → Frame → SourcePoint → ℕ → Type 0
IsSourcePoint p f point node = IsSourceNode p point node × IsNoCall f.source node

abbrev pub ArePoints : Part → Frame → Points → Nodes → Type 0
ArePoints p f points nodes = IsBinaryPoint p f points.binary nodes.binary × IsSourcePoint p f points.source nodes.source

-- ---- calls

-- what the call node of a side binds, its callee and its landing node
pub record Calling : Type 0 where
  pub callee : ℕ
  pub inputs : List Binding
  pub outputs : List Binding
  pub landing : ℕ

abbrev pub IsCallNode : Side → ℕ → Calling → Type 0
IsCallNode side node c = node_at side.graphs side.outermost node ≡ Some (Call c.callee c.inputs c.outputs c.landing)

-- calls on both sides, of functions of one name
pub record ArePaired (p : Part) (f : Frame) (points : Points) (call : Nodes) (binary source : Calling) : Type 0 where
  pub binary_node : IsBinaryCall p points.binary call.binary
  pub source_node : IsSourceNode p points.source call.source
  pub binary_calls : IsCallNode f.binary call.binary binary
  pub source_calls : IsCallNode f.source call.source source
  pub alike : p.named_alike binary.callee source.callee ≡ true
