-- The obligations of each rule, and why a rule has none.
use Rattle.std.specs.Prelude.{◌≡◌, ◌⊎◌, ◌<◌, ℕ, List, [], ◌∷◌, ◌++◌, slice_get, Some}
use Rattle.term_core_spec.specs.Term.{Term}
use Rattle.graph_core_spec.specs.declared.Mark.{Mark}
use Rattle.visit_walk_spec.specs.Shape.{Shape}
use Rattle.visit_walk_spec.specs.Visits.{Walk}
use Rattle.visit_walk_spec.specs.Outcomes.{IsAcyclic, IsCyclicAt, AreTooMany}
use Rattle.proof_tree_spec.specs.Frames.{Side, Hold, Frame}
use Rattle.proof_tree_spec.specs.Scope.{Setting, IsLine}
use Rattle.sim_rules_spec.specs.declared.Side.{Side as Which}
use Rattle.sim_rules_spec.specs.declared.Side.TheVariants.{Binary, Source}
use Rattle.sim_rules_spec.specs.Points.{Convention}
use Rattle.sim_rules_spec.specs.Sides.{binary_way, source_way, IsCutTo}
use Rattle.sim_rules_spec.specs.Calls.{CallPair, Callee, AreOfCall}
use Rattle.sim_rules_spec.specs.Rules.{Opening, restricted, waiting_way, AreOfLeaf, AreOfBinaryRestrict, AreOfSourceRestrict, AreOfWait}

-- a rule of a proof, at nodes in place of points: a cut is that of Split or Hold, in a source body of this path; a
-- call has lines before it and lines where both sides are back, in the body of one path
pub data Rule : Type 0 where
  Leaf : Rule
  Case : (test : Term) → Rule
  RestrictBinary : (bound : Mark) → Rule
  RestrictSource : (bound : Mark) → Rule
  Cut : (path : List ℕ) → (lines : List Term) → Rule
  Call : (calls : CallPair) → (callee : Callee) → (path : List ℕ) → (before later : List Term) → Rule
  Wait : (hold : Hold) → Rule

abbrev pub AreObligations : Convention → Opening → Frame → Rule → List Term → Type 0
AreObligations c o f Leaf terms = AreOfLeaf c o f terms
AreObligations c o f (Case test) terms = terms ≡ []
AreObligations c o f (RestrictBinary bound) terms = AreOfBinaryRestrict o f bound terms
AreObligations c o f (RestrictSource bound) terms = AreOfSourceRestrict o f bound terms
AreObligations c o f (Cut path lines) terms = terms ≡ []
AreObligations c o f (Call calls callee path before later) terms = AreOfCall c f calls callee before later terms
AreObligations c o f (Wait hold) terms = AreOfWait c o f hold terms

-- ---- lines

-- the line at the index is the first that is none in the body of the path
pub record IsNoLine (setting : Setting) (path : List ℕ) (lines : List Term) (index : ℕ) : Type 0 where
  pub line : Term
  pub there : slice_get lines index ≡ Some line
  pub none : IsLine setting path line → ⊥
  pub before : (i : ℕ) (earlier : Term) → i < index → slice_get lines i ≡ Some earlier → IsLine setting path earlier

abbrev pub HasNoLine : Frame → Rule → (index : ℕ) → Type 0
HasNoLine f Leaf index = ⊥
HasNoLine f (Case test) index = IsNoLine f.setting f.start.path (test ∷ []) index
HasNoLine f (RestrictBinary bound) index = ⊥
HasNoLine f (RestrictSource bound) index = ⊥
HasNoLine f (Cut path lines) index = IsNoLine f.setting path lines index
HasNoLine f (Call calls callee path before later) index = IsNoLine f.setting path (before ++ later) index
HasNoLine f (Wait hold) index = ⊥

-- ---- walks

-- the restricted walk of a side
pub record IsRestrictedWalk (side : Side) (w : Walk) (restrict : Shape → Walk) (point : ℕ) : Type 0 where
  pub shape : Shape
  pub cut : IsCutTo side point shape
  pub walk_is : w ≡ restrict shape

abbrev pub IsOfBinary : Opening → Frame → Mark → Walk → Type 0
IsOfBinary o f bound w = IsRestrictedWalk f.binary w (λ shape. (restricted (binary_way f o.binary) shape bound).walk) bound.node

abbrev pub IsOfSource : Opening → Frame → Mark → Walk → Type 0
IsOfSource o f bound w = IsRestrictedWalk f.source w (λ shape. (restricted (source_way f o.source) shape bound).walk) bound.node

-- a walk that has to be acyclic goes round at the node: in a Leaf the binary's, or else the source's
abbrev pub IsCyclicRule : Opening → Frame → Rule → (node : ℕ) → Type 0
IsCyclicRule o f Leaf n =
    IsCyclicAt (binary_way f o.binary).walk n
    ⊎ (IsAcyclic (binary_way f o.binary).walk × IsCyclicAt (source_way f o.source).walk n)
IsCyclicRule o f (Case test) n = ⊥
IsCyclicRule o f (RestrictBinary bound) n = (w : Walk) × IsOfBinary o f bound w × IsCyclicAt w n
IsCyclicRule o f (RestrictSource bound) n = (w : Walk) × IsOfSource o f bound w × IsCyclicAt w n
IsCyclicRule o f (Cut path lines) n = ⊥
IsCyclicRule o f (Call calls callee path before later) n = ⊥
IsCyclicRule o f (Wait hold) n = IsCyclicAt (waiting_way f o.binary hold.nodes.binary).walk n

-- no walk that has to be acyclic is cyclic, and one of the two walks has more visits than the maximum
abbrev pub IsLargeRule : Opening → Frame → (maximum : ℕ) → Rule → (count : ℕ) → Type 0
IsLargeRule o f maximum Leaf n =
    IsAcyclic (binary_way f o.binary).walk × IsAcyclic (source_way f o.source).walk
    × (AreTooMany (binary_way f o.binary).walk maximum n ⊎ AreTooMany (source_way f o.source).walk maximum n)
IsLargeRule o f maximum (Case test) n = ⊥
IsLargeRule o f maximum (RestrictBinary bound) n =
    (w : Walk) × IsOfBinary o f bound w × IsAcyclic w × (AreTooMany w maximum n ⊎ AreTooMany (source_way f o.source).walk maximum n)
IsLargeRule o f maximum (RestrictSource bound) n =
    (w : Walk) × IsOfSource o f bound w × IsAcyclic w × (AreTooMany (binary_way f o.binary).walk maximum n ⊎ AreTooMany w maximum n)
IsLargeRule o f maximum (Cut path lines) n = ⊥
IsLargeRule o f maximum (Call calls callee path before later) n = ⊥
IsLargeRule o f maximum (Wait hold) n =
    let w = (waiting_way f o.binary hold.nodes.binary).walk in
    IsAcyclic w × (AreTooMany w maximum n ⊎ AreTooMany (source_way f o.source).walk maximum n)

-- ---- the same, of a side

-- the walk of this side goes round; that of the source is named where the binary's, if it has to be acyclic, is so
abbrev pub IsCyclicOn : Opening → Frame → Rule → Which → (node : ℕ) → Type 0
IsCyclicOn o f Leaf Binary n = IsCyclicAt (binary_way f o.binary).walk n
IsCyclicOn o f Leaf Source n = IsAcyclic (binary_way f o.binary).walk × IsCyclicAt (source_way f o.source).walk n
IsCyclicOn o f (Case test) side n = ⊥
IsCyclicOn o f (RestrictBinary bound) Binary n = (w : Walk) × IsOfBinary o f bound w × IsCyclicAt w n
IsCyclicOn o f (RestrictBinary bound) Source n = ⊥
IsCyclicOn o f (RestrictSource bound) Binary n = ⊥
IsCyclicOn o f (RestrictSource bound) Source n = (w : Walk) × IsOfSource o f bound w × IsCyclicAt w n
IsCyclicOn o f (Cut path lines) side n = ⊥
IsCyclicOn o f (Call calls callee path before later) side n = ⊥
IsCyclicOn o f (Wait hold) Binary n = IsCyclicAt (waiting_way f o.binary hold.nodes.binary).walk n
IsCyclicOn o f (Wait hold) Source n = ⊥

-- the walk of this side has more visits than the maximum
abbrev pub IsLargeOn : Opening → Frame → (maximum : ℕ) → Rule → Which → (count : ℕ) → Type 0
IsLargeOn o f maximum Leaf Binary n =
    IsAcyclic (binary_way f o.binary).walk × IsAcyclic (source_way f o.source).walk × AreTooMany (binary_way f o.binary).walk maximum n
IsLargeOn o f maximum Leaf Source n =
    IsAcyclic (binary_way f o.binary).walk × IsAcyclic (source_way f o.source).walk × AreTooMany (source_way f o.source).walk maximum n
IsLargeOn o f maximum (Case test) side n = ⊥
IsLargeOn o f maximum (RestrictBinary bound) Binary n = (w : Walk) × IsOfBinary o f bound w × IsAcyclic w × AreTooMany w maximum n
IsLargeOn o f maximum (RestrictBinary bound) Source n =
    (w : Walk) × IsOfBinary o f bound w × IsAcyclic w × AreTooMany (source_way f o.source).walk maximum n
IsLargeOn o f maximum (RestrictSource bound) Binary n =
    (w : Walk) × IsOfSource o f bound w × IsAcyclic w × AreTooMany (binary_way f o.binary).walk maximum n
IsLargeOn o f maximum (RestrictSource bound) Source n = (w : Walk) × IsOfSource o f bound w × IsAcyclic w × AreTooMany w maximum n
IsLargeOn o f maximum (Cut path lines) side n = ⊥
IsLargeOn o f maximum (Call calls callee path before later) side n = ⊥
IsLargeOn o f maximum (Wait hold) Binary n =
    let w = (waiting_way f o.binary hold.nodes.binary).walk in
    IsAcyclic w × AreTooMany w maximum n
IsLargeOn o f maximum (Wait hold) Source n =
    IsAcyclic (waiting_way f o.binary hold.nodes.binary).walk × AreTooMany (source_way f o.source).walk maximum n
