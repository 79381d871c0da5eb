-- Points, proofs, and how deep they nest.
use Rattle.std.specs.Prelude.{ℕ, suc, max, ◌≤◌, List}
use Rattle.tv_limits.specs.declared.TheConstants.{NESTING_LIMIT}
use Rattle.term_core_spec.specs.Term.{Term}
use Rattle.term_core_spec.specs.Term as term
use Rattle.proof_tree_spec.specs.declared.Counts.{Counts}
use Rattle.proof_tree_spec.specs.declared.Place.{Place}

-- the first node of the instruction at the address, in the code of an inlined call whose path is the addresses of the
-- calls that lead to it
pub record BinaryPoint : Type 0 where
  pub path : List ℕ
  pub address : ℕ

-- a place in the source, in the body of an inlined call whose path is the numbers of the calls that lead to it
pub record SourcePoint : Type 0 where
  pub path : List ℕ
  pub place : Place

-- a point on one of the sides
pub data Point : Type 0 where
  OnBinary : (point : BinaryPoint) → Point
  OnSource : (point : SourcePoint) → Point

-- a point on each side
pub record Points : Type 0 where
  pub binary : BinaryPoint
  pub source : SourcePoint

-- a proof of a frame: the rule at its root, and proofs of the frames that the rule leaves, in the rule's order
pub data Proof : Type 0 where
  -- both sides' walks end; so many logs close what is left
  Leaf : (logs : ℕ) → Proof
  -- where the term holds, and where it doesn't
  Case : (test : Term) → (holds fails : Proof) → Proof
  -- so many arrivals at the point don't come
  Restrict : (point : Point) → (count : ℕ) → (rest : Proof) → Proof
  -- from the start to the cut, and from the cut on
  Split : (points : Points) → (enter step : Counts) → (relation : List Term) → (enters steps : Proof) → Proof
  -- from the start to the calls, and from the landing nodes after them on
  Call : (points : Points) → (counts : Counts) → (before after : List Term) → (enters continues : Proof) → Proof
  -- from the start with a hold at the cut, and from the cut on
  Hold : (points : Points) → (step : Counts) → (relation : List Term) → (starts steps : Proof) → Proof
  -- the binary side alone comes to the hold at these points
  Wait : (points : Points) → Proof

-- ---- nesting: the nodes on a path of a proof, and the operators on a path of a term

unfoldable pub nesting : Proof → ℕ
nesting (Leaf logs) = 1
nesting (Case test holds fails) = suc (max (nesting holds) (nesting fails))
nesting (Restrict point count rest) = suc (nesting rest)
nesting (Split points enter step relation enters steps) = suc (max (nesting enters) (nesting steps))
nesting (Call points counts before after enters continues) = suc (max (nesting enters) (nesting continues))
nesting (Hold points step relation starts steps) = suc (max (nesting starts) (nesting steps))
nesting (Wait points) = 1

unfoldable pub term_nesting : Term → ℕ
term_nesting (term.Leaf atom) = 0
term_nesting (term.Unary operator a) = suc (term_nesting a)
term_nesting (term.Binary operator a b) = suc (max (term_nesting a) (term_nesting b))
term_nesting (term.Ternary operator a b c) = suc (max (term_nesting a) (max (term_nesting b) (term_nesting c)))
term_nesting (term.Quaternary operator a b c d) = suc (max (term_nesting a) (max (term_nesting b) (max (term_nesting c) (term_nesting d))))
term_nesting (term.Octonary a b c d e f g h) =
    suc (max (term_nesting a) (max (term_nesting b) (max (term_nesting c) (max (term_nesting d) (max (term_nesting e) (max (term_nesting f) (max (term_nesting g) (term_nesting h))))))))

-- proofs and terms nest at most so deep
abbrev pub IsNested : Proof → Type 0
IsNested proof = nesting proof ≤ NESTING_LIMIT

abbrev pub IsNestedTerm : Term → Type 0
IsNestedTerm t = term_nesting t ≤ NESTING_LIMIT
