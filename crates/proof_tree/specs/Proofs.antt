-- Points and proofs of the code as those that the definitions speak of.
use Rattle.std.specs.Prelude.{Box, List, Vec}
use Rattle.std.specs.Global.{Global}
use Rattle.proof_tree_spec.specs.Proofs as spec
use Rattle.proof_tree.specs.declared.proof.BinaryPoint.{BinaryPoint}
use Rattle.proof_tree.specs.declared.proof.SourcePoint.{SourcePoint}
use Rattle.proof_tree.specs.declared.proof.Point.{Point}
use Rattle.proof_tree.specs.declared.proof.Point.TheVariants.{OnBinary, OnSource}
use Rattle.proof_tree.specs.declared.proof.Points.{Points}
use Rattle.proof_tree.specs.declared.proof.Proof.{Proof}
use Rattle.proof_tree.specs.declared.proof.Proof.TheVariants.{Leaf, Case', Restrict', Split', Call', Hold', Wait}
use Rattle.term_core_spec.specs.Term as tree
use Rattle.term_core.specs.declared.term.Term.{Term}
use Rattle.graph_core.specs.Graphs.{boxed_term}
use Rattle.proof_tree.specs.Frames.{terms_of}

abbrev pub binary_point_of : BinaryPoint → spec.BinaryPoint
binary_point_of p = record { path = p.path.items; address = p.address }

abbrev pub source_point_of : SourcePoint → spec.SourcePoint
source_point_of p = record { path = p.path.items; place = p.place }

abbrev pub point_of : Point → spec.Point
point_of (OnBinary p) = spec.OnBinary (binary_point_of p)
point_of (OnSource p) = spec.OnSource (source_point_of p)

abbrev pub points_of : Points → spec.Points
points_of p = record { binary = binary_point_of p.binary; source = source_point_of p.source }

abbrev pub boxed_points : Box Points Global → spec.Points
boxed_points b = points_of b.value

abbrev pub lines_of : Vec (Box Term Global) Global → List tree.Term
lines_of lines = terms_of lines.items

abbrev pub proof_of : Proof → spec.Proof
proof_of (Leaf logs) = spec.Leaf logs
proof_of (Case' test p a q b) = spec.Case (boxed_term test) (proof_of a) (proof_of b)
proof_of (Restrict' point count p rest) = spec.Restrict (point_of point.value) count (proof_of rest)
proof_of (Split' points enter step relation p a q b) = spec.Split (boxed_points points) enter step (lines_of relation) (proof_of a) (proof_of b)
proof_of (Call' points counts before after p a q b) = spec.Call (boxed_points points) counts (lines_of before) (lines_of after) (proof_of a) (proof_of b)
proof_of (Hold' points step relation p a q b) = spec.Hold (boxed_points points) step (lines_of relation) (proof_of a) (proof_of b)
proof_of (Wait points) = spec.Wait (boxed_points points)
