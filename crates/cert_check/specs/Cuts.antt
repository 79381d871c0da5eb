-- The line of a Split, and the nodes of its points.
use Rattle.std.specs.Prelude.{Option, Some, None}
use Rattle.proof_tree_spec.specs.declared.Nodes.{Nodes}
use Rattle.proof_tree_spec.specs.Proofs.{Points}
use Rattle.proof_tree.specs.Proofs.{points_of}
use Rattle.cert_text_parse.specs.declared.lines.Split.{Split}
use Rattle.cert_text_spec.specs.Lines as spec
use Rattle.cert_text_spec.specs.Lines.{Line}
use Rattle.cert_check_frames.specs.declared.listed.Listed.{Listed}
use Rattle.cert_check_jobs.specs.Points.{IsBinaryAt, IsSourceAt}

abbrev pub split_line : Split → Line
split_line s = spec.Split (points_of s.points) s.enter s.step s.relations

-- the nodes of the points on both sides, which are no calls
pub record AreAt (code : Listed) (points : Points) (nodes : Nodes) : Type 0 where
  pub binary : IsBinaryAt code points.binary nodes.binary
  pub source : IsSourceAt code points.source nodes.source

-- the nodes, if each side has one
abbrev pub FindsBoth : Listed → Points → Option Nodes → Type 0
FindsBoth code points (Some nodes) = AreAt code points nodes
FindsBoth code points None = (nodes : Nodes) → AreAt code points nodes → ⊥
