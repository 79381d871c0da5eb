use Rattle.std.proofs.Common.{◌∙◌, sym}
use Rattle.proof_tree.specs.Proofs.{source_point_of}
use Rattle.cert_check_jobs.proofs.Sought.{source_found, inner_path, own_path}
use Rattle.cert_check_jobs.proofs.points.source_node.Goals as goal

pub returns-then-not-is_empty : goal.returns-then-not-is_empty
returns-then-not-is_empty c = λ n at. absurd (inner_path c.args.point.now.path.items _ c.args.point.now.path.ok.0 (sym c.is_empty.ensures ∙ c.if-not-is_empty.true) at.own)

pub returns : goal.returns
returns c =
    source_found c.args.function.now (source_point_of c.args.point.now) c.place_node.result c.unless_call.result
    (own_path c.args.point.now.path.items _ c.args.point.now.path.ok.0 (sym c.is_empty.ensures ∙ c.if-not-is_empty.false)) c.place_node.ensures c.unless_call.ensures
