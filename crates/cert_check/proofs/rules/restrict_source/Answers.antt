use Rattle.std.proofs.lemmas.Result.{on_ok_weaker}
use Rattle.proof_tree.specs.Proofs.{source_point_of}
use Rattle.cert_check.proofs.Bounding.{source_comes, source_nowhere}
use Rattle.cert_check.proofs.Tops.{source_follows, source_top}
use Rattle.cert_check.proofs.rules.restrict_source.Goals as goal

pub restrict-requires-clause-top : goal.restrict-requires-clause-top
restrict-requires-clause-top c = source_top (source_point_of c.args.line.now.point) c.args.line.now.count c.args.jobs.now.items c.requires.next

pub returns-in-Some-clause-step : goal.returns-in-Some-clause-step
returns-in-Some-clause-step c = λ fs parts m at is.
    source_comes fs parts m at c.args.function.now is c.args.bank.now c.restrict.new.bank c.args.jobs.now.items c.restrict.new.jobs.items (source_point_of c.args.line.now.point) c.in-Some.node
    c.args.line.now.count c.in-Some.ensures c.restrict.result c.restrict.ensures.step

pub returns-in-Some-clause-follows : goal.returns-in-Some-clause-follows
returns-in-Some-clause-follows c =
    on_ok_weaker c.restrict.result (source_follows (source_point_of c.args.line.now.point) c.args.line.now.count c.args.jobs.now.items c.restrict.new.jobs.items) c.restrict.ensures.follows

pub returns-in-None-clause-step : goal.returns-in-None-clause-step
returns-in-None-clause-step c = λ fs parts m at is.
    let top = source_top (source_point_of c.args.line.now.point) c.args.line.now.count c.args.jobs.now.items c.requires.next in
    source_nowhere fs parts m at c.args.function.now is c.args.bank.now c.args.jobs.now.items top.0 top.1 (source_point_of c.args.line.now.point) c.args.line.now.count top.2 c.in-None.ensures
