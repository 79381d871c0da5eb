use Rattle.std.proofs.lemmas.Result.{on_ok_weaker}
use Rattle.path_cond.proofs.Banks.{extends_itself}
use Rattle.proof_tree.specs.Proofs.{points_of}
use Rattle.cert_check.proofs.Leaving.{kept_on}
use Rattle.cert_check.proofs.Splitting.{split_nowhere}
use Rattle.cert_check.proofs.Tops.{split_top}
use Rattle.cert_check.proofs.cuts.split.Goals as goal

pub split_at-requires-clause-inside : goal.split_at-requires-clause-inside
split_at-requires-clause-inside c = c.requires.kept.inside

pub returns-in-Some-clause-kept : goal.returns-in-Some-clause-kept
returns-in-Some-clause-kept c =
    on_ok_weaker c.split_at.result
    (λ inside. kept_on c.args.function.now c.args.bank.now c.args.bank.now _ _ c.args.jobs.now.items c.split_at.new.jobs.items c.requires.kept (extends_itself c.args.bank.now) inside)
    c.split_at.ensures.inside

pub returns-in-None-clause-step : goal.returns-in-None-clause-step
returns-in-None-clause-step c = λ fs parts m at is.
    let top = split_top (points_of c.args.line.now.points) c.args.line.now.enter c.args.line.now.step c.args.line.now.relations c.args.jobs.now.items c.requires.next in
    split_nowhere fs parts m at c.args.function.now is c.args.bank.now c.args.jobs.now.items top.0 top.1 (points_of c.args.line.now.points) c.args.line.now.enter c.args.line.now.step
    c.args.line.now.relations top.2 c.in-None.ensures
