use Rattle.std.proofs.Common.{sym}
use Rattle.memory_spec.specs.Viewed.{runs_of}
use Rattle.term_norm_spec.specs.Normal.{normal}
use Rattle.term_bank.specs.Nodes.{tree_at}
use Rattle.discharge_spec.specs.Closing.{closing}
use Rattle.discharge.specs.Closers.{open_of}
use Rattle.discharge.proofs.Sound.{closed_is_true}
use Rattle.discharge.proofs.Rest.{holds_by}
use Rattle.discharge.proofs.Begun.{begun_answers, begun_bounded, begun_counts, refused_answers, refused_counts}
use Rattle.discharge.proofs.closing.close.Goals as goal

pub returns-in-Ok-clause-answers : goal.returns-in-Ok-clause-answers
returns-in-Ok-clause-answers g c =
    begun_answers (runs_of c.args.runs.now) (tree_at c.args.bank.now c.args.goal) (g.L.Steps.left c.args.log.now) c.count.result (open_of c.in-Ok.closer) c.give_steps.result
    (sym c.count.ensures) c.in-Ok.ensures.begins c.give_steps.ensures

pub returns-in-Ok-clause-large : goal.returns-in-Ok-clause-large
returns-in-Ok-clause-large g c =
    begun_counts (runs_of c.args.runs.now) (tree_at c.args.bank.now c.args.goal) (g.L.Steps.left c.args.log.now) (open_of c.in-Ok.closer) c.give_steps.result c.give_steps.ensures

pub returns-in-Ok-clause-holds : goal.returns-in-Ok-clause-holds
returns-in-Ok-clause-holds g c =
    let runs = runs_of c.args.runs.now in
    let tree = tree_at c.args.bank.now c.args.goal in
    let log = g.L.Steps.left c.args.log.now in
    holds_by c.give_steps.result (closing runs tree log) _
    (begun_answers runs tree log c.count.result (open_of c.in-Ok.closer) c.give_steps.result (sym c.count.ensures) c.in-Ok.ensures.begins c.give_steps.ensures)
    (λ closes sorted a fine held. closed_is_true runs c.hold_runs.ensures tree log sorted closes a fine held)

pub returns-in-Err-clause-answers : goal.returns-in-Err-clause-answers
returns-in-Err-clause-answers g c =
    refused_answers (Unit {0}) (runs_of c.args.runs.now) (tree_at c.args.bank.now c.args.goal) (g.L.Steps.left c.args.log.now) c.count.result c.in-Err.error (sym c.count.ensures) c.in-Err.ensures.begins

pub returns-in-Err-clause-large : goal.returns-in-Err-clause-large
returns-in-Err-clause-large g c = refused_counts (Unit {0}) (runs_of c.args.runs.now) (tree_at c.args.bank.now c.args.goal) c.count.result c.in-Err.error c.in-Err.ensures.begins

pub give_steps-requires : goal.give_steps-requires
give_steps-requires g c = begun_bounded (normal (runs_of c.args.runs.now) (tree_at c.args.bank.now c.args.goal)) c.count.result (open_of c.in-Ok.closer) c.in-Ok.ensures.begins.1
