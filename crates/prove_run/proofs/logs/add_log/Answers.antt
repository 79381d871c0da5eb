use Rattle.std.proofs.Common.{Ok, subst}
use Rattle.memory_spec.specs.Viewed.{runs_of}
use Rattle.term_bank.specs.Nodes.{tree_at}
use Rattle.discharge.specs.Answers.{Seeks}
use Rattle.discharge.specs.declared.seeking.Sought.{Sought}
use Rattle.tv_limits.specs.declared.TheConstants.{SEARCH_LIMIT}
use Rattle.prove_run.proofs.logs.add_log.Goals as goal

pub returns-in-Ok-Valid-clause-log : goal.returns-in-Ok-Valid-clause-log
returns-in-Ok-Valid-clause-log g c = λ sorted.
    let found = subst (λ (s : Sought). Seeks (runs_of c.args.runs.now) (tree_at c.args.bank.now c.args.goal) SEARCH_LIMIT (Ok s)) c.in-Ok-Valid.field-0-is
    (c.in-Ok-Valid.ensures.seeks sorted) in
    c.push_log.ensures (runs_of c.args.runs.now) (tree_at c.args.bank.now c.args.goal) c.args.number (record { closes = found.0; lean = found.1 })
