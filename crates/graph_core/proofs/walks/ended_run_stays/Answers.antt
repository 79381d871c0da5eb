use Rattle.graph_core_spec.proofs.Runs.{stays_at_end, no_arrivals}
use Rattle.graph_core.proofs.walks.ended_run_stays.Goals as goal

pub returns-clause-stays : goal.returns-clause-stays
returns-clause-stays g c = λ s k end. stays_at_end (g.W.Walks.system c.args.walks.now) (g.met.W.Walks.is_system c.args.walks.now) s end k

pub returns-clause-nowhere : goal.returns-clause-nowhere
returns-clause-nowhere g c = λ s n k end. no_arrivals (g.W.Walks.system c.args.walks.now) (g.met.W.Walks.is_system c.args.walks.now) n k s end
