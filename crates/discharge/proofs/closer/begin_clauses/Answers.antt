use Rattle.discharge.proofs.Begun.{opened_new}
use Rattle.discharge.proofs.closer.begin_clauses.Goals as goal

pub returns-in-Ok : goal.returns-in-Ok
returns-in-Ok c = opened_new c.in-Ok.log c.args.cnf c.in-Ok.ensures.cnf c.in-Ok.ensures.added
