use Rattle.sim_cut.proofs.Over.{call}
use Rattle.sim_cut.proofs.rules.call_law.Goals as goal

pub returns : goal.returns
returns g c = λ f pair landing entry always source_always over kept lands source_lands allowed clear sub.
    call f entry always source_always (g.A.Walks.system c.args.a.now) (g.C.Walks.system c.args.c.now)
    (g.met.A.Walks.is_system c.args.a.now) (g.met.C.Walks.is_system c.args.c.now) over kept pair landing lands source_lands allowed clear sub
