use Rattle.sim_cut.proofs.Over.{hold}
use Rattle.sim_cut.proofs.rules.hold_law.Goals as goal

pub returns : goal.returns
returns g c = λ f cut step entry always source_always over kept some_step allowed sub.
    hold f entry always source_always (g.A.Walks.system c.args.a.now) (g.C.Walks.system c.args.c.now)
    (g.met.A.Walks.is_system c.args.a.now) (g.met.C.Walks.is_system c.args.c.now) over kept cut step some_step allowed sub
