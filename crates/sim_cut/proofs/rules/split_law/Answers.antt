use Rattle.sim_cut.proofs.Over.{split}
use Rattle.sim_cut.proofs.rules.split_law.Goals as goal

pub returns : goal.returns
returns g c = λ f cut enter step entry always source_always over kept some_enter some_step allowed sub.
    split f entry always source_always (g.A.Walks.system c.args.a.now) (g.C.Walks.system c.args.c.now)
    (g.met.A.Walks.is_system c.args.a.now) (g.met.C.Walks.is_system c.args.c.now) over kept cut enter step some_enter some_step allowed sub
