use Rattle.proof_tree_spec.specs.Cuts.{IsFine}
use Rattle.sim_cut.proofs.Soundness.{wait_is_sound}
use Rattle.sim_cut.proofs.rules.wait_law.Goals as goal

pub returns : goal.returns
returns g c = λ f hold always source_always waits.
    wait_is_sound f (IsFine (g.A.Walks.system c.args.a.now) (g.A.Walks.fine c.args.a.now) always)
    (IsFine (g.C.Walks.system c.args.c.now) (g.C.Walks.fine c.args.c.now) source_always) hold waits
