use Rattle.std.proofs.Common.{Option, subst}
use Rattle.proof_tree.specs.Frames.{frame_of}
use Rattle.sim_calls.specs.declared.sites.Calls.{Calls}
use Rattle.sim_calls.specs.Sites.{AreFound}
use Rattle.proof_rows.proofs.calls.put_calls.Goals as goal

pub put_obligations-requires : goal.put_obligations-requires
put_obligations-requires c =
    let found = subst (λ (o : Option Calls). AreFound (frame_of c.args.setup.now.frame.now) (record { binary = 0; source = 0 }) 1 1 o) c.in-Some.is c.find_calls.ensures in
    record { binary = found.binary.is_site.within; source = found.source.is_site.within }
