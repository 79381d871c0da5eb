use Rattle.prove_run.proofs.Searched.{pushed_log}
use Rattle.prove_run.proofs.logs.push_log.Goals as goal

pub returns-2 : goal.returns-2
returns-2 c = λ runs goal number lean. pushed_log runs goal number c.args.logs.now.items c.push.new.self.items c.args.log lean c.in-Ok-attempt.ensures.items
