use Rattle.std.proofs.Common.{refl}
use Rattle.prove_run.proofs.Adding.{plain_more}
use Rattle.prove_run.proofs.writing.add_line.Goals as goal

pub returns-2 : goal.returns-2
returns-2 c = plain_more c.args.cert.now _ c.args.line c.requires c.in-Ok-attempt.ensures.items refl
