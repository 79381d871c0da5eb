use Rattle.std.proofs.Common.{sym, subst}
use Rattle.prove_run.specs.declared.trail.Found.{Found}
use Rattle.prove_run.specs.Written.{AddsLines, part_of}
use Rattle.prove_run.proofs.Adding.{nothing_more}
use Rattle.prove_run.proofs.writing.add_part_if.Goals as goal

pub returns-in-Unproved : goal.returns-in-Unproved
returns-in-Unproved c =
    subst (λ (one : Found). AddsLines c.args.cert.now c.args.cert.now (part_of c.args.function.now one)) (sym c.in-Unproved.is) (nothing_more c.args.cert.now)
