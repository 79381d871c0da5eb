use Rattle.std.proofs.Common.{◌∙◌, ◌++◌, sym, ap, append-nil}
use Rattle.prove_run.specs.declared.trail.Found.{Found}
use Rattle.prove_run.specs.Trails.{failure_in, failures_of}
use Rattle.prove_run.proofs.trails.add_if.Goals as goal

pub returns-in-Proved : goal.returns-in-Proved
returns-in-Proved c =
    sym (append-nil (failures_of c.args.unproved.now.items))
    ∙ ap (λ (one : Found). failures_of c.args.unproved.now.items ++ failure_in c.args.name.now one) (sym c.in-Proved.is)
