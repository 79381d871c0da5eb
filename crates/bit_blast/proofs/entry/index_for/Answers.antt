use Rattle.std.proofs.Common.{sym, subst}
use Rattle.term_bank.specs.Nodes.{build}
use Rattle.bit_blast_spec.specs.Gates.{Build}
use Rattle.bit_blast_spec.specs.Goal.{Table}
use Rattle.bit_blast.specs.Steps.{finish}
use Rattle.bit_blast.proofs.Visits.{once_there}
use Rattle.bit_blast_circuits.specs.Built.{IsBuilt}
use Rattle.bit_blast_circuits.proofs.Built.{give_gives}
use Rattle.bit_blast.specs.Terms.{terms_in}
use Rattle.bit_blast.proofs.Tables.{there_at}
use Rattle.bit_blast.proofs.entry.index_for.Goals as goal

pub returns-in-Some-clause-gives : goal.returns-in-Some-clause-gives
returns-in-Some-clause-gives c =
    let term = build (terms_in c.args.table.now) c.args.node in
    subst (λ (made : Build Table). IsBuilt made c.args.gates.now c.args.table.now c.args.gates.now)
    (sym (once_there term c.args.table.now (finish term c.args.table.now) (there_at c.args.table.now term c.in-Some.index c.in-Some.ensures.found)))
    (give_gives c.args.table.now c.args.gates.now)
