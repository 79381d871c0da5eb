use Rattle.std.proofs.Common.{subst}
use Rattle.clause_check_spec.specs.Clause.{Cnf}
use Rattle.sat_search.specs.declared.solution.Found.{Found}
use Rattle.sat_search.specs.Found.{IsFound}
use Rattle.bit_blast_spec.specs.Goal.{cnf_of}
use Rattle.discharge.proofs.Rest.{closes_by_log}
use Rattle.discharge.proofs.seeking.outcome.Goals as goal

pub returns-in-Closed : goal.returns-in-Closed
returns-in-Closed c = λ form limit sorted loads table cnf small plain found.
    let both = subst (λ (x : Cnf). IsFound x limit c.args.found) cnf found in
    let closed = subst (λ (f : Found). IsFound (cnf_of form) limit f) c.in-Closed.is both in
    (closes_by_log form c.in-Closed.log.items plain small closed.0, closed.1)
