use Rattle.std.proofs.Common.{sym}
use Rattle.sat_search_spec.proofs.Logs.{closing_refutes}
use Rattle.sat_search.proofs.solution.closed.Goals as goal

pub returns : goal.returns
returns c =
    let trimmed = c.in_ok-trimmed.ensures c.args.cnf.now (sym c.len.ensures) c.requires.closing in
    (closing_refutes c.args.cnf.now c.in_ok-trimmed.trimmed.items trimmed.closing, trimmed.lean c.args.limit c.requires.count)
