use Rattle.std.proofs.Common.{◌-◌, length, sym}
use Rattle.clause_check.proofs.Indices.{named_at}
use Rattle.clause_check.proofs.hints.found_at.Goals as goal

pub found_in-requires : goal.found_in-requires
found_in-requires c =
    named_at (length c.args.stamps.now) c.args.clauses.now.clauses (c.args.number - 1) c.in-Some.clause.now c.requires (sym c.in-Some.ensures)
