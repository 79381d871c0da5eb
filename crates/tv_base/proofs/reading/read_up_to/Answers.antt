use Rattle.std.proofs.Common.{rules}
use Rattle.tv_base.proofs.Caused.{on_err}
use Rattle.tv_base.proofs.Taken.{partly_taken}
use Rattle.tv_base.proofs.reading.read_up_to.Goals as goal

pub returns-in_err-count-clause-part : goal.returns-in_err-count-clause-part
returns-in_err-count-clause-part g c =
    on_err c.from_residual-in_err-count.result
    (partly_taken c.args.most _ _ _ _ c.pieces.bytes.items c.pieces.invariant.0 (search rules)
    c.in_err-count.ensures.part)
