use Rattle.std.proofs.Common.{sym}
use Rattle.pair_setup.proofs.Added.{some-is}
use Rattle.pair_setup.proofs.Numbering.{number-declared}
use Rattle.pair_setup.proofs.names.function_number.Goals as goal

pub returns-in-Some : goal.returns-in-Some
returns-in-Some c =
    number-declared c.args.unit.now c.args.name.now c.number.result (some-is _ _ (sym c.in-Some.ensures)) c.number.ensures.found c.number.ensures.only
