use Rattle.std.proofs.Common.{arith, sym}
use Rattle.cert_text_parse.proofs.Goings.{none_expected, some_expected}
use Rattle.cert_text_parse.proofs.terms.Going.expected.Goals as goal

pub returns-in-Argument : goal.returns-in-Argument
returns-in-Argument c = none_expected c.args.self (sym c.in-Argument.is) (omega arith)

pub returns-in-Argument-2 : goal.returns-in-Argument-2
returns-in-Argument-2 c = some_expected c.args.self c.saturating_sub.result (sym c.in-Argument-2.is) (omega arith) (omega arith)
