use Rattle.std.proofs.Common.{[]}
use Rattle.cert_check_terms.proofs.Stacks.{goes_on}
use Rattle.cert_check_terms.proofs.lines.read_name.Goals as goal

pub returns-clause-goes : goal.returns-clause-goes
returns-clause-goes c =
    goes_on _ [] _ (record { calls = c.clear.new.self; entries = c.read_variable.new.entries; arguments = c.args.reading.now.arguments }) _ c.clear.ensures.items c.read_variable.ensures.next
