use Rattle.std.proofs.Common.{refl}
use Rattle.cert_check_terms.proofs.Stacks.{read_calls}
use Rattle.cert_check_terms.proofs.lines.read_call.Goals as goal

pub returns-in-Ok : goal.returns-in-Ok
returns-in-Ok c = λ trees inside.
    read_calls trees c.args.reading.now.calls.items c.args.call c.args.reading.now.entries.items
    (record { calls = c.push.new.self; entries = c.args.reading.now.entries; arguments = c.args.reading.now.arguments }) inside c.in-Ok.ensures.items refl

pub returns-in-Err : goal.returns-in-Err
returns-in-Err c = λ trees inside. tt
