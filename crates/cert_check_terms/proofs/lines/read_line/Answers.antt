use Rattle.proof_tree.specs.Scope.{setting_of}
use Rattle.cert_check_terms.specs.declared.reading.Reading.{Reading}
use Rattle.cert_check_terms.proofs.Remaining.{line_found, line_missing, nothing_read}
use Rattle.cert_check_terms.proofs.lines.read_line.Goals as goal

pub returns-in-Ok-clause-read : goal.returns-in-Ok-clause-read
returns-in-Ok-clause-read c =
    let first : Reading = record { calls = c.new.result; entries = c.new-2.result; arguments = c.new-3.result } in
    line_found (setting_of c.args.setting.now) c.args.path.now c.args.symbols.now c.args.bank.now c.read_symbols.new.bank first c.read_symbols.new.reading c.finish.result
    (nothing_read c.args.bank.now first c.new.ensures.items c.new-2.ensures.items) c.in-Ok.ensures.goes (c.finish.ensures c.read_symbols.new.bank c.in-Ok.ensures.goes.0)

pub returns-clause-read : goal.returns-clause-read
returns-clause-read c =
    let first : Reading = record { calls = c.new.result; entries = c.new-2.result; arguments = c.new-3.result } in
    line_missing (setting_of c.args.setting.now) c.args.path.now c.args.symbols.now c.args.bank.now c.read_symbols.new.bank first c.read_symbols.new.reading c.in-Err.fault
    (nothing_read c.args.bank.now first c.new.ensures.items c.new-2.ensures.items) c.in-Err.ensures.goes
