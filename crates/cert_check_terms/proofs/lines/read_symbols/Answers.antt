use Rattle.proof_tree.specs.Scope.{setting_of}
use Rattle.cert_check_terms.specs.Views.{reading_of}
use Rattle.cert_check_terms.proofs.Stacks.{extends_on}
use Rattle.cert_check_terms.proofs.Remaining.{one_more, one_fails, all_read}
use Rattle.cert_check_terms.proofs.lines.read_symbols.Goals as goal

pub returns-in-Err-clause-goes : goal.returns-in-Err-clause-goes
returns-in-Err-clause-goes c =
    one_fails (setting_of c.args.setting.now) c.args.path.now c.read_symbol.new.bank (reading_of c.args.bank.now c.args.reading.now)
    (reading_of c.loop-symbol.bank c.loop-symbol.reading) c.args.symbols.now c.loop-symbol.symbol-index _ c.read_symbol.new.reading c.in-Err.fault c.loop-symbol.invariant.left
    c.loop-symbol-test.true c.in-Err.ensures.goes

pub loop-symbol-preserved : goal.loop-symbol-preserved
loop-symbol-preserved c = record {
  extends = extends_on c.args.bank.now c.loop-symbol.bank c.read_symbol.new.bank c.loop-symbol.invariant.extends c.in-Ok.ensures.extends;
  inside = c.in-Ok.ensures.goes.0;
  left = one_more (setting_of c.args.setting.now) c.args.path.now c.read_symbol.new.bank (reading_of c.args.bank.now c.args.reading.now)
      (reading_of c.loop-symbol.bank c.loop-symbol.reading) c.args.symbols.now c.loop-symbol.symbol-index _ c.read_symbol.new.reading c.loop-symbol.invariant.left
      c.loop-symbol-test.true c.in-Ok.ensures.goes;
}

pub returns-clause-goes : goal.returns-clause-goes
returns-clause-goes c =
    all_read (setting_of c.args.setting.now) c.args.path.now c.loop-symbol.bank (reading_of c.args.bank.now c.args.reading.now) c.args.symbols.now c.loop-symbol.symbol-index
    c.loop-symbol.reading c.loop-symbol.invariant.left c.loop-symbol-test.false c.loop-symbol.invariant.inside
