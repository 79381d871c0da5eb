use Rattle.std.proofs.Common.{◌≡◌, subst}
use Rattle.std.specs.Prelude.{OnOk}
use Rattle.report_text.proofs.ShowTexts.{source_is}
use Rattle.report_text.proofs.showing.push_source.Goals as goal

pub returns : goal.returns
returns c =
    subst (λ text. OnOk c.push_all.result (c.push_all.new.out.items ≡ text))
    (source_is c.args.out.now.items c.args.params c.args.loops c.args.calls c.digits-params.result.now c.digits-loops.result.now c.digits-calls.result.now
    c.digits-params.ensures c.digits-loops.ensures c.digits-calls.ensures)
    c.push_all.ensures
