use Rattle.std.proofs.Common.{◌≡◌, ◌∙◌, ap, subst, codes, arith}
use Rattle.std.specs.Prelude.{OnOk, decimal}
use Rattle.report_text.proofs.ShowTexts.{sizes_are}
use Rattle.report_text.proofs.showing.push_sizes.Goals as goal

pub returns : goal.returns
returns c =
    subst (λ text. OnOk c.push_all.result (c.push_all.new.out.items ≡ text))
    (sizes_are c.args.out.now.items (codes " size=") (decimal c.args.size) (codes " stack=") (decimal c.args.stack) c.digits-size.result.now c.digits-stack.result.now
    (c.digits-size.ensures ∙ ap decimal (let same : c.from.result ≡ c.args.size = omega (arith, c.from.ensures) in same)) c.digits-stack.ensures)
    c.push_all.ensures
