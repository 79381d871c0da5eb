use Rattle.std.proofs.Common.{◌≡◌, ◌++◌, subst, codes}
use Rattle.std.specs.Prelude.{OnOk}
use Rattle.report_text_spec.specs.Report.{line}
use Rattle.report_text.proofs.reports.push_refused_pair.Goals as goal

pub returns : goal.returns
returns c =
    subst (λ word. OnOk c.push_named.result (c.push_named.new.out.items ≡ c.args.out.now.items ++ line (codes "refused pair " ++ word ++ codes " " ++ c.args.name.now)))
    c.pair_word.ensures c.push_named.ensures
