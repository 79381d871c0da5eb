use Rattle.std.proofs.Common.{◌++◌, rules, sym, ap, ◌∙◌}
use Rattle.std.proofs.lemmas.List.{append-nil}
use Rattle.tv_core.proofs.Naming.{not_listed, is_listed}
use Rattle.tv_core.proofs.listing.push_listed.Goals as goal

pub returns-then-eq : goal.returns-then-eq
returns-then-eq c =
    sym (ap (λ more. c.args.names.now.items ++ more) (not_listed c.args.image.now c.args.name.now (search rules)) ∙ append-nil c.args.names.now.items)

pub returns : goal.returns
returns c = search rules ∙ sym (ap (λ more. c.args.names.now.items ++ more) (is_listed c.args.image.now c.args.name.now (search rules)))
