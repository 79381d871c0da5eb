use Rattle.std.proofs.Common.{◌∙◌, sym}
use Rattle.proof_tree.proofs.Ahead.{is_there}
use Rattle.sim_rules.proofs.cut.is_found.Goals as goal

pub returns : goal.returns
returns c =
    let there = is_there c.args.found.now.keys c.args.node in
    (λ is. there.0 (sym c.contains.ensures ∙ is), λ among. c.contains.ensures ∙ there.1 among)
