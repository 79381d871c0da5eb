use Rattle.std.proofs.Common.{◌∙◌, sym}
use Rattle.proof_tree.proofs.Ahead.{is_there}
use Rattle.proof_tree.proofs.reachable.Reachable.leads_to.Goals as goal

pub returns : goal.returns
returns c =
    let there = is_there c.args.self.now.nodes.keys c.args.node in
    (λ is. there.0 (sym c.contains.ensures ∙ is), λ among. c.contains.ensures ∙ there.1 among)
