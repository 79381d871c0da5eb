use Rattle.std.proofs.Common.{◌∷◌, [], sym, subst}
use Rattle.term_bank.specs.Nodes.{build}
use Rattle.c_graph_terms.proofs.Banks.{added}
use Rattle.templates.specs.Added.{AreAdded}
use Rattle.templates.proofs.Growth.{one_added}
use Rattle.templates.proofs.adding.add.Goals as goal

pub returns-3 : goal.returns-3
returns-3 c =
    let old = c.args.bank.now in
    let new = c.add.new.self in
    let id = c.in-Ok-attempt.field-0 in
    subst (λ ids. AreAdded old new c.args.ids.now.items ids (build old c.args.node ∷ [])) (sym c.in-Ok-attempt-2.ensures.items)
    (one_added old new c.args.ids.now.items id (build old c.args.node) c.requires.ids
    (added old new id (build old c.args.node) c.add.ensures.extends c.in-Ok-attempt.ensures.within c.in-Ok-attempt.ensures.id))
