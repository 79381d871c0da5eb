use Rattle.std.proofs.Common.{◌≡◌, ◌∙◌, length, sym, ap, subst}
use Rattle.path_cond.specs.Merged.{AreIds}
use Rattle.path_cond.specs.United.{ids_of}
use Rattle.path_cond.proofs.Uniting.{found_ids}
use Rattle.path_cond.proofs.unite.unite_at.Goals as goal

pub merged-requires-clause-many : goal.merged-requires-clause-many
merged-requires-clause-many c =
    let is : c.as_slice.result.now ≡ ids_of c.args.states.now c.args.sources.now c.args.number = c.as_slice.ensures.value ∙ c.in_ok-find_ids.ensures in
    c.requires.many ∙ sym (found_ids (length c.args.bank.now) c.args.states.now c.args.number c.args.sources.now c.requires.states).0 ∙ ap length (sym is)

pub merged-requires-clause-terms : goal.merged-requires-clause-terms
merged-requires-clause-terms c =
    let is : c.as_slice.result.now ≡ ids_of c.args.states.now c.args.sources.now c.args.number = c.as_slice.ensures.value ∙ c.in_ok-find_ids.ensures in
    subst (AreIds (length c.args.bank.now)) (sym is) (found_ids (length c.args.bank.now) c.args.states.now c.args.number c.args.sources.now c.requires.states).1
