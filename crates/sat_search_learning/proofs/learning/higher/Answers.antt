use Rattle.std.proofs.Common.{◌≡◌, ◌≤◌, ◌∙◌, refl, sym, subst}
use Rattle.sat_search_spec.specs.declared.Entry.{Entry}
use Rattle.sat_search_spec.specs.Trail.{IsAbsent}
use Rattle.sat_search_spec.proofs.Trails.{some_same}
use Rattle.sat_search_learning.proofs.Learnt.{highest_higher, highest_same, highest_none}
use Rattle.sat_search_learning.proofs.learning.higher.Goals as goal

pub returns-in-None : goal.returns-in-None
returns-in-None c = λ asserting others highest.
    highest_none c.args.trail.now asserting c.args.best.literal c.args.literal others c.args.best.level highest
    (subst (λ l. IsAbsent c.args.trail.now.entries l) c.negation.ensures c.in-None.ensures.nowhere)

pub returns-else-level-best : goal.returns-else-level-best
returns-else-level-best c = λ asserting others highest.
    let at = c.in-Some.ensures.there in
    let entry : at.entry ≡ c.entry-level.result =
    some_same c.args.trail.now.entries c.in-Some.place c.in-Some.place at.entry c.entry-level.result refl at.there c.entry-level.ensures
    in
    highest_same c.args.trail.now asserting c.args.best.literal c.args.literal others c.args.best.level c.in-Some.place at.entry c.requires.once highest at.there
    (at.same ∙ c.negation.ensures) (subst (λ (e : Entry). e.level ≤ c.args.best.level) (sym entry) c.if-level-best.false)
