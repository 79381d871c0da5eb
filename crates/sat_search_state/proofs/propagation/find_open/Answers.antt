use Rattle.std.proofs.Common.{rules, ◌++◌, ◌∷◌, [], ◌∙◌, take, ap, sym, subst}
use Rattle.std.proofs.lemmas.List.{take_more}
use Rattle.sat_search_state.specs.Visits.{AreFalse, IsSameOrFalse}
use Rattle.sat_search_state.proofs.Turns.{false_more}
use Rattle.sat_search_state.proofs.propagation.find_open.Goals as goal

pub loop-literal-preserved : goal.loop-literal-preserved
loop-literal-preserved c =
    let i = c.loop-literal.literal-index in
    let l = c.literal-item.result in
    let more = take_more c.args.clause.now i l c.loop-literal-test.true ∙ ap (λ m. take i c.args.clause.now ++ m ∷ []) (sym c.literal-item.is) in
    let one : IsSameOrFalse c.args.trail.now c.args.other l = search rules in
    subst (λ clause. AreFalse clause c.args.trail.now c.args.other) (sym more)
    (false_more (take i c.args.clause.now) c.args.trail.now c.args.other l c.loop-literal.invariant one)
