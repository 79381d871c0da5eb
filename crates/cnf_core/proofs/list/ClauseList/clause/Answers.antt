use Rattle.std.proofs.Common.{◌≡◌, ◌≤◌, ◌<◌, length, Some, ap, sym, ◌∙◌, subst}
use Rattle.std.specs.Prelude.{slice_get, slice_range}
use Rattle.cnf_core.specs.Laid.{start_of}
use Rattle.cnf_core.proofs.Laid.{clause_at, clause_count, inside}
use Rattle.cnf_core.proofs.list.ClauseList.clause.Goals as goal

pub bounds_of-start-requires : goal.bounds_of-start-requires
bounds_of-start-requires c =
    let count = ap (λ n. length n.clauses) (sym c.self.view_is) ∙ clause_count 0 c.self.inside.literals.items c.self.inside.ends.items in
    subst (λ n. c.args.index < n) (count ∙ sym (ap length c.as_slice.ensures.value)) c.requires

pub part_of-requires-clause-rising : goal.part_of-requires-clause-rising
part_of-requires-clause-rising c =
    let start = c.bounds_of-start.ensures.start ∙ ap (λ ends. start_of 0 ends c.args.index) c.as_slice.ensures.value in
    let end = ap (λ ends. slice_get ends c.args.index) (sym c.as_slice.ensures.value) ∙ c.bounds_of-start.ensures.end in
    subst (λ s. s ≤ c.bounds_of-start.result.1) (sym start)
    (inside 0 (length c.self.inside.literals.items) c.self.inside.ends.items c.args.index c.bounds_of-start.result.1 c.self.invariant end).0

pub part_of-requires-clause-inside : goal.part_of-requires-clause-inside
part_of-requires-clause-inside c =
    let end = ap (λ ends. slice_get ends c.args.index) (sym c.as_slice.ensures.value) ∙ c.bounds_of-start.ensures.end in
    subst (λ l. c.bounds_of-start.result.1 ≤ length l) (sym c.as_slice-2.ensures.value)
    (inside 0 (length c.self.inside.literals.items) c.self.inside.ends.items c.args.index c.bounds_of-start.result.1 c.self.invariant end).1

pub returns : goal.returns
returns c =
    let start = c.bounds_of-start.ensures.start ∙ ap (λ ends. start_of 0 ends c.args.index) c.as_slice.ensures.value in
    let end = ap (λ ends. slice_get ends c.args.index) (sym c.as_slice.ensures.value) ∙ c.bounds_of-start.ensures.end in
    let part : c.part_of.result.now ≡ slice_range c.self.inside.literals.items (start_of 0 c.self.inside.ends.items c.args.index) c.bounds_of-start.result.1 =
    c.part_of.ensures ∙ ap (λ l. slice_range l c.bounds_of-start.result.0 c.bounds_of-start.result.1) c.as_slice-2.ensures.value
    ∙ ap (λ s. slice_range c.self.inside.literals.items s c.bounds_of-start.result.1) start
    in
    ap (λ n. slice_get n.clauses c.args.index) (sym c.self.view_is)
    ∙ clause_at 0 c.self.inside.literals.items c.self.inside.ends.items c.args.index c.bounds_of-start.result.1 end
    ∙ ap Some (sym part)
