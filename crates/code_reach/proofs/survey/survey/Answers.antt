use Rattle.std.proofs.Common.{◌≡◌, ◌+◌, get_or, ap, sym, subst, arith}
use Rattle.code_reach.specs.Growth.{Grows}
use Rattle.code_reach.proofs.Surveyed.{IsSurveyed, surveyed-start, surveyed-next, surveyed-entries, surveyed-first}
use Rattle.code_reach.proofs.survey.survey.Goals as goal

pub loop-next-init : goal.loop-next-init
loop-next-init c =
    surveyed-start c.args.image.now c.args.entry c.add.new.items.keys c.requires.sized
    (subst (λ l. Grows (λ t. t ≡ c.args.entry) l c.add.new.items.keys) c.requires.none_yet c.in_ok-add.ensures)

pub loop-next-preserved : goal.loop-next-preserved
loop-next-preserved c =
    subst (IsSurveyed c.args.image.now c.args.entry (c.loop-next.next + 1) c.visit.new.entries.keys) (sym c.earlier-first.ensures)
    (surveyed-next c.args.image.now c.args.entry c.loop-next.next (get_or c.as_slice.result.now c.loop-next.next 0) c.loop-next.entries.keys c.visit.new.entries.keys
    c.loop-next.first c.in_ok-found.found c.loop-next.invariant (omega arith) (ap (λ l. get_or l c.loop-next.next 0) c.as_slice.ensures.keys)
    c.in_ok-found.ensures.calls c.in_ok-found.ensures.fault)

pub returns-clause-entries : goal.returns-clause-entries
returns-clause-entries c =
    surveyed-entries c.args.image.now c.args.entry c.loop-next.next c.loop-next.entries.keys c.loop-next.first c.loop-next.invariant (omega arith)

pub returns-clause-fault : goal.returns-clause-fault
returns-clause-fault c =
    surveyed-first c.args.image.now c.args.entry c.loop-next.next c.loop-next.entries.keys c.loop-next.first c.loop-next.invariant (omega arith)
