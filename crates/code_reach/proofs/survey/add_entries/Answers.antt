use Rattle.std.proofs.Common.{All, IsSome, sym, subst}
use Rattle.std.specs.List.Sorted.{IsStrictlyIncreasing}
use Rattle.elf_read_spec.specs.Image.{size_at}
use Rattle.code_reach_spec.specs.Faults.{IsReachFault}
use Rattle.code_reach.specs.Surveys.{IsOverlap, IsFirstOf}
use Rattle.code_reach.proofs.Reached.{increasing, entries-moved, first-of-reach, found-reach}
use Rattle.code_reach.proofs.survey.add_entries.Goals as goal

pub overlap_fault-overlap-requires-clause-rising : goal.overlap_fault-overlap-requires-clause-rising
overlap_fault-overlap-requires-clause-rising c =
    subst IsStrictlyIncreasing (sym c.as_slice.ensures.keys) (increasing c.sort.new.self.keys c.in_ok-sort.ensures.sorted c.sort.ensures.unique)

pub overlap_fault-overlap-requires-clause-sized : goal.overlap_fault-overlap-requires-clause-sized
overlap_fault-overlap-requires-clause-sized c =
    subst (All (λ other. IsSome (size_at c.args.image.now other))) (sym c.as_slice.ensures.keys)
    ((entries-moved c.args.image.now c.args.entry c.survey.new.entries.keys c.sort.new.self.keys c.in_ok-first.ensures.entries c.sort.ensures.reordered.0).sized)

pub returns-in-Some-clause-fault : goal.returns-in-Some-clause-fault
returns-in-Some-clause-fault c =
    let are = entries-moved c.args.image.now c.args.entry c.survey.new.entries.keys c.sort.new.self.keys c.in_ok-first.ensures.entries c.sort.ensures.reordered.0 in
    let rises = increasing c.sort.new.self.keys c.in_ok-sort.ensures.sorted c.sort.ensures.unique in
    let overlaps = subst (λ l. IsFirstOf (IsOverlap c.args.image.now l) c.overlap_fault-overlap.result) c.as_slice.ensures.keys c.overlap_fault-overlap.ensures in
    subst (IsFirstOf (IsReachFault c.args.image.now c.args.entry)) (sym c.in-Some.ensures)
    (first-of-reach c.args.image.now c.args.entry c.sort.new.self.keys are rises c.in_ok-first.first c.overlap_fault-overlap.result c.in_ok-first.ensures.fault overlaps)

pub returns-in-None-clause-found : goal.returns-in-None-clause-found
returns-in-None-clause-found c =
    let are = entries-moved c.args.image.now c.args.entry c.survey.new.entries.keys c.sort.new.self.keys c.in_ok-first.ensures.entries c.sort.ensures.reordered.0 in
    let rises = increasing c.sort.new.self.keys c.in_ok-sort.ensures.sorted c.sort.ensures.unique in
    let overlaps = subst (λ l. IsFirstOf (IsOverlap c.args.image.now l) c.overlap_fault-overlap.result) c.as_slice.ensures.keys c.overlap_fault-overlap.ensures in
    found-reach c.args.image.now c.args.entry c.sort.new.self.keys are rises
    (subst (IsFirstOf (IsReachFault c.args.image.now c.args.entry)) (sym c.in-None.ensures)
    (first-of-reach c.args.image.now c.args.entry c.sort.new.self.keys are rises c.in_ok-first.first c.overlap_fault-overlap.result c.in_ok-first.ensures.fault overlaps))
