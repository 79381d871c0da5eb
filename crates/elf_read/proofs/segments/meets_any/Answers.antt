use Rattle.std.proofs.Common.{arith}
use Rattle.elf_read.proofs.Overlaps.{last_of, apart_from_all, unless_apart}
use Rattle.elf_read.proofs.segments.meets_any.Goals as goal

pub are_apart-requires-clause-first : goal.are_apart-requires-clause-first
are_apart-requires-clause-first c =
    (c.requires.by_start.each _ _ (last_of c.args.headers.now _ _ _ _ _ (c.range.ensures.in_range tt) c.in-Some.ensures.steps).entry).inside

pub returns-in-Some-clause-apart : goal.returns-in-Some-clause-apart
returns-in-Some-clause-apart c =
    unless_apart _ c.are_apart.ensures
    (λ apart start place there.
    apart_from_all _ _ _ _ _ _ start place c.requires.by_start (last_of c.args.headers.now _ _ _ _ _ (c.range.ensures.in_range tt) c.in-Some.ensures.steps)
    (omega arith) apart there)
