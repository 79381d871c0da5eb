use Rattle.std.proofs.Common.{◌∙◌, IsPermutation, ap, arith, filter, rules, subst}
use Rattle.std.proofs.lemmas.List.{take_all}
use Rattle.std.proofs.lemmas.List.Sorted.{IsNonDecreasingBy-from_sort_by_key}
use Rattle.elf_read.specs.Fixed.{has_fixed_bytes}
use Rattle.elf_read.proofs.FixedOrder.{are_fixed}
use Rattle.elf_read.proofs.fixed.fixed_segments.Goals as goal

pub returns : goal.returns
returns c =
    are_fixed _ _ c.requires
    (subst (λ xs. IsPermutation xs c.sort_unstable_by_key.new.self.items)
    (c.loop-segment.invariant ∙ ap (λ xs. filter has_fixed_bytes xs) (take_all c.loop-segment.segment-index c.args.segments.now (omega arith))) c.sort_unstable_by_key.ensures.permutation)
    (IsNonDecreasingBy-from_sort_by_key (λ s. s.vaddr) _ c.sort_unstable_by_key.ensures.sorted (λ a r q k. search rules))
