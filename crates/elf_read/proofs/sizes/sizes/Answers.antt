use Rattle.std.proofs.Common.{◌-◌, ◌∙◌, max, unwrap_or, get_or, ap, arith}
use Rattle.elf_read.proofs.SizeSteps.{blank, sized}
use Rattle.elf_read.proofs.sizes.sizes.Goals as goal

pub loop-at-preserved-in_ok-insert : goal.loop-at-preserved-in_ok-insert
loop-at-preserved-in_ok-insert c =
    let updates = c.in_ok-insert.ensures.updates in
    record {
      upto = omega arith;
      sizes = λ entry.
          sized _ _ entry _ blank _ _ c.loop-at-test.true c.loop-at.invariant.upto c.if-symbols-at-eq-STT_FUNC.true
          (c.max.ensures
          ∙ ap (λ n. max (get_or c.args.symbols.now (c.loop-at.at - 1) blank).size n)
          (c.unwrap_or-following.ensures
          ∙ ap (λ o. unwrap_or o 0) (c.copied.ensures ∙ c.get.ensures.value ∙ c.loop-at.invariant.sizes (get_or c.args.symbols.now (c.loop-at.at - 1) blank).value)))
          (c.loop-at.invariant.sizes entry) (updates.0 entry);
    }
