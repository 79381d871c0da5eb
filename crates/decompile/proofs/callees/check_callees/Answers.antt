use Rattle.decompile.proofs.callees.check_callees.Goals as goal

pub returns-in-loop-item-clause-refused : goal.returns-in-loop-item-clause-refused
returns-in-loop-item-clause-refused c =
    λ image. record {
      index = c.loop-item.item-index;
      item = c.item-item.result;
      within = c.loop-item-test.true;
      item_is = c.item-item.is;
      unlisted = c.in-Err-attempt.ensures.refused image;
      before = λ k d less. c.loop-item.invariant image k d less;
    }
