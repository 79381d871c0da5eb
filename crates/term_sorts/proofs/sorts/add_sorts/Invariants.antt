use Rattle.std.proofs.Common.{◌≡◌, length}
use Rattle.term_sorts.specs.Sorts.{HasMoreSorts}
use Rattle.term_sorts.proofs.sorts.add_sorts.Given as goal

-- those so far are the sorts of the terms before this one
abbrev pub invariant-loop-i : goal.invariant-loop-i
invariant-loop-i l = record {
  more : HasMoreSorts l.bank l.fn.sorts.items l.sorts.items;
  all : length l.sorts.items ≡ l.i;
}
