use Rattle.std.proofs.Common.{◌≡◌, ℕ, drop, length}
use Rattle.std.specs.Prelude.{nat_eq, ◌||◌}
use Rattle.std.specs.List.{list_any}
use Rattle.graph_inline.specs.Marks.{is_marked}
use Rattle.graph_inline.proofs.marking.mark_each.Given as goal

-- with those that are left, all are marked
abbrev pub invariant-loop-id : goal.invariant-loop-id
invariant-loop-id l = record {
  count : length l.marks ≡ length l.fn.marks;
  marks : (k : ℕ) → (list_any (nat_eq k) (drop l.id-index l.ids) || is_marked l.marks k) ≡ (list_any (nat_eq k) l.ids || is_marked l.fn.marks k);
}
