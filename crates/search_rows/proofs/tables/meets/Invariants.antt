use Rattle.std.proofs.Common.{◌≡◌, drop, nat_eq}
use Rattle.std.specs.List.{list_any}
use Rattle.search_rows.proofs.tables.meets.Given as goal

abbrev pub invariant-loop-line : goal.invariant-loop-line
invariant-loop-line l =
    list_any (λ line. list_any (λ other. nat_eq other line) l.some) (drop l.line-index l.lines)
    ≡ list_any (λ line. list_any (λ other. nat_eq other line) l.some) l.lines
