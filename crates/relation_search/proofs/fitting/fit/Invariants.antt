use Rattle.std.proofs.Common.{◌≡◌, length}
use Rattle.relation_search.proofs.Narrowing.{AreAlike, IsNarrowed}
use Rattle.relation_search.proofs.fitting.fit.Given as goal

abbrev pub invariant-rounds : goal.invariant-rounds
invariant-rounds g l = record {
  narrowed : IsNarrowed (g.J.Judge.refutes l.fn.judge) l.count l.lines.items;
  left : g.J.Judge.left l.judge ≡ l.lines.items;
  limits : g.J.Judge.limits l.judge ≡ 0;
  alike : AreAlike (g.J.Judge.refutes l.fn.judge) (g.J.Judge.refutes l.judge);
}

abbrev pub decreases-rounds : goal.decreases-rounds
decreases-rounds g l = length l.lines.items
