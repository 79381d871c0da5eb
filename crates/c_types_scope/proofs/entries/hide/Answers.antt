use Rattle.std.proofs.Common.{◌∙◌, ap, arith, set, get_or}
use Rattle.std.specs.Prelude.{reverse}
use Rattle.c_types_scope.specs.Entries.{hide}
use Rattle.c_types_scope.proofs.Ranges.{range-more, range-end}
use Rattle.c_types_scope.proofs.entries.hide.Goals as goal

pub loop-i-preserved : goal.loop-i-preserved
loop-i-preserved g c =
    ap (λ l. set l c.loop-i.i (hide (get_or l c.loop-i.i c.index-entries-i.result))) c.loop-i.invariant
    ∙ range-more c.args.start c.loop-i.i c.args.entries.now c.index-entries-i.result (omega arith) (omega arith)

pub returns : goal.returns
returns g c = ap (λ l. reverse l) c.loop-i.invariant ∙ range-end c.args.start c.loop-i.i c.args.entries.now (omega arith)
