use Rattle.std.proofs.Common.{◌≡◌, ◌∙◌, ◌+◌, ◌++◌, ◌∷◌, [], subst, sym}
use Rattle.code_reach_tables.proofs.Tabled.{IsBegun, one-begun, start-zero, start-other}
use Rattle.code_reach_tables.proofs.straight.Straight.new.Goals as goal
use Rattle.code_reach_tables.proofs.straight.Straight.new.Goals.{then-r-eq0, else-r-eq0}

pub loop-r-preserved : goal.loop-r-preserved
loop-r-preserved c = subst (λ ids. IsBegun c.add.new.nodes.keys ids (c.loop-r.r + 1)) (sym c.in_ok-push.ensures.items)
    (one-begun c.loop-r.nodes.keys c.add.new.nodes.keys c.loop-r.registers.items c.loop-r.r c.in_ok-id.id c.if-r-eq0.node
    (elim c.if-r-eq0.branch [
      | then-r-eq0 w ↦ w.node-is ∙ start-zero c.loop-r.r w.if-r-eq0.true
      | else-r-eq0 w ↦ w.node-is ∙ start-other c.loop-r.r w.if-r-eq0.false
    ]) c.loop-r.invariant c.in_ok-id.ensures)
