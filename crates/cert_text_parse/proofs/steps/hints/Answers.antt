use Rattle.cert_text_laws.proofs.Steps.{hint_shorter}
use Rattle.cert_text_parse.proofs.Lists.{hints_start, hints_more}
use Rattle.cert_text_parse.proofs.steps.hints.Goals as goal

pub loop-next-init : goal.loop-next-init
loop-next-init c = hints_start c.args.cursor.now.rest.now c.args.list.now.items

pub loop-next-smaller : goal.loop-next-smaller
loop-next-smaller c = hint_shorter c.loop-next.cursor.rest.now c.hint.new.cursor.rest.now c.in-Ok.next c.in-Ok.ensures

pub loop-next-preserved : goal.loop-next-preserved
loop-next-preserved c =
    hints_more c.args.cursor.now.rest.now c.args.list.now.items c.loop-next.list.items c.loop-next.cursor.rest.now c.hint.new.cursor.rest.now c.loop-next.invariant
    c.in-Ok.next c.in-Ok.ensures c.if-next-eq0.false c.push.new.self.items c.in_ok-push.ensures.items
