use Rattle.std.proofs.Common.{sym, subst}
use Rattle.cert_text_parse.proofs.Paths.{BinaryLeft, binary_starts, binary_done, binary_more, address_shorter}
use Rattle.cert_text_parse.proofs.points.binary_path.Goals as goal

pub loop-step-init : goal.loop-step-init
loop-step-init c = binary_starts c.args.end c.args.cursor.now.rest.now c.args.path.now.items c.requires

pub returns-then-is_last : goal.returns-then-is_last
returns-then-is_last c = binary_done c.args.end c.args.cursor.now.rest.now c.loop-step.path.items c.loop-step.cursor.rest.now c.address_step.new.cursor.rest.now c.in-Ok.step c.loop-step.invariant c.in-Ok.ensures c.if-is_last.true

pub loop-step-smaller : goal.loop-step-smaller
loop-step-smaller c = address_shorter c.args.end c.loop-step.cursor.rest.now c.address_step.new.cursor.rest.now c.in-Ok.step c.in-Ok.ensures

pub loop-step-preserved : goal.loop-step-preserved
loop-step-preserved c =
    subst (λ q. BinaryLeft c.args.end c.args.cursor.now.rest.now q c.address_step.new.cursor.rest.now) (sym c.in_ok-push.ensures.items)
    (binary_more c.args.end c.args.cursor.now.rest.now c.loop-step.path.items c.loop-step.cursor.rest.now c.address_step.new.cursor.rest.now c.in-Ok.step c.loop-step.invariant c.in-Ok.ensures c.if-is_last.false)
