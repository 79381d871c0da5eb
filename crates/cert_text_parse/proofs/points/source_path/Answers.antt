use Rattle.std.proofs.Common.{◌++◌, ◌∷◌, [], ap, sym, ◌∙◌, subst}
use Rattle.cert_text_parse.proofs.Paths.{SourceLeft, source_starts, source_done, source_more, place_shorter}
use Rattle.cert_text_parse.proofs.points.source_path.Goals as goal

pub loop-step-init : goal.loop-step-init
loop-step-init c = source_starts c.args.end c.args.cursor.now.rest.now c.args.path.now.items c.requires

pub returns-then-is_last : goal.returns-then-is_last
returns-then-is_last c = source_done c.args.end c.args.cursor.now.rest.now c.loop-step.path.items c.loop-step.cursor.rest.now c.place_step.new.cursor.rest.now c.in-Ok.step c.loop-step.invariant c.in-Ok.ensures c.if-is_last.true

pub loop-step-smaller : goal.loop-step-smaller
loop-step-smaller c = place_shorter c.args.end c.loop-step.cursor.rest.now c.place_step.new.cursor.rest.now c.in-Ok.step c.in-Ok.ensures

pub loop-step-preserved : goal.loop-step-preserved
loop-step-preserved c =
    subst (λ q. SourceLeft c.args.end c.args.cursor.now.rest.now q c.place_step.new.cursor.rest.now) (sym (c.in_ok-push.ensures.items ∙ ap (λ n. c.loop-step.path.items ++ n ∷ []) c.number_of.ensures))
    (source_more c.args.end c.args.cursor.now.rest.now c.loop-step.path.items c.loop-step.cursor.rest.now c.place_step.new.cursor.rest.now c.in-Ok.step c.loop-step.invariant c.in-Ok.ensures c.if-is_last.false)
