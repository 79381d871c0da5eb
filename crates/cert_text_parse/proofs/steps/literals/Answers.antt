use Rattle.std.proofs.Common.{refl, ◌∙◌}
use Rattle.std.specs.Option.{option_map}
use Rattle.cert_text_laws.proofs.Steps.{literal_shorter}
use Rattle.cert_text_parse.specs.Views.{literal_of}
use Rattle.cert_text_parse.proofs.Lists.{literals_start, literals_more, literals_done}
use Rattle.cert_text_parse.proofs.steps.literals.Goals as goal

pub loop-next-init : goal.loop-next-init
loop-next-init c = literals_start c.args.cursor.now.rest.now c.args.list.now.items

pub loop-next-smaller : goal.loop-next-smaller
loop-next-smaller c = literal_shorter c.loop-next.cursor.rest.now c.literal.new.cursor.rest.now (option_map literal_of c.in-Ok.next) c.in-Ok.ensures

pub loop-next-preserved : goal.loop-next-preserved
loop-next-preserved c =
    literals_more c.args.cursor.now.rest.now c.args.list.now.items c.loop-next.list.items c.loop-next.cursor.rest.now c.literal.new.cursor.rest.now c.loop-next.invariant
    c.in-Ok.next c.in-Ok.ensures c.in-Some.literal c.in-Some.is c.push.new.self.items c.in_ok-push-in-Some.ensures.items

pub returns-in-None : goal.returns-in-None
returns-in-None c =
    literals_done c.args.cursor.now.rest.now c.args.list.now.items c.loop-next.list.items c.loop-next.cursor.rest.now c.literal.new.cursor.rest.now c.loop-next.invariant
    c.in-Ok.next c.in-Ok.ensures c.in-None.is c.len-before.result c.len.result (c.len-before.ensures ∙ c.args.list.now.ok.0) (c.len.ensures ∙ c.loop-next.list.ok.0)
    c.args.cursor.now c.literal.new.cursor refl refl
