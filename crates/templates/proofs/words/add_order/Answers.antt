use Rattle.std.proofs.Common.{[], ◌∷◌}
use Rattle.templates_spec.specs.Templates.{at_most}
use Rattle.templates.specs.Viewed.{value_of}
use Rattle.templates.proofs.Growth.{added_then, pushed_one}
use Rattle.templates.proofs.words.add_order.Goals as goal

pub returns-5 : goal.returns-5
returns-5 c =
    let old = c.args.bank.now in
    let between = c.at_most.new.bank in
    let new = c.at_most-2.new.bank in
    let i = value_of c.args.i in
    let n = value_of c.args.n in
    let before = c.args.ids.now.items in
    let ids = c.push.new.self.items in
    let after = c.push-2.new.self.items in
    let one = pushed_one old between before ids c.in-Ok-attempt.field-0 (at_most i n) c.requires c.in-Ok-attempt.ensures c.in-Ok-attempt-2.ensures.items in
    added_then old between new before ids after (at_most i n ∷ []) (at_most n i ∷ []) one
    (pushed_one between new ids after c.in-Ok-attempt-other.field-0 (at_most n i) one.within c.in-Ok-attempt-other.ensures c.in-Ok-attempt-3.ensures.items)
