use Rattle.std.proofs.Common.{◌+◌, get_or, refl, sym, subst, arith}
use Rattle.code_reach.proofs.Listed.{IsListed, listed-none, listed-more, listed-all}
use Rattle.code_reach.proofs.listing.words.Goals as goal

pub loop-address-init : goal.loop-address-init
loop-address-init c =
    subst (IsListed c.args.image.now c.args.entry c.args.size c.args.targets.now.keys c.args.addresses.now 0) (sym c.new-words.ensures.items)
    (listed-none c.args.image.now c.args.entry c.args.size c.args.targets.now.keys c.args.addresses.now)

pub loop-address-preserved : goal.loop-address-preserved
loop-address-preserved c =
    subst (IsListed c.args.image.now c.args.entry c.args.size c.args.targets.now.keys c.args.addresses.now (c.loop-address.address-index + 1)) (sym c.in_ok-push.ensures.items)
    (listed-more c.args.image.now c.args.entry c.args.size c.args.targets.now.keys c.args.addresses.now c.loop-address.address-index (get_or c.args.addresses.now c.loop-address.address-index 0)
    c.in-Ok-attempt.field-0 c.loop-address.words.items c.loop-address.invariant (omega arith) refl c.in-Ok-attempt.ensures.word c.in-Ok-attempt.ensures.sound)

pub returns-clause-listed : goal.returns-clause-listed
returns-clause-listed c =
    listed-all c.args.image.now c.args.entry c.args.size c.args.targets.now.keys c.args.addresses.now c.loop-address.address-index c.loop-address.words.items c.loop-address.invariant (omega arith)
