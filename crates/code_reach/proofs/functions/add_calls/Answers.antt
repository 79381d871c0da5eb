use Rattle.std.proofs.Common.{get_or, refl}
use Rattle.code_reach.specs.Surveys.{CallsFrom}
use Rattle.code_reach.proofs.Growing.{first-none, first-more}
use Rattle.code_reach.proofs.functions.add_calls.Goals as goal

pub loop-address-init : goal.loop-address-init
loop-address-init c = first-none (CallsFrom c.args.image.now c.args.entry c.args.size) c.args.addresses.now c.args.entries.now.keys

pub loop-address-preserved : goal.loop-address-preserved
loop-address-preserved c =
    first-more (CallsFrom c.args.image.now c.args.entry c.args.size) c.args.addresses.now c.loop-address.address-index
    (get_or c.args.addresses.now c.loop-address.address-index 0) refl c.args.entries.now.keys c.loop-address.entries.keys c.add_call.new.entries.keys
    c.loop-address.invariant c.in_ok-add_call.ensures
