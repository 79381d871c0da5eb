use Rattle.std.proofs.Common.{◌+◌}
use Rattle.code_reach.proofs.Growing.{in-range, out-range, inside-one, inside-outside}
use Rattle.code_reach.proofs.walk.add_next.Goals as goal

pub returns-in_ok-add : goal.returns-in_ok-add
returns-in_ok-add c =
    inside-one c.args.entry c.args.size (c.args.address + 4) (in-range c.args.entry c.args.size (c.args.address + 4) (cc)) c.args.reached.now.keys c.add.new.items.keys
    c.in_ok-add.ensures

pub returns-else-has_next : goal.returns-else-has_next
returns-else-has_next c =
    inside-outside c.args.entry c.args.size (c.args.address + 4) (out-range c.args.entry c.args.size (c.args.address + 4) (cc)) c.args.reached.now.keys
