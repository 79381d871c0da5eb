use Rattle.std.proofs.Common.{◌<◌, ◌≤◌, false, [], length, rules, arith}
use Rattle.tv_core.proofs.Made.{made_more, made_all}
use Rattle.tv_core.proofs.functions.judgements.Goals as goal

pub names-preserved : goal.names-preserved
names-preserved c =
    let below : c.names.i < length c.args.list.now = search rules in
    let many : length c.args.list.now ≤ length c.args.found.now = omega (arith, c.requires.many) in
    made_more c.args.list.now c.args.functions.now c.args.found.now c.names.i (record { ref_ptr = (0, 0); now = [] }) (record { entry = 0; size = 0; stack = 0 }) false
    c.names.made.items c.push.new.self.items c.in-Ok-attempt.field-0 c.names.invariant c.requires.enough many below (search rules) (search rules)

pub returns : goal.returns
returns c =
    let past : length c.args.list.now ≤ c.names.i = search rules in
    let many : length c.args.list.now ≤ length c.args.found.now = omega (arith, c.requires.many) in
    made_all c.args.list.now c.args.functions.now c.args.found.now c.names.i c.names.made.items c.names.invariant c.requires.enough many past
