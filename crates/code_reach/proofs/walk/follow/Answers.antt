use Rattle.std.proofs.Common.{◌≡◌, Some, None, rules}
use Rattle.code_reach_spec.specs.Code.{flow_at}
use Rattle.code_reach.specs.Flows.{flow_seen}
use Rattle.code_reach.proofs.Growing.{leads-some, leads-none, targets-some, targets-none}
use Rattle.code_reach.proofs.walk.follow.Goals as goal

pub returns-in_ok-add_targets-in-Some-clause-reached : goal.returns-in_ok-add_targets-in-Some-clause-reached
returns-in_ok-add_targets-in-Some-clause-reached c =
    let is : flow_at c.args.image.now c.args.entry c.args.address ≡ Some (flow_seen c.args.image.now c.in-Some.flow) = search rules in
    leads-some c.args.image.now c.args.entry c.args.size c.args.address (flow_seen c.args.image.now c.in-Some.flow) is c.args.reached.now.keys
    c.add_flow.new.reached.keys c.in_ok-add_flow-in-Some.ensures

pub returns-in_ok-add_targets-in-Some-clause-targets : goal.returns-in_ok-add_targets-in-Some-clause-targets
returns-in_ok-add_targets-in-Some-clause-targets c =
    let is : flow_at c.args.image.now c.args.entry c.args.address ≡ Some (flow_seen c.args.image.now c.in-Some.flow) = search rules in
    targets-some c.args.image.now c.args.entry c.args.address (flow_seen c.args.image.now c.in-Some.flow) is c.args.targets.now.keys
    c.add_targets.new.targets.keys c.in_ok-add_targets-in-Some.ensures

pub returns-in-None-clause-reached : goal.returns-in-None-clause-reached
returns-in-None-clause-reached c =
    let is : flow_at c.args.image.now c.args.entry c.args.address ≡ None = search rules in
    leads-none c.args.image.now c.args.entry c.args.size c.args.address is c.args.reached.now.keys

pub returns-in-None-clause-targets : goal.returns-in-None-clause-targets
returns-in-None-clause-targets c =
    let is : flow_at c.args.image.now c.args.entry c.args.address ≡ None = search rules in
    targets-none c.args.image.now c.args.entry c.args.address is c.args.targets.now.keys
