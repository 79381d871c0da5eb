use Rattle.std.proofs.Common.{◌+◌, [], ◌∷◌}
use Rattle.code_reach_spec.specs.Code.{aligned}
use Rattle.code_reach.proofs.Growing.{inside-append}
use Rattle.code_reach.proofs.walk.add_flow.Goals as goal

pub returns-in_ok-add_target-in-Branches : goal.returns-in_ok-add_target-in-Branches
returns-in_ok-add_target-in-Branches c =
    rw c.in-Branches.is (inside-append c.args.entry c.args.size ((c.args.address + 4) ∷ []) (aligned c.in-Branches.target) c.args.reached.now.keys
    c.add_next-in-Branches.new.reached.keys c.add_target.new.reached.keys c.in_ok-add_next-in-Branches.ensures c.in_ok-add_target-in-Branches.ensures)
