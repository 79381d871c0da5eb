use Rattle.std.proofs.Common.{◌≡◌, Some, sym, rules}
use Rattle.std.specs.Prelude.{IsSome}
use Rattle.elf_read_spec.specs.Image.{size_at}
use Rattle.code_reach.specs.Flows.{callee_at}
use Rattle.code_reach.proofs.Visited.{calls-one}
use Rattle.code_reach.proofs.functions.add_call.Goals as goal

pub returns-in_ok-add : goal.returns-in_ok-add
returns-in_ok-add c =
    let is : callee_at c.args.image.now c.args.entry c.args.size c.args.address ≡ Some c.in-Some.target = sym c.in-Some.ensures in
    let some : IsSome (size_at c.args.image.now c.in-Some.target) = search rules in
    calls-one c.args.image.now c.args.entry c.args.size c.args.address c.in-Some.target is some c.args.entries.now.keys c.add.new.items.keys c.in_ok-add.ensures
