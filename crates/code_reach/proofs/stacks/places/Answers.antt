use Rattle.code_reach.proofs.Deepest.{reached-none}
use Rattle.code_reach.proofs.stacks.places.Goals as goal

pub returns-in-Some : goal.returns-in-Some
returns-in-Some c = reached-none c.args.image.now c.args.entry c.args.size c.in-Some.field-0 c.new.result.keys c.in-Some.ensures c.new.ensures.empty
