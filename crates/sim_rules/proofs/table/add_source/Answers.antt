use Rattle.std.proofs.Common.{arith}
use Rattle.sim_rules.proofs.Gaining.{far, source_added}
use Rattle.sim_rules.proofs.table.add_source.Goals as goal

pub returns-then-to-len : goal.returns-then-to-len
returns-then-to-len c = far c.args.before.now.items c.args.from c.args.to (omega arith)

pub returns-2 : goal.returns-2
returns-2 c = source_added c.args.before.now.items c.args.to c.index_mut.result.now c.push.new.self c.args.from (omega arith) c.index_mut.ensures.value c.in-Ok-attempt.ensures.items
