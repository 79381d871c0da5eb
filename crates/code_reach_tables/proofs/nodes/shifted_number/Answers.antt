use Rattle.code_reach_tables.proofs.Trees.{shifted-out}
use Rattle.code_reach_tables.proofs.nodes.shifted_number.Goals as goal

pub returns-then-amount-ge32 : goal.returns-then-amount-ge32
returns-then-amount-ge32 c = shifted-out c.args.n c.args.amount c.if-amount-ge32.true
