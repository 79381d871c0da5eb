use Rattle.std.proofs.Common.{sym, ◌∙◌}
use Rattle.word_steps.specs.Views.{count_of}
use Rattle.word_steps.proofs.Arguing.{index_is_below, fact_index_some, fact_index_not, fact_index_none}
use Rattle.word_steps.proofs.block.Block.fact_index.Goals as goal

pub returns-then-has_fact : goal.returns-then-has_fact
returns-then-has_fact c =
    let at = index_is_below (count_of c.args.self.now) c.args.fact.number c.in-Some.index c.in-Some.ensures in
    fact_index_some c.args.self.now c.args.fact c.in-Some.index at.0 at.1 (sym c.has_fact.ensures ∙ c.if-has_fact.true)

pub returns-else-has_fact : goal.returns-else-has_fact
returns-else-has_fact c =
    let at = index_is_below (count_of c.args.self.now) c.args.fact.number c.in-Some.index c.in-Some.ensures in
    fact_index_not c.args.self.now c.args.fact c.in-Some.index at.0 (sym c.has_fact.ensures ∙ c.if-has_fact.false)

pub returns-in-None : goal.returns-in-None
returns-in-None c =
    fact_index_none c.args.self.now c.args.fact (sym c.in-None.ensures)
