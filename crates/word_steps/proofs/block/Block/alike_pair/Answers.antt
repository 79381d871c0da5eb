use Rattle.std.proofs.Common.{sym, subst}
use Rattle.word_steps.specs.Views.{count_of}
use Rattle.word_steps.specs.Outcomes.{ArePaired}
use Rattle.word_steps.proofs.Arguing.{index_is_below}
use Rattle.word_steps.proofs.Merged.{no_first}
use Rattle.word_steps.proofs.block.Block.alike_pair.Goals as goal

pub alike_second-requires-clause-first : goal.alike_second-requires-clause-first
alike_second-requires-clause-first c =
    (index_is_below (count_of c.args.self.now) c.args.first c.in-Some.x c.in-Some.ensures).1

pub returns-in-Some : goal.returns-in-Some
returns-in-Some c =
    let at = index_is_below (count_of c.args.self.now) c.args.first c.in-Some.x c.in-Some.ensures in
    subst (λ k. ArePaired c.args.self.now k c.args.second c.alike_second.result) (sym at.0) c.alike_second.ensures

pub returns-in-None : goal.returns-in-None
returns-in-None c =
    no_first c.args.self.now c.args.first c.args.second c.in-None.ensures
