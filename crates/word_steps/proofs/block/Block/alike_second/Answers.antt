use Rattle.std.proofs.Common.{suc, refl, sym, ap, ◌∙◌}
use Rattle.word_steps.specs.Views.{count_of, sort_in, are_alike_sorts}
use Rattle.word_steps.proofs.Arguing.{index_is_below}
use Rattle.word_steps.proofs.Merged.{index_there, no_second, a_pair, no_pair}
use Rattle.word_steps.proofs.block.Block.alike_second.Goals as goal

pub returns-then-are_alike_sorts : goal.returns-then-are_alike_sorts
returns-then-are_alike_sorts c =
    let at = index_is_below (count_of c.args.self.now) c.args.second c.in-Some.y c.in-Some.ensures in
    a_pair c.args.self.now (suc c.args.first) c.args.second c.args.first c.in-Some.y refl at.0 c.requires.first at.1 (index_there (count_of c.args.self.now) c.args.first c.requires.first) c.in-Some.ensures (ap (λ o. are_alike_sorts o (sort_in c.args.self.now.sorts.items c.in-Some.y)) (sym c.sort.ensures) ∙ ap (are_alike_sorts c.sort.result) (sym c.sort-in-Some.ensures) ∙ sym c.are_alike_sorts.ensures ∙ c.if-are_alike_sorts.true)

pub returns-else-are_alike_sorts : goal.returns-else-are_alike_sorts
returns-else-are_alike_sorts c =
    let at = index_is_below (count_of c.args.self.now) c.args.second c.in-Some.y c.in-Some.ensures in
    no_pair c.args.self.now (suc c.args.first) c.args.second c.args.first c.in-Some.y refl at.0 c.requires.first at.1 (index_there (count_of c.args.self.now) c.args.first c.requires.first) c.in-Some.ensures (ap (λ o. are_alike_sorts o (sort_in c.args.self.now.sorts.items c.in-Some.y)) (sym c.sort.ensures) ∙ ap (are_alike_sorts c.sort.result) (sym c.sort-in-Some.ensures) ∙ sym c.are_alike_sorts.ensures ∙ c.if-are_alike_sorts.false)

pub returns-in-None : goal.returns-in-None
returns-in-None c =
    no_second c.args.self.now (suc c.args.first) c.args.second c.in-None.ensures
