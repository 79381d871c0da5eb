use Rattle.std.specs.List.{AllByRecursion}
use Rattle.term_norm_spec.specs.Normal.{normal}
use Rattle.std.proofs.Common.{◌≡◌}
use Rattle.word_steps_spec.proofs.Left.{AreBools}
use Rattle.word_steps_spec.proofs.Obligations.{after_block, left_sorts, left_normal}
use Rattle.word_steps_spec.proofs.laws.goals_left_are_normal.Goals as goal

pub returns-clause-sorts : goal.returns-clause-sorts
returns-clause-sorts c runs small t t_sort block goals e = after_block runs small t AreBools t_sort block goals (λ s h. left_sorts runs small t s h block.end goals) e

pub returns-clause-normal : goal.returns-clause-normal
returns-clause-normal c runs small t t_sort block goals e =
    after_block runs small t (AllByRecursion (λ u. normal runs u ≡ u)) t_sort block goals (λ s h. left_normal runs small t s block.end goals) e
