use Rattle.word_steps_spec.specs.Invariant.{RefutesOne}
use Rattle.word_steps_spec.proofs.Obligations.{after_block, left_refuted}
use Rattle.word_steps_spec.proofs.laws.one_left_is_refuted.Goals as goal

pub returns : goal.returns
returns c runs small t t_sort block goals e a refutes =
    after_block runs small t (λ ts. RefutesOne runs ts a) t_sort block goals (λ s h d. left_refuted runs small t s h block.end goals d a refutes) e
