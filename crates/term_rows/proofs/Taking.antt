-- Lines of word steps that are taken.
use Rattle.std.proofs.Common.{List, Option}
use Rattle.std.specs.Prelude.{Result, Ok, Err, OnOk}
use Rattle.term_core_spec.specs.Term.{Term}
use Rattle.attempt.specs.declared.refusal.Refusal.{Refusal}
use Rattle.word_steps_spec.specs.Numbers.{State}
use Rattle.word_steps.specs.declared.block.WordFault.{WordFault}
use Rattle.word_steps.specs.declared.block.Block.{Block}
use Rattle.word_steps.specs.Shows.{IsBlock}
use Rattle.word_steps.specs.Outcomes.{Takes}

-- after a line that is taken a block is in order
pub taken : (next : State → Option State) (old new : List Term) (before after : Block) (result : Result (Unit {0}) (Refusal WordFault))
    → Takes next old new before after result → OnOk result (IsBlock new after)
taken next old new before after (Ok done) h = h.block
taken next old new before after (Err error) h = tt
