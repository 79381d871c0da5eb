use Rattle.std.proofs.Common.{◌∙◌, ◌%◌, ◌^◌, ap, sym, subst}
use Rattle.std.specs.Prelude.{◌==◌}
use Rattle.clause_check_spec.specs.Clause.{holds}
use Rattle.cnf_core.specs.Bits.{valuation}
use Rattle.bit_blast_spec.specs.Circuits.{Bits}
use Rattle.bit_blast_spec.specs.Goal.{bit_of}
use Rattle.bit_blast_laws.specs.Meaning.{number_of}
use Rattle.term_core.specs.Memory.{bytes_of}
use Rattle.bit_blast.specs.declared.loads.LoadIndices.{LoadIndices}
use Rattle.bit_blast.specs.Loads.{AreWithin}
use Rattle.bit_blast.proofs.Loading.{within_filter}
use Rattle.bit_blast.proofs.Valued.{truth_back, word_back, bytes_back}
use Rattle.bit_blast.proofs.back.value_back.Goals as goal

pub memory_back-requires : goal.memory_back-requires
memory_back-requires c =
    subst (AreWithin c.args.table.now) (sym (c.deref.ensures.value ∙ c.in-Ok-attempt.ensures))
    (within_filter c.args.table.now c.is_distinct.ensures (λ (load : LoadIndices). load.memory == c.args.index) c.args.loads.now c.requires.within)

pub returns-in-Truth : goal.returns-in-Truth
returns-in-Truth c = λ short.
    truth_back (valuation c.args.values.now) c.args.table.now c.args.index c.args.variable c.holds.result c.in-Truth.is c.requires.term
    (c.holds.ensures ∙ ap (holds (valuation c.args.values.now)) (c.bit_of.ensures ∙ ap bit_of c.bits.ensures))

pub returns-in-Word : goal.returns-in-Word
returns-in-Word c = λ short.
    word_back (valuation c.args.values.now) c.args.table.now c.args.index c.args.variable c.in-Word.width c.number_of.result c.low_bits.result c.in-Word.is c.requires.term
    (c.number_of.ensures ∙ ap (λ (xs : Bits). number_of (valuation c.args.values.now) xs % 2 ^ 64) c.bits-in-Word.ensures) c.low_bits.ensures

pub returns-in-Ok-attempt-memory : goal.returns-in-Ok-attempt-memory
returns-in-Ok-attempt-memory c = λ short.
    bytes_back (valuation c.args.values.now) c.args.table.now c.is_distinct.ensures c.args.loads.now c.requires.within c.requires.loads c.args.index c.args.variable
    c.deref.result.now (bytes_of c.in-Ok-attempt-memory.field-0) c.requires.below c.in-Memory.is c.requires.term (c.deref.ensures.value ∙ c.in-Ok-attempt.ensures)
    c.in-Ok-attempt-memory.ensures short
