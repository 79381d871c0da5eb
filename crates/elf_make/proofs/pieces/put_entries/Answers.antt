use Rattle.std.proofs.Common.{arith, []}
use Rattle.elf_read.specs.Values.{symbol_of}
use Rattle.elf_make.specs.Parts.{IsSymbolOfWords}
use Rattle.elf_make.proofs.Steps.{entry_written, entries_done, symbol_fits, all_mapped}
use Rattle.elf_make.proofs.pieces.put_entries.Goals as goal

pub overflow_cast-at : goal.overflow_cast-at
overflow_cast-at c = omega (arith, symbol_fits _ _ _ _ _ (record { name = record { ref_ptr = (0, 0); now = [] }; value = 0; size = 0; kind = 0 }) _ c.loop-symbol-test.true c.loop-symbol.invariant)

pub overflow_add-at-in-loop-symbol : goal.overflow_add-at-in-loop-symbol
overflow_add-at-in-loop-symbol c = omega (arith, symbol_fits _ _ _ _ _ (record { name = record { ref_ptr = (0, 0); now = [] }; value = 0; size = 0; kind = 0 }) _ c.loop-symbol-test.true c.loop-symbol.invariant)

pub overflow_add-at : goal.overflow_add-at
overflow_add-at c = omega (arith, symbol_fits _ _ _ _ _ (record { name = record { ref_ptr = (0, 0); now = [] }; value = 0; size = 0; kind = 0 }) _ c.loop-symbol-test.true c.loop-symbol.invariant)

pub returns-clause-items : goal.returns-clause-items
returns-clause-items c = entries_done _ _ _ _ _ _ c.loop-symbol-test.false c.loop-symbol.invariant

pub loop-symbol-preserved : goal.loop-symbol-preserved
loop-symbol-preserved c =
    rw c.in_ok-put_entry.ensures.items
    (entry_written _ _ _ _ _ _ _ _ c.loop-symbol-test.true (omega arith) c.in_ok-put_entry.ensures.words c.loop-symbol.invariant)

pub returns-clause-words : goal.returns-clause-words
returns-clause-words c =
    all_mapped symbol_of IsSymbolOfWords _ (record { name = record { ref_ptr = (0, 0); now = [] }; value = 0; size = 0; kind = 0 }) _
    c.loop-symbol-test.false c.loop-symbol.invariant.words
