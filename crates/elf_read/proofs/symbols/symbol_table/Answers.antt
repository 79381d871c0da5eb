use Rattle.std.proofs.Common.{◌==◌, ◌+◌, ◌∙◌, ne_eqb}
use Rattle.elf_read_spec.specs.File as spec
use Rattle.elf_read.proofs.Tables.{find_passed}
use Rattle.elf_read.proofs.symbols.symbol_table.Goals as goal

pub loop-i-preserved : goal.loop-i-preserved
loop-i-preserved c =
    find_passed (λ at. spec.u32_at c.args.bytes.now (at + 4) == 2) c.u32_at-start.result 40 c.u16_at-count.result c.loop-i.i c.loop-i-test.true
    (ne_eqb _ 2 (λ e. c.if-u32_at-eq-SHT_SYMTAB.false (c.u32_at.ensures ∙ e)))
    ∙ c.loop-i.invariant
