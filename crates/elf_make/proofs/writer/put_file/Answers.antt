use Rattle.std.proofs.Common.{subst, sym, arith}
use Rattle.elf_make.specs.Parts.{image_of_parts, IsWritten}
use Rattle.elf_make.proofs.Written.{written}
use Rattle.elf_make.proofs.Steps.{file_written, kinds_of}
use Rattle.elf_make.proofs.writer.put_file.Goals as goal

pub put_entries-requires-clause-kinds : goal.put_entries-requires-clause-kinds
put_entries-requires-clause-kinds c = kinds_of c.args.parts.now.symbols.now c.requires.writable.named

pub returns-clause-layout : goal.returns-clause-layout
returns-clause-layout c =
    let at = c.requires.places in
    file_written _ _ _ _ _ _ _ _ _ _ _ _ _ _ _ _ _ _ _ _ c.requires.none_yet c.in_ok-put_header.ensures c.in_ok-put_programs.ensures.items
    c.in_ok-put_contents.ensures c.in_ok-put_zeros.ensures c.in_ok-put_entries.ensures.items c.in_ok-put_zeros-2.ensures c.in_ok-put_names.ensures
    c.in_ok-put_zeros-3.ensures c.in_ok-put_sections.ensures at.programs_are at.contents_are at.table_is at.table_size_is at.strings_are
    at.strings_size_is at.padding_is at.sections_are

pub returns-clause-written : goal.returns-clause-written
returns-clause-written c =
    subst (λ file. IsWritten file (image_of_parts c.args.parts.now) c.args.parts.now.flags) (sym (returns-clause-layout c))
    (written (image_of_parts c.args.parts.now) c.args.parts.now.flags c.requires.writable (omega arith) c.in_ok-put_programs.ensures.words
    c.in_ok-put_entries.ensures.words)
