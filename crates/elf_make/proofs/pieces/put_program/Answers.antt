use Rattle.std.proofs.Common.{◌∙◌, length}
use Rattle.elf_make.specs.Layout.{word}
use Rattle.elf_make.proofs.Steps.{eight}
use Rattle.elf_make.proofs.pieces.put_program.Goals as goal

pub returns-clause-items : goal.returns-clause-items
returns-clause-items c =
    c.in_ok-put_words.ensures
    ∙ eight c.args.out.now.items (word 1) (word c.args.offset) (word c.args.segment.now.vaddr) (word c.args.segment.now.vaddr)
    (word (length c.args.segment.now.bytes.now)) (word c.args.segment.now.memsz) (word c.args.segment.now.flags) (word 4)
