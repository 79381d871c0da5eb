use Rattle.std.proofs.Common.{◌≡◌, subst}
use Rattle.std.specs.Prelude.{OnOk}
use Rattle.elf_make.specs.Layout.{word}
use Rattle.elf_make.proofs.Steps.{ten}
use Rattle.elf_make.proofs.pieces.put_strings_section.Goals as goal

pub returns : goal.returns
returns c =
    subst (λ text. OnOk c.put_words.result (c.put_words.new.out.items ≡ text))
    (ten c.args.out.now.items (word 0) (word 3) (word 0) (word 0) (word c.args.offset) (word c.args.size) (word 0) (word 0) (word 1) (word 0))
    c.put_words.ensures
