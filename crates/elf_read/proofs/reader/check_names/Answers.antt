use Rattle.elf_read.proofs.Order.{names_refused, all_kept}
use Rattle.elf_read.proofs.reader.check_names.Goals as goal

pub returns-in-Some-clause-refused : goal.returns-in-Some-clause-refused
returns-in-Some-clause-refused c =
    names_refused _ _ _ c.requires.below c.requires.table c.requires.has_strings c.in-Some.ensures

pub returns-clause-kept : goal.returns-clause-kept
returns-clause-kept c = all_kept _ _ c.requires.below c.requires.table c.requires.has_strings c.in_default.ensures
