use Rattle.std.proofs.Common.{refl, arith}
use Rattle.elf_read_spec.specs.declared.ElfKind.TheVariants.{Table}
use Rattle.elf_read.proofs.header.check_header.Goals as goal

pub returns-clause-programs : goal.returns-clause-programs
returns-clause-programs c = (c.loop-kind.invariant Table (omega arith) 28).0 refl

pub returns-clause-sections : goal.returns-clause-sections
returns-clause-sections c = (c.loop-kind.invariant Table (omega arith) 32).1 refl
