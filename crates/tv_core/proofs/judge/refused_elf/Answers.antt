use Rattle.tv_core_spec.specs.Verdicts.{elf_refused}
use Rattle.tv_core.proofs.judge.refused_elf.Goals as goal

pub returns-in-Fault-clause-exact : goal.returns-in-Fault-clause-exact
returns-in-Fault-clause-exact c = λ elf c' task h. elf_refused c.in-Fault.fault.kind c.in-Fault.fault.offset (rw c.in-Fault.is at h)
