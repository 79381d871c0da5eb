use Rattle.tv_core_spec.specs.Verdicts.{c_refused}
use Rattle.tv_core.proofs.judge.refused_source.Goals as goal

pub returns-in-Fault-clause-exact : goal.returns-in-Fault-clause-exact
returns-in-Fault-clause-exact c = λ elf c' task image is_elf h. c_refused image _ _ is_elf (rw c.in-Fault.is at h)
