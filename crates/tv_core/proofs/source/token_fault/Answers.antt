use Rattle.tv_core_spec.specs.Source.{no_tokens}
use Rattle.tv_core.proofs.source.token_fault.Goals as goal

pub returns-in-Fault : goal.returns-in-Fault
returns-in-Fault c = λ text h. no_tokens c.in-Fault.fault.kind c.in-Fault.fault.offset (rw c.in-Fault.is at h)
