use Rattle.c_parse_token.specs.Lists.{fault_of}
use Rattle.c_parse.proofs.Reported.{fault-numbered}
use Rattle.c_parse.proofs.fault_at.Goals as goal

pub returns-in-Fault : goal.returns-in-Fault
returns-in-Fault c = fault-numbered c.args.tokens.now c.args.rest.now (fault_of c.in-Fault.fault) c.kind_of-kind.result c.saturating_sub-token.result (rw c.in-Fault.is at c.requires) c.kind_of-kind.ensures c.saturating_sub-token.ensures
