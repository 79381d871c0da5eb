use Rattle.std.proofs.Common.{drop}
use Rattle.c_parse_token.specs.Lists.{list_of}
use Rattle.tv_core_spec.specs.Source.{no_unit}
use Rattle.tv_core.proofs.source.syntax_fault.Goals as goal

pub returns-in-Fault : goal.returns-in-Fault
returns-in-Fault c =
    λ lexes h.
    no_unit c.in-Fault.fault.kind _
    (record {
      tokens = list_of c.args.tokens.now;
      lexes = lexes;
      rest = drop c.in-Fault.fault.token (list_of c.args.tokens.now);
      fault = (rw c.in-Fault.is at h).1;
      there = c.offset.ensures;
    })
