use Rattle.std.proofs.Common.{arith}
use Rattle.c_graph.proofs.places.part_starts.Goals as goal

pub returns-6 : goal.returns-6
returns-6 c = λ f.
    let tests = c.in-Ok-attempt.ensures f in
    let after = c.in-Ok-attempt-after.ensures in
    let begin = c.in-Ok-attempt-begin.ensures in
    let many = c.in-Ok-attempt-many.ensures.size f in
    let end = c.in-Ok-attempt-end.ensures in
    record { begins = omega arith; ends = omega arith }
