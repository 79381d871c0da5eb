use Rattle.std.proofs.Common.{arith}
use Rattle.c_graph.proofs.places.do_places.Goals as goal

pub returns-6 : goal.returns-6
returns-6 c = λ f.
    let first = c.in-Ok-attempt.ensures in
    let many = c.in-Ok-attempt-many.ensures.size f in
    let test = c.in-Ok-attempt-test.ensures in
    let tests = c.in-Ok-attempt-tests.ensures in
    record { begins = omega arith; test_is = omega arith; tests_are = omega arith; body_is = c.in-Ok-attempt-body.ensures f }
