use Rattle.std.proofs.Common.{◌+◌, arith}
use Rattle.c_types_core.specs.Expressions.{core_of}
use Rattle.c_graph_spec.specs.Layout as spec
use Rattle.c_graph_layout.specs.Counts.{test_count}
use Rattle.c_graph_layout.proofs.Counted.{as_many, count_is}
use Rattle.c_graph_layout.proofs.counts.count.Goals as goal

pub returns : goal.returns
returns c = λ f.
    let x = core_of c.args.x.now in
    as_many (0 + test_count x) (spec.count f x) c.with_tests.result (omega (arith, count_is f x)) c.with_tests.ensures
