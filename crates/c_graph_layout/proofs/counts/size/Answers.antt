use Rattle.std.proofs.Common.{◌+◌, arith}
use Rattle.c_types_core.specs.Actions.{action_of}
use Rattle.c_graph_spec.specs.Layout as spec
use Rattle.c_graph_layout.specs.Counts.{size_of}
use Rattle.c_graph_layout.proofs.Counted.{as_many, many_of, size_is}
use Rattle.c_graph_layout.proofs.counts.size.Goals as goal

pub returns-clause-counted : goal.returns-clause-counted
returns-clause-counted c =
    let a = action_of c.args.action.now in
    as_many (0 + size_of a) (size_of a) c.with_size.result (omega arith) c.with_size.ensures

pub returns-clause-size : goal.returns-clause-size
returns-clause-size c = λ f.
    let a = action_of c.args.action.now in
    many_of (0 + size_of a) (spec.size f a) c.with_size.result (omega (arith, size_is f a)) c.with_size.ensures
