use Rattle.c_types.specs.Typed.{typed_of}
use Rattle.pair_setup_calls.specs.Names.{names_of}
use Rattle.pair_setup.specs.Names.{IsLacking}
use Rattle.pair_setup.proofs.Least.{least-found}
use Rattle.pair_setup.proofs.names.first_lacking.Goals as goal

pub returns-2 : goal.returns-2
returns-2 c =
    least-found (IsLacking (typed_of c.args.unit.now) (names_of c.args.unit.now) c.args.numbers.now) c.new-found.result.items c.add_all_lacking.new.found.items c.as_slice.result.now
    c.first_of.result c.new-found.ensures.items c.as_slice.ensures.value c.in-Ok-attempt.ensures c.first_of.ensures
