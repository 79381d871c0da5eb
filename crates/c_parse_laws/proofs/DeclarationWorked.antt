-- The worked samples, computed.
use Rattle.std.proofs.Common.{refl}
use Rattle.c_parse_spec.specs.Expressions.{integer_type_of}
use Rattle.c_parse_laws.specs.Fuel.{parsers}
use Rattle.c_parse_laws.specs.DeclarationSamples.{ReadsAssignment, LeavesSum, ReadsLocals, RefusesStatic}

pub reads_assignment : ReadsAssignment
unfolding parsers integer_type_of
reads_assignment = refl

pub leaves_sum : LeavesSum
unfolding parsers integer_type_of
leaves_sum = refl

pub reads_locals : ReadsLocals
unfolding parsers integer_type_of
reads_locals = refl

pub refuses_static : RefusesStatic
unfolding parsers integer_type_of
refuses_static = refl
