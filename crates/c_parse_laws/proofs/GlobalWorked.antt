-- The worked samples, computed.
use Rattle.std.proofs.Common.{refl}
use Rattle.c_parse_spec.specs.Expressions.{integer_type_of}
use Rattle.c_parse_laws.specs.Fuel.{parsers}
use Rattle.c_parse_laws.specs.GlobalSamples.{ReadsVoid, ReadsConst, RefusesPointer, LeavesFunction}

pub reads_void : ReadsVoid
unfolding parsers integer_type_of
reads_void = refl

pub reads_const : ReadsConst
unfolding parsers integer_type_of
reads_const = refl

pub refuses_pointer : RefusesPointer
unfolding parsers integer_type_of
refuses_pointer = refl

pub leaves_function : LeavesFunction
unfolding parsers integer_type_of
leaves_function = refl
