-- The worked samples, computed.
use Rattle.std.proofs.Common.{refl}
use Rattle.c_parse_spec.specs.Expressions.{integer_type_of}
use Rattle.c_parse_laws.specs.Fuel.{parsers}
use Rattle.c_parse_laws.specs.Statements.{read_statement}
use Rattle.c_parse_laws.specs.Initializers.{read_initial}
use Rattle.c_parse_laws.specs.UnitSamples.{ReadsTypedef, RefusesName, ReadsFunction, RefusesSecond}

pub reads_typedef : ReadsTypedef
unfolding parsers integer_type_of read_statement read_initial
reads_typedef = refl

pub refuses_name : RefusesName
unfolding parsers integer_type_of read_statement read_initial
refuses_name = refl

pub reads_function : ReadsFunction
unfolding parsers integer_type_of read_statement read_initial
reads_function = refl

pub refuses_second : RefusesSecond
unfolding parsers integer_type_of read_statement read_initial
refuses_second = refl
