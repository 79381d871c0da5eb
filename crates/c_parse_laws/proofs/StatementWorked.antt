-- The worked samples, computed.
use Rattle.std.proofs.Common.{refl}
use Rattle.c_parse_spec.specs.Expressions.{integer_type_of}
use Rattle.c_parse_laws.specs.Fuel.{parsers}
use Rattle.c_parse_laws.specs.Statements.{read_statement}
use Rattle.c_parse_laws.specs.StatementSamples.{ReadsElse, ReadsGroup, RefusesStatement, RefusesElse}

pub reads_else : ReadsElse
unfolding parsers integer_type_of read_statement
reads_else = refl

pub reads_group : ReadsGroup
unfolding parsers integer_type_of read_statement
reads_group = refl

pub refuses_statement : RefusesStatement
unfolding parsers integer_type_of read_statement
refuses_statement = refl

pub refuses_else : RefusesElse
unfolding parsers integer_type_of read_statement
refuses_else = refl
