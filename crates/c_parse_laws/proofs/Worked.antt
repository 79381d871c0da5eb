-- The worked samples, computed.
use Rattle.std.proofs.Common.{refl}
use Rattle.c_parse_spec.specs.Expressions.{integer_type_of}
use Rattle.c_parse_laws.specs.Fuel.{parsers}
use Rattle.c_parse_laws.specs.Samples.{ReadsCast, RefusesWord, RefusesDepth, ReadsValue, RefusesValue}

pub reads_cast : ReadsCast
unfolding parsers integer_type_of
reads_cast = refl

pub refuses_word : RefusesWord
unfolding parsers integer_type_of
refuses_word = refl

pub refuses_depth : RefusesDepth
unfolding parsers integer_type_of
refuses_depth = refl

pub reads_value : ReadsValue
unfolding parsers integer_type_of
reads_value = refl

pub refuses_value : RefusesValue
unfolding parsers integer_type_of
refuses_value = refl
