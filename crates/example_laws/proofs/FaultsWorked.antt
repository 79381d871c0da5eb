-- The worked samples: the parser of units computes on them, and what it calls wrong is their fault.
use Rattle.std.proofs.Common.{◌≡◌, ℕ, List, drop, refl, Err}
use Rattle.c_token_spec.specs.Lexical.{Placed}
use Rattle.c_parse_spec.specs.declared.LeftOut.TheVariants as left_out
use Rattle.c_parse_spec.specs.declared.ParseFaultKind.TheVariants.{Unexpected, LeftOut}
use Rattle.c_parse_spec.specs.declared.Role.{Role}
use Rattle.c_parse_spec.specs.declared.Role.TheVariants.{Nothing, DeclaredName, MemberEnd, OperandEnd, CallEnd, StatementEnd, NameStatementEnd, CallStatementEnd}
use Rattle.c_parse_spec.specs.Expressions.{integer_type_of}
use Rattle.c_parse_spec.specs.Faults.{fault_kind, offset_of}
use Rattle.exact_read.specs.Reading.{Wrong}
use Rattle.c_parse_laws.specs.Fuel.{parsers}
use Rattle.c_parse_laws.specs.Statements.{read_statement}
use Rattle.c_parse_laws.specs.Initializers.{read_initial}
use Rattle.c_parse_laws.specs.Units.{read_unit}
use Rattle.c_parse_laws.proofs.Faults.{unit-reports}
use Rattle.example_laws.specs.FaultSamples as samples
use Rattle.example_laws.specs.FaultSamples.{IsFaultAt}

fault-at : (tokens rest : List Placed) (end : ℕ) (role : Role) → read_unit tokens ≡ Err (Wrong role, rest) → IsFaultAt tokens end (fault_kind role rest) (offset_of end rest)
fault-at tokens rest end role e = (rest, unit-reports.wrong tokens role rest e, refl)

pub function_pointer : IsFaultAt samples.function_pointer 14 (LeftOut left_out.FunctionPointer) 4
unfolding parsers integer_type_of read_statement read_initial
function_pointer = fault-at samples.function_pointer (drop 1 samples.function_pointer) 14 DeclaredName refl

pub goto_word : IsFaultAt samples.goto_word 20 (LeftOut left_out.Goto) 12
unfolding parsers integer_type_of read_statement read_initial
goto_word = fault-at samples.goto_word (drop 6 samples.goto_word) 20 Nothing refl

pub label : IsFaultAt samples.label 16 (LeftOut left_out.Goto) 13
unfolding parsers integer_type_of read_statement read_initial
label = fault-at samples.label (drop 7 samples.label) 16 NameStatementEnd refl

pub bit_field : IsFaultAt samples.bit_field 19 (LeftOut left_out.BitField) 14
unfolding parsers integer_type_of read_statement read_initial
bit_field = fault-at samples.bit_field (drop 5 samples.bit_field) 19 MemberEnd refl

pub comma : IsFaultAt samples.comma 17 (LeftOut left_out.Comma) 13
unfolding parsers integer_type_of read_statement read_initial
comma = fault-at samples.comma (drop 7 samples.comma) 17 NameStatementEnd refl

pub comma_after_assignment : IsFaultAt samples.comma_after_assignment 21 (LeftOut left_out.Comma) 15
unfolding parsers integer_type_of read_statement read_initial
comma_after_assignment = fault-at samples.comma_after_assignment (drop 9 samples.comma_after_assignment) 21 StatementEnd refl

pub comma_after_call : IsFaultAt samples.comma_after_call 20 (LeftOut left_out.Comma) 16
unfolding parsers integer_type_of read_statement read_initial
comma_after_call = fault-at samples.comma_after_call (drop 10 samples.comma_after_call) 20 CallStatementEnd refl

pub call_in_operand : IsFaultAt samples.call_in_operand 22 (LeftOut left_out.Call) 17
unfolding parsers integer_type_of read_statement read_initial
call_in_operand = fault-at samples.call_in_operand (drop 11 samples.call_in_operand) 22 StatementEnd refl

pub operator_after_call : IsFaultAt samples.operator_after_call 20 (LeftOut left_out.Call) 16
unfolding parsers integer_type_of read_statement read_initial
operator_after_call = fault-at samples.operator_after_call (drop 10 samples.operator_after_call) 20 CallStatementEnd refl

pub operator_after_returned_call : IsFaultAt samples.operator_after_returned_call 26 (LeftOut left_out.Call) 22
unfolding parsers integer_type_of read_statement read_initial
operator_after_returned_call = fault-at samples.operator_after_returned_call (drop 10 samples.operator_after_returned_call) 26 CallEnd refl

pub call_in_value : IsFaultAt samples.call_in_value 11 (LeftOut left_out.Call) 7
unfolding parsers integer_type_of read_statement read_initial
call_in_value = fault-at samples.call_in_value (drop 4 samples.call_in_value) 11 OperandEnd refl

pub dots : IsFaultAt samples.dots 17 (LeftOut left_out.Variadic) 12
unfolding parsers integer_type_of read_statement read_initial
dots = fault-at samples.dots (drop 6 samples.dots) 17 Nothing refl

pub missing_parameter : IsFaultAt samples.missing_parameter 7 Unexpected 6
unfolding parsers integer_type_of read_statement read_initial
missing_parameter = fault-at samples.missing_parameter (drop 3 samples.missing_parameter) 7 Nothing refl

pub missing_end : IsFaultAt samples.missing_end 20 Unexpected 20
unfolding parsers integer_type_of read_statement read_initial
missing_end = fault-at samples.missing_end (drop 8 samples.missing_end) 20 OperandEnd refl
