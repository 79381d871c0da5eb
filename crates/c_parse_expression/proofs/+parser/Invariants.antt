use Rattle.std.proofs.Common.{◌-◌, ◌≡◌, ◌≤◌, ◌+◌, ◌*◌, length, Ok}
use Rattle.c_parse_spec.specs.Limits.{operator_limit}
use Rattle.c_parse_spec.specs.Expressions.{advance, operators, operators_of_members, operators_of_declarators, operators_of_lengths, operators_of_constants}
use Rattle.c_parse_laws.specs.Types as types
use Rattle.c_syntax.specs.Expressions.{expressions_in, declarators_in, members_in, constants_in}
use Rattle.c_parse_laws.specs.Parsers as parsers
use Rattle.c_parse_token.specs.Lists.{list_of, names_of}
use Rattle.c_parse_expression.specs.Steps.{tree_of, inside, counting_of, starts_member, read_member_row, after_member, read_all_members, member_rows, starts_declarator, read_next_declarator, after_declarator, list_close, list_end, read_more_declarators, declarator_row, declarator_rows, starts_length, after_length, read_lengths_from, length_rows, constant_rows, read_constants_from}
use Rattle.c_parse_expression.proofs.Constants.{Constants}
use Rattle.c_parse_expression.proofs.Gathering.{Gathering}
use Rattle.c_parse_expression.proofs.Suffixes.{Suffixing}
use Rattle.c_parse_expression.proofs.Operations.{Operating}
use Rattle.c_parse_expression.proofs.+parser.Given as goal

abbrev pub decreases-specifier::all_members : goal.decreases-specifier::all_members
decreases-specifier::all_members l = 100 * l.scope.fuel + 55

abbrev pub decreases-specifier::base : goal.decreases-specifier::base
decreases-specifier::base l = 100 * l.scope.fuel + 75

abbrev pub decreases-expression::bracketed : goal.decreases-expression::bracketed
decreases-expression::bracketed l = 100 * l.scope.fuel + 20

abbrev pub decreases-expression::bracketed_type : goal.decreases-expression::bracketed_type
decreases-expression::bracketed_type l = 100 * l.scope.fuel + 1

abbrev pub decreases-expression::cast : goal.decreases-expression::cast
decreases-expression::cast l = 100 * l.scope.fuel

abbrev pub decreases-expression::choice : goal.decreases-expression::choice
decreases-expression::choice l = 100 * l.scope.fuel + 60

abbrev pub decreases-expression::chosen : goal.decreases-expression::chosen
decreases-expression::chosen l = 100 * l.scope.fuel + 50

abbrev pub decreases-expression::conditional : goal.decreases-expression::conditional
decreases-expression::conditional l = 100 * l.scope.fuel

abbrev pub decreases-specifier::constant : goal.decreases-specifier::constant
decreases-specifier::constant l = 100 * l.scope.fuel + 5

abbrev pub decreases-specifier::constants : goal.decreases-specifier::constants
decreases-specifier::constants l = 100 * l.scope.fuel + 60

abbrev pub decreases-expression::converted : goal.decreases-expression::converted
decreases-expression::converted l = 100 * l.scope.fuel + 5

abbrev pub decreases-specifier::declarator : goal.decreases-specifier::declarator
decreases-specifier::declarator l = 100 * l.scope.fuel + 30

abbrev pub decreases-specifier::dimensions : goal.decreases-specifier::dimensions
decreases-specifier::dimensions l = 100 * l.scope.fuel + 25

abbrev pub decreases-expression::ended : goal.decreases-expression::ended
decreases-expression::ended l = 100 * l.scope.fuel + 1

abbrev pub decreases-specifier::enumeration : goal.decreases-specifier::enumeration
decreases-specifier::enumeration l = 100 * l.scope.fuel + 70

abbrev pub decreases-specifier::given_array : goal.decreases-specifier::given_array
decreases-specifier::given_array l = 100 * l.scope.fuel + 20

abbrev pub decreases-expression::index : goal.decreases-expression::index
decreases-expression::index l = 100 * l.scope.fuel + 13

abbrev pub decreases-specifier::length : goal.decreases-specifier::length
decreases-specifier::length l = 100 * l.scope.fuel + 5

abbrev pub decreases-specifier::lengths : goal.decreases-specifier::lengths
decreases-specifier::lengths l = 100 * l.scope.fuel + 10

abbrev pub decreases-specifier::member : goal.decreases-specifier::member
decreases-specifier::member l = 100 * l.scope.fuel + 50

abbrev pub decreases-specifier::member_list : goal.decreases-specifier::member_list
decreases-specifier::member_list l = 100 * l.scope.fuel + 45

abbrev pub decreases-specifier::members : goal.decreases-specifier::members
decreases-specifier::members l = 100 * l.scope.fuel + 60

abbrev pub decreases-specifier::more_constants : goal.decreases-specifier::more_constants
decreases-specifier::more_constants l = 100 * l.scope.fuel + 50

abbrev pub decreases-specifier::more_declarators : goal.decreases-specifier::more_declarators
decreases-specifier::more_declarators l = 100 * l.scope.fuel + 40

abbrev pub decreases-specifier::next_declarator : goal.decreases-specifier::next_declarator
decreases-specifier::next_declarator l = 100 * l.scope.fuel + 35

abbrev pub decreases-specifier::open_array : goal.decreases-specifier::open_array
decreases-specifier::open_array l = 100 * l.scope.fuel + 20

abbrev pub decreases-expression::operand : goal.decreases-expression::operand
decreases-expression::operand l = 100 * l.scope.fuel + 50

abbrev pub decreases-specifier::pointed : goal.decreases-specifier::pointed
decreases-specifier::pointed l = 100 * l.scope.fuel + 90

abbrev pub decreases-expression::prefix_or_postfix : goal.decreases-expression::prefix_or_postfix
decreases-expression::prefix_or_postfix l = 100 * l.scope.fuel + 50

abbrev pub decreases-expression::prefixed : goal.decreases-expression::prefixed
decreases-expression::prefixed l = 100 * l.scope.fuel + 1

abbrev pub decreases-expression::size : goal.decreases-expression::size
decreases-expression::size l = 100 * l.scope.fuel + 30

abbrev pub decreases-expression::size_in_brackets : goal.decreases-expression::size_in_brackets
decreases-expression::size_in_brackets l = 100 * l.scope.fuel + 25

abbrev pub decreases-specifier::specified : goal.decreases-specifier::specified
decreases-specifier::specified l = 100 * l.scope.fuel + 80

abbrev pub decreases-specifier::specifiers : goal.decreases-specifier::specifiers
decreases-specifier::specifiers l = 100 * l.scope.fuel

abbrev pub decreases-specifier::structure : goal.decreases-specifier::structure
decreases-specifier::structure l = 100 * l.scope.fuel + 70

abbrev pub decreases-expression::suffix : goal.decreases-expression::suffix
decreases-expression::suffix l = 100 * l.scope.fuel + 14

abbrev pub decreases-expression::suffixes : goal.decreases-expression::suffixes
decreases-expression::suffixes l = 100 * l.scope.fuel + 15

abbrev pub decreases-specifier::type_name : goal.decreases-specifier::type_name
decreases-specifier::type_name l = 100 * l.scope.fuel

abbrev pub decreases-expression::unary : goal.decreases-expression::unary
decreases-expression::unary l = 100 * l.scope.fuel

abbrev pub decreases-expression::binary : goal.decreases-expression::binary
decreases-expression::binary l = 100 * l.scope.fuel + 3 * l.level + 10

abbrev pub decreases-expression::operation : goal.decreases-expression::operation
decreases-expression::operation l = 100 * l.scope.fuel + 3 * l.level + 11

abbrev pub decreases-expression::operations : goal.decreases-expression::operations
decreases-expression::operations l = 100 * l.scope.fuel + 3 * l.level + 12

abbrev pub invariant-expression::binary-levels : goal.invariant-expression::binary-levels
invariant-expression::binary-levels l = record {
  reads : parsers.read_binary (inside l.scope.names.now l.scope.fuel) l.scope.depth l.done l.fn.tokens.count (list_of l.fn.tokens.rest.now) ≡ Ok (tree_of l.x, list_of l.tokens.rest.now);
  counted : l.tokens.count ≡ l.before + operators (tree_of l.x);
  within : l.tokens.count ≤ operator_limit;
  same : l.before ≡ l.fn.tokens.count;
  shorter : length l.tokens.rest.now ≤ length l.fn.tokens.rest.now;
  below : l.done ≤ l.level;
}

abbrev pub decreases-expression::binary-levels : goal.decreases-expression::binary-levels
decreases-expression::binary-levels l = l.level - l.done

abbrev pub invariant-expression::operations-items : goal.invariant-expression::operations-items
invariant-expression::operations-items l = record {
  going : Operating (inside l.scope.names.now l.scope.fuel) l.scope.depth l.level l.before (parsers.read_operations (inside l.scope.names.now l.scope.fuel) l.scope.depth l.level l.before (tree_of l.fn.first) (list_of l.initial.tokens.rest.now)) (tree_of l.left) (list_of l.tokens.rest.now);
  counted : l.tokens.count ≡ l.before + operators (tree_of l.left);
  within : l.tokens.count ≤ operator_limit;
  fewer : length l.tokens.rest.now ≤ length l.initial.tokens.rest.now;
}

abbrev pub decreases-expression::operations-items : goal.decreases-expression::operations-items
decreases-expression::operations-items l = length l.tokens.rest.now

abbrev pub invariant-expression::suffixes-items : goal.invariant-expression::suffixes-items
invariant-expression::suffixes-items l = record {
  going : Suffixing (inside l.scope.names.now l.scope.fuel) l.scope.depth l.before (parsers.read_suffixes_after (inside l.scope.names.now l.scope.fuel) l.scope.depth l.before (tree_of l.fn.first) (list_of l.initial.tokens.rest.now)) (tree_of l.base) (list_of l.tokens.rest.now);
  counted : l.tokens.count ≡ l.before + operators (tree_of l.base);
  within : l.tokens.count ≤ operator_limit;
  fewer : length l.tokens.rest.now ≤ length l.initial.tokens.rest.now;
}

abbrev pub decreases-expression::suffixes-items : goal.decreases-expression::suffixes-items
decreases-expression::suffixes-items l = length l.tokens.rest.now

abbrev pub invariant-specifier::all_members-items : goal.invariant-specifier::all_members-items
invariant-specifier::all_members-items l = record {
  going : Gathering (starts_member (names_of l.scope.names.now)) (read_member_row (inside l.scope.names.now l.scope.fuel) l.scope.depth) after_member (λ rows last. Ok (types.members_of rows, last)) (read_all_members (names_of l.scope.names.now) (inside l.scope.names.now l.scope.fuel) l.scope.depth (counting_of l.scope.is_alone l.fn.tokens.count) (list_of l.fn.tokens.rest.now)) (member_rows l.rows) (counting_of l.scope.is_alone l.tokens.count) (list_of l.tokens.rest.now);
  counted : advance (counting_of l.scope.is_alone l.fn.tokens.count) (operators_of_members (members_in l.rows)) ≡ (counting_of l.scope.is_alone l.tokens.count);
  within : l.tokens.count ≤ operator_limit;
  fewer : length l.tokens.rest.now ≤ length l.fn.tokens.rest.now;
}

abbrev pub decreases-specifier::all_members-items : goal.decreases-specifier::all_members-items
decreases-specifier::all_members-items l = length l.tokens.rest.now

abbrev pub invariant-specifier::more_declarators-items : goal.invariant-specifier::more_declarators-items
invariant-specifier::more_declarators-items l = record {
  going : Gathering starts_declarator (read_next_declarator (inside l.scope.names.now l.scope.fuel) l.scope.depth) after_declarator list_close (read_more_declarators (inside l.scope.names.now l.scope.fuel) l.scope.depth (counting_of l.scope.is_alone l.fn.tokens.count) (declarator_row l.fn.first) (list_of l.fn.tokens.rest.now)) (declarator_rows l.all) (counting_of l.scope.is_alone l.tokens.count) (list_of l.tokens.rest.now);
  ends : l.end ≡ list_end (declarator_rows l.all);
  counted : advance (counting_of l.scope.is_alone l.before) (operators_of_declarators (declarators_in l.all)) ≡ (counting_of l.scope.is_alone l.tokens.count);
  within : l.tokens.count ≤ operator_limit;
  fewer : length l.tokens.rest.now ≤ length l.fn.tokens.rest.now;
}

abbrev pub decreases-specifier::more_declarators-items : goal.decreases-specifier::more_declarators-items
decreases-specifier::more_declarators-items l = length l.tokens.rest.now

abbrev pub invariant-specifier::lengths-items : goal.invariant-specifier::lengths-items
invariant-specifier::lengths-items l = record {
  going : Gathering starts_length (types.read_length (inside l.scope.names.now l.scope.fuel) l.scope.depth) after_length (λ rows last. Ok (types.expressions_of rows, last)) (read_lengths_from (length_rows l.fn.given) (inside l.scope.names.now l.scope.fuel) l.scope.depth (counting_of l.scope.is_alone l.fn.tokens.count) (list_of l.fn.tokens.rest.now)) (length_rows l.all) (counting_of l.scope.is_alone l.tokens.count) (list_of l.tokens.rest.now);
  counted : advance (counting_of l.scope.is_alone l.before) (operators_of_lengths (expressions_in l.all)) ≡ (counting_of l.scope.is_alone l.tokens.count);
  within : l.tokens.count ≤ operator_limit;
  fewer : length l.tokens.rest.now ≤ length l.fn.tokens.rest.now;
}

abbrev pub decreases-specifier::lengths-items : goal.decreases-specifier::lengths-items
decreases-specifier::lengths-items l = length l.tokens.rest.now

abbrev pub invariant-specifier::more_constants-items : goal.invariant-specifier::more_constants-items
invariant-specifier::more_constants-items l = record {
  going : Constants (names_of l.scope.names.now) (inside l.scope.names.now l.scope.fuel) l.scope.depth (read_constants_from (names_of l.scope.names.now) (inside l.scope.names.now l.scope.fuel) l.scope.depth (constant_rows l.fn.rows) (types.AfterConstant l.fn.end (counting_of l.scope.is_alone l.fn.tokens.count)) (list_of l.fn.tokens.rest.now)) (constant_rows l.rows) (types.AfterConstant l.end (counting_of l.scope.is_alone l.tokens.count)) (list_of l.tokens.rest.now);
  counted : advance (counting_of l.scope.is_alone l.before) (operators_of_constants (constants_in l.rows)) ≡ (counting_of l.scope.is_alone l.tokens.count);
  within : l.tokens.count ≤ operator_limit;
  fewer : length l.tokens.rest.now ≤ length l.fn.tokens.rest.now;
}

abbrev pub decreases-specifier::more_constants-items : goal.decreases-specifier::more_constants-items
decreases-specifier::more_constants-items l = length l.tokens.rest.now
