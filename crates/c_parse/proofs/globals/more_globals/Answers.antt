use Rattle.std.proofs.Common.{arith, ℕ, ◌<◌, ◌∙◌, sym, map, length}
use Rattle.std.specs.declared.alloc.Global.{Global}
use Rattle.std.specs.declared.boxed.Box.{Box}
use Rattle.c_token_spec.specs.declared.token.Punctuator.TheVariants as punctuator
use Rattle.c_syntax_spec.specs.Unit as tree
use Rattle.c_parse_spec.specs.declared.Role.{Role}
use Rattle.c_parse_spec.specs.Leaves.{expected}
use Rattle.c_parse_spec.specs.Units.{names_after}
use Rattle.exact_read.specs.Grammar.{read_map}
use Rattle.c_parse_laws.specs.Classes.{mark_offset}
use Rattle.c_parse_laws.specs.Parsers.{token}
use Rattle.c_parse_laws.specs.Parameters.{read_global}
use Rattle.c_parse_laws.specs.Units.{end_of_global}
use Rattle.c_syntax.specs.declared.unit.Global.{Global as Global_row}
use Rattle.c_syntax.specs.Expressions.{specifiers_of, unboxed}
use Rattle.c_syntax.specs.Units.{global_of}
use Rattle.c_parse_token.specs.Lists.{list_of, names_of}
use Rattle.c_parse_token.proofs.Steps.{fewer}
use Rattle.c_parse_expression.specs.Whole.{expressions}
use Rattle.c_parse_token.proofs.Errors.{gives-from}
use Rattle.c_parse.specs.Following.{read_value, read_globals_after}
use Rattle.c_parse.proofs.Listed.{globals-start, globals-more, globals-comma_error, globals-name_error, globals-value_error, globals-end, globals-unclosed, globals-joined}
use Rattle.c_parse.proofs.globals.more_globals.Goals as goal

pub items-init : goal.items-init
items-init c = record { going = globals-start (specifiers_of c.args.specifiers.now) (map global_of (unboxed c.args.all.now)) (names_of c.args.names.now, c.args.end) (list_of c.args.tokens.now.rest.now); fewer = omega arith }

pub items-preserved : goal.items-preserved
items-preserved c =
    let specifiers = specifiers_of c.args.specifiers.now in
    let rest = c.declared.new.tokens.rest.now in
    let less : length rest < length c.items.tokens.rest.now = omega (arith, c.in-Ok-attempt.ensures.shorter, c.in-Ok-attempt-next.ensures.shorter, c.in-Ok-attempt-end.ensures.shorter) in
    record {
      going = globals-more specifiers c.is_typedef-typedef.result (read_globals_after specifiers (map global_of (unboxed c.args.all.now)) (names_of c.args.names.now, c.args.end) (list_of c.args.tokens.now.rest.now)) (map global_of (unboxed c.items.all)) (map global_of (unboxed c.declared.new.all)) (names_of c.items.names, c.items.end) (names_of c.declared.new.names, c.in-Ok-attempt-end.field-0) (global_of c.in-Ok-attempt-next.field-0.value) _ (list_of c.items.tokens.rest.now) (list_of c.mark.new.self.rest.now) (list_of c.global.new.tokens.rest.now) (list_of rest) c.is_typedef-typedef.ensures (globals-joined c.items.all c.declared.new.all c.in-Ok-attempt-next.field-0 c.in-Ok-attempt-end.ensures.now.1) c.in-Ok-attempt-end.ensures.now.0 c.items.invariant.going (sym c.next_is.ensures ∙ c.items-test.true) c.in-Ok-attempt.ensures.gives c.in-Ok-attempt-next.ensures.gives c.in-Ok-attempt-end.ensures.gives (fewer rest c.items.tokens.rest.now less);
      fewer = omega (arith, less, c.items.invariant.fewer);
    }

pub returns-in-items-clause-gives : goal.returns-in-items-clause-gives
returns-in-items-clause-gives c =
    let specifiers = specifiers_of c.args.specifiers.now in
    let whole = read_globals_after specifiers (map global_of (unboxed c.args.all.now)) (names_of c.args.names.now, c.args.end) (list_of c.args.tokens.now.rest.now) in
    gives-from (token c.items.end (expected c.items.end) (mark_offset punctuator.Comma) (list_of c.items.tokens.rest.now)) whole (λ (x : ℕ). x) (λ (_ : Unit {0}). (tree.Declaration specifiers (map global_of (unboxed c.items.all)), names_of c.items.names)) _ c.in-Err-attempt.field-0
    (globals-comma_error specifiers whole (map global_of (unboxed c.items.all)) (names_of c.items.names, c.items.end) (list_of c.items.tokens.rest.now) c.items.invariant.going (sym c.next_is.ensures ∙ c.items-test.true)) c.in-Err-attempt.ensures.gives

pub returns-in-items-2-clause-gives : goal.returns-in-items-2-clause-gives
returns-in-items-2-clause-gives c =
    let specifiers = specifiers_of c.args.specifiers.now in
    let whole = read_globals_after specifiers (map global_of (unboxed c.args.all.now)) (names_of c.args.names.now, c.args.end) (list_of c.args.tokens.now.rest.now) in
    let middle = list_of c.mark.new.self.rest.now in
    gives-from (read_global (names_of c.items.names) (expressions c.items.names) c.is_typedef-typedef.result middle) whole (λ (x : Box Global_row Global). global_of x.value) (λ (_ : Unit {0}). (tree.Declaration specifiers (map global_of (unboxed c.items.all)), names_of c.items.names)) _ c.in-Err-attempt-next.field-0
    (globals-name_error specifiers c.is_typedef-typedef.result whole (map global_of (unboxed c.items.all)) (names_of c.items.names, c.items.end) _ (list_of c.items.tokens.rest.now) middle c.is_typedef-typedef.ensures c.items.invariant.going (sym c.next_is.ensures ∙ c.items-test.true) c.in-Ok-attempt.ensures.gives) c.in-Err-attempt-next.ensures.gives

pub returns-in-items-3-clause-gives : goal.returns-in-items-3-clause-gives
returns-in-items-3-clause-gives c =
    let specifiers = specifiers_of c.args.specifiers.now in
    let whole = read_globals_after specifiers (map global_of (unboxed c.args.all.now)) (names_of c.args.names.now, c.args.end) (list_of c.args.tokens.now.rest.now) in
    let middle = list_of c.mark.new.self.rest.now in
    let global = global_of c.in-Ok-attempt-next.field-0.value in
    gives-from (read_map end_of_global (read_value (names_after c.is_typedef-typedef.result global (names_of c.items.names))) (list_of c.global.new.tokens.rest.now)) whole (λ (x : Role). x) (λ (_ : Unit {0}). (tree.Declaration specifiers (map global_of (unboxed c.declared.new.all)), names_of c.declared.new.names)) _ c.in-Err-attempt-end.field-0
    (globals-value_error specifiers c.is_typedef-typedef.result whole (map global_of (unboxed c.items.all)) (names_of c.items.names, c.items.end) global _ (list_of c.items.tokens.rest.now) middle (list_of c.global.new.tokens.rest.now) c.is_typedef-typedef.ensures c.items.invariant.going (sym c.next_is.ensures ∙ c.items-test.true) c.in-Ok-attempt.ensures.gives c.in-Ok-attempt-next.ensures.gives) c.in-Err-attempt-end.ensures.gives

pub returns-clause-gives : goal.returns-clause-gives
returns-clause-gives c =
    let specifiers = specifiers_of c.args.specifiers.now in
    let whole = read_globals_after specifiers (map global_of (unboxed c.args.all.now)) (names_of c.args.names.now, c.args.end) (list_of c.args.tokens.now.rest.now) in
    gives-from (token c.items.end (expected c.items.end) (mark_offset punctuator.Semicolon) (list_of c.items.tokens.rest.now)) whole (λ (x : ℕ). x) (λ (_ : Unit {0}). (tree.Declaration specifiers (map global_of (unboxed c.items.all)), names_of c.items.names)) _ c.in-Err-attempt-2.field-0
    (globals-unclosed specifiers whole (map global_of (unboxed c.items.all)) (names_of c.items.names, c.items.end) (list_of c.items.tokens.rest.now) c.items.invariant.going (sym c.next_is.ensures ∙ c.items-test.false)) c.in-Err-attempt-2.ensures.gives

pub returns-2-clause-gives : goal.returns-2-clause-gives
returns-2-clause-gives c =
    let specifiers = specifiers_of c.args.specifiers.now in
    globals-end specifiers (read_globals_after specifiers (map global_of (unboxed c.args.all.now)) (names_of c.args.names.now, c.args.end) (list_of c.args.tokens.now.rest.now)) (map global_of (unboxed c.items.all)) (names_of c.items.names, c.items.end) _ (list_of c.items.tokens.rest.now) (list_of c.mark-2.new.self.rest.now) c.items.invariant.going (sym c.next_is.ensures ∙ c.items-test.false) c.in-Ok-attempt-2.ensures.gives
