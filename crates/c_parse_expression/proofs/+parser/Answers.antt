use Rattle.std.proofs.Common.{arith, length, ◌≡◌, ◌+◌, ◌∙◌, ◌∷◌, ◌++◌, [], ℕ, List, true, false, ap, map, refl, sym, subst, Ok, Err}
use Rattle.c_token_spec.specs.declared.token.Punctuator.TheVariants as punctuator
use Rattle.c_token_spec.specs.Lexical.{Placed}
use Rattle.c_syntax_spec.specs.Expression as tree
use Rattle.c_parse_spec.specs.declared.Role.{Role}
use Rattle.c_parse_spec.specs.declared.Role.TheVariants.{Nothing}
use Rattle.c_parse_spec.specs.Leaves.{expected, plain}
use Rattle.c_parse_spec.specs.Expressions.{Counting, advance, member_end, operators, operators_of_type, operators_of_specifiers, operators_of_members, operators_of_declarators, operators_of_declarator, operators_of_lengths, operators_of_constants}
use Rattle.exact_read.specs.Reading.{Outcome}
use Rattle.exact_read.specs.Grammar.{bind}
use Rattle.c_parse_laws.specs.Classes.{is_mark, mark_offset, begins_type}
use Rattle.c_parse_laws.specs.Parsers as parsers
use Rattle.c_parse_laws.specs.Parsers.{Parsers, token}
use Rattle.c_parse_laws.specs.Types as types
use Rattle.c_syntax.specs.Expressions as syntax
use Rattle.c_syntax.specs.Expressions.{expression_of, declarator_of, member_of, constant_of, expressions_in, declarators_in, members_in, constants_in}
use Rattle.c_parse_token.specs.Lists.{list_of, names_of, Gives, IsNoLonger}
use Rattle.c_parse_token.proofs.Steps.{begins-next}
use Rattle.c_parse_expression.specs.Steps.{Given, Counts, Advances, IsAdvanced, operators_of_array, array_of, read_ended, read_open_array, read_given_array, tree_of, type_of, specified_of, inside, read_suffix_after, read_operation_after, counting_of, starts_member, read_member_row, after_member, read_all_members, member_row, member_rows, starts_declarator, read_next_declarator, after_declarator, list_close, list_end, read_more_declarators, declarator_row, declarator_rows, starts_length, after_length, read_lengths_from, length_rows, constant_row, constant_rows, read_constants_from}
use Rattle.c_parse_expression.proofs.Begun.{end-last, declarators-first, close_members, members-begun, open-begun, given-begun, close_constants, constants-begun}
use Rattle.c_parse_expression.proofs.Constants.{Constants, constants-start, constants-comma, constants-step, constants-fault, comma-fault, constants-end, constants-end_comma}
use Rattle.c_parse_expression.proofs.Counts.{advanced, counted, stays, members-more, declarators-more, lengths-more, constants-more, same-members, same-declarators, same-lengths}
use Rattle.c_parse_expression.proofs.Gathering.{Gathering, gathering-start, gathering-step, gathering-fault, gathering-end, boxes-more}
use Rattle.c_parse_expression.proofs.Levels.{lifted, level-operations}
use Rattle.c_parse_expression.proofs.Operations.{operating-start, operating-step, operating-fault, operating-end}
use Rattle.c_parse_expression.proofs.Taken.{recounted, stops}
use Rattle.c_parse_expression.proofs.Suffixes.{suffixing-start, suffixing-step, suffixing-fault, suffixing-end}
use Rattle.c_parse_expression.proofs.Fuel as fuel
use Rattle.c_parse_expression.proofs.+parser.Goals as goal

pub expression::conditional-returns-then-scope-eq0 : goal.expression::conditional-returns-then-scope-eq0
expression::conditional-returns-then-scope-eq0 t c = fuel.conditional-none (names_of c.args.scope.names.now) c.args.scope.fuel c.args.scope.depth c.args.tokens.now.count (list_of c.args.tokens.now.rest.now) c.if-scope-eq0.true

pub expression::conditional-returns : goal.expression::conditional-returns
expression::conditional-returns t c = subst (λ o. Given o tree_of (Counts operators c.args.tokens.now.count) IsNoLonger c.args.tokens.now c.choice.new.tokens c.choice.result) (sym (fuel.conditional-fueled (names_of c.args.scope.names.now) c.args.scope.fuel c.args.scope.depth c.args.tokens.now.count (list_of c.args.tokens.now.rest.now) c.if-scope-eq0.false)) c.choice.ensures

pub expression::cast-returns-then-scope-eq0 : goal.expression::cast-returns-then-scope-eq0
expression::cast-returns-then-scope-eq0 t c = fuel.cast-none (names_of c.args.scope.names.now) c.args.scope.fuel c.args.scope.depth c.args.tokens.now.count (list_of c.args.tokens.now.rest.now) c.if-scope-eq0.true

pub expression::cast-returns : goal.expression::cast-returns
expression::cast-returns t c = subst (λ o. Given o tree_of (Counts operators c.args.tokens.now.count) IsNoLonger c.args.tokens.now c.operand.new.tokens c.operand.result) (sym (fuel.cast-fueled (names_of c.args.scope.names.now) c.args.scope.fuel c.args.scope.depth c.args.tokens.now.count (list_of c.args.tokens.now.rest.now) c.if-scope-eq0.false)) c.operand.ensures

pub expression::unary-returns-then-scope-eq0 : goal.expression::unary-returns-then-scope-eq0
expression::unary-returns-then-scope-eq0 t c = fuel.unary-none (names_of c.args.scope.names.now) c.args.scope.fuel c.args.scope.depth c.args.tokens.now.count (list_of c.args.tokens.now.rest.now) c.if-scope-eq0.true

pub expression::unary-returns : goal.expression::unary-returns
expression::unary-returns t c = subst (λ o. Given o tree_of (Counts operators c.args.tokens.now.count) IsNoLonger c.args.tokens.now c.prefix_or_postfix.new.tokens c.prefix_or_postfix.result) (sym (fuel.unary-fueled (names_of c.args.scope.names.now) c.args.scope.fuel c.args.scope.depth c.args.tokens.now.count (list_of c.args.tokens.now.rest.now) c.if-scope-eq0.false)) c.prefix_or_postfix.ensures

pub expression::binary-returns : goal.expression::binary-returns
expression::binary-returns t c =
    let inner = inside c.args.scope.names.now c.args.scope.fuel in
    let tokens = list_of c.args.tokens.now.rest.now in
    let count = c.args.tokens.now.count in
    stops (inner.cast c.args.scope.depth count tokens) (parsers.read_binary inner c.args.scope.depth c.args.level count tokens) tree_of tree_of _ c.in-Err-attempt.field-0 c.in-Err-attempt.ensures (lifted inner c.args.scope.depth c.args.level 0 count tokens (omega arith))

pub expression::binary-returns-in-levels : goal.expression::binary-returns-in-levels
expression::binary-returns-in-levels t c =
    let inner = inside c.args.scope.names.now c.args.scope.fuel in
    let tokens = list_of c.args.tokens.now.rest.now in
    let count = c.args.tokens.now.count in
    let done = c.levels.done in
    let same : parsers.read_binary inner c.args.scope.depth (done + 1) count tokens ≡ parsers.read_operations inner c.args.scope.depth done count (tree_of c.levels.x) (list_of c.levels.tokens.rest.now) = level-operations inner c.args.scope.depth (done + 1) done count (tree_of c.levels.x) tokens (list_of c.levels.tokens.rest.now) (omega arith) c.levels.invariant.reads in
    stops (parsers.read_operations inner c.args.scope.depth done count (tree_of c.levels.x) (list_of c.levels.tokens.rest.now)) (parsers.read_binary inner c.args.scope.depth c.args.level count tokens) tree_of tree_of _ c.in-Err-attempt-x.field-0 c.in-Err-attempt-x.ensures (λ fault e. lifted inner c.args.scope.depth c.args.level (done + 1) count tokens (omega (arith, c.levels-test.true)) fault (same ∙ e))

pub expression::binary-returns-2 : goal.expression::binary-returns-2
expression::binary-returns-2 t c =
    let whole : c.levels.done ≡ c.args.level = omega (arith, c.levels-test.false, c.levels.invariant.below) in
    record {
      gives = subst (λ level. parsers.read_binary (inside c.args.scope.names.now c.args.scope.fuel) c.args.scope.depth level c.args.tokens.now.count (list_of c.args.tokens.now.rest.now) ≡ Ok (tree_of c.levels.x, list_of c.levels.tokens.rest.now)) whole c.levels.invariant.reads;
      counted = (omega (arith, c.levels.invariant.counted, c.levels.invariant.same), c.levels.invariant.within);
      shorter = c.levels.invariant.shorter;
    }

pub expression::operations-items-init : goal.expression::operations-items-init
expression::operations-items-init t c =
    record {
      going = operating-start (inside c.args.scope.names.now c.args.scope.fuel) c.args.scope.depth c.args.level c.args.before (tree_of c.args.first) (list_of c.args.tokens.now.rest.now);
      counted = c.requires.before;
      within = c.requires.fits.1;
      fewer = omega arith;
    }

pub expression::operations-items-preserved : goal.expression::operations-items-preserved
expression::operations-items-preserved t c =
    record {
      going = operating-step _ _ _ _ _ _ c.items.tokens.count (tree_of c.in-Ok-attempt.field-0) c.items.tokens.rest.now c.operation.new.tokens.rest.now c.items.invariant.going (sym c.starts_level.ensures ∙ c.items-test.true) c.items.invariant.counted c.in-Ok-attempt.ensures.gives c.in-Ok-attempt.ensures.shorter;
      counted = omega (arith, c.in-Ok-attempt.ensures.counted.0, c.items.invariant.counted);
      within = c.in-Ok-attempt.ensures.counted.1;
      fewer = omega (arith, c.in-Ok-attempt.ensures.shorter, c.items.invariant.fewer);
    }

pub expression::operations-returns-in-items : goal.expression::operations-returns-in-items
expression::operations-returns-in-items t c =
    let whole = parsers.read_operations (inside c.args.scope.names.now c.args.scope.fuel) c.args.scope.depth c.args.level c.args.before (tree_of c.args.first) (list_of c.args.tokens.now.rest.now) in
    let part = read_operation_after (inside c.args.scope.names.now c.args.scope.fuel) c.args.scope.depth c.args.level c.items.tokens.count (tree_of c.items.left) (list_of c.items.tokens.rest.now) in
    stops part whole tree_of tree_of _ c.in-Err-attempt.field-0 c.in-Err-attempt.ensures (operating-fault _ _ _ _ _ _ c.items.tokens.count c.items.tokens.rest.now c.items.invariant.going (sym c.starts_level.ensures ∙ c.items-test.true) c.items.invariant.counted)

pub expression::operations-returns : goal.expression::operations-returns
expression::operations-returns t c =
    record {
      gives = operating-end _ _ _ _ _ _ (list_of c.items.tokens.rest.now) c.items.invariant.going (sym c.starts_level.ensures ∙ c.items-test.false);
      counted = (c.items.invariant.counted, c.items.invariant.within);
      shorter = c.items.invariant.fewer;
    }

pub expression::suffixes-items-init : goal.expression::suffixes-items-init
expression::suffixes-items-init t c =
    record {
      going = suffixing-start (inside c.args.scope.names.now c.args.scope.fuel) c.args.scope.depth c.args.before (tree_of c.args.first) (list_of c.args.tokens.now.rest.now);
      counted = c.requires.before;
      within = c.requires.fits.1;
      fewer = omega arith;
    }

pub expression::suffixes-items-preserved : goal.expression::suffixes-items-preserved
expression::suffixes-items-preserved t c =
    record {
      going = suffixing-step _ _ _ _ _ c.items.tokens.count (tree_of c.in-Ok-attempt.field-0) c.items.tokens.rest.now c.suffix.new.tokens.rest.now c.items.invariant.going (sym c.starts_suffix.ensures ∙ c.items-test.true) c.items.invariant.counted c.in-Ok-attempt.ensures.gives c.in-Ok-attempt.ensures.shorter;
      counted = omega (arith, c.in-Ok-attempt.ensures.counted.0, c.items.invariant.counted);
      within = c.in-Ok-attempt.ensures.counted.1;
      fewer = omega (arith, c.in-Ok-attempt.ensures.shorter, c.items.invariant.fewer);
    }

pub expression::suffixes-returns-in-items : goal.expression::suffixes-returns-in-items
expression::suffixes-returns-in-items t c =
    let whole = parsers.read_suffixes_after (inside c.args.scope.names.now c.args.scope.fuel) c.args.scope.depth c.args.before (tree_of c.args.first) (list_of c.args.tokens.now.rest.now) in
    let part = read_suffix_after (inside c.args.scope.names.now c.args.scope.fuel) c.args.scope.depth c.items.tokens.count (tree_of c.items.base) (list_of c.items.tokens.rest.now) in
    stops part whole tree_of tree_of _ c.in-Err-attempt.field-0 c.in-Err-attempt.ensures (suffixing-fault _ _ _ _ _ c.items.tokens.count c.items.tokens.rest.now c.items.invariant.going (sym c.starts_suffix.ensures ∙ c.items-test.true) c.items.invariant.counted)

pub expression::suffixes-returns : goal.expression::suffixes-returns
expression::suffixes-returns t c =
    record {
      gives = suffixing-end _ _ _ _ _ (list_of c.items.tokens.rest.now) c.items.invariant.going (sym c.starts_suffix.ensures ∙ c.items-test.false);
      counted = (c.items.invariant.counted, c.items.invariant.within);
      shorter = c.items.invariant.fewer;
    }

pub specifier::type_name-returns-then-scope-eq0 : goal.specifier::type_name-returns-then-scope-eq0
specifier::type_name-returns-then-scope-eq0 t c = fuel.type_name-none (names_of c.args.scope.names.now) c.args.scope.fuel c.args.scope.depth (counting_of c.args.scope.is_alone c.args.tokens.now.count) (list_of c.args.tokens.now.rest.now) c.if-scope-eq0.true

pub specifier::type_name-returns : goal.specifier::type_name-returns
specifier::type_name-returns t c = subst (λ o. Given o type_of (Advances operators_of_type c.args.scope.is_alone c.args.tokens.now.count) IsNoLonger c.args.tokens.now c.pointed.new.tokens c.pointed.result) (sym (fuel.type_name-fueled (names_of c.args.scope.names.now) c.args.scope.fuel c.args.scope.depth (counting_of c.args.scope.is_alone c.args.tokens.now.count) (list_of c.args.tokens.now.rest.now) c.if-scope-eq0.false)) c.pointed.ensures

pub specifier::specifiers-returns-then-scope-eq0 : goal.specifier::specifiers-returns-then-scope-eq0
specifier::specifiers-returns-then-scope-eq0 t c = fuel.specifiers-none (names_of c.args.scope.names.now) c.args.scope.fuel c.args.scope.depth (counting_of c.args.scope.is_alone c.args.tokens.now.count) (list_of c.args.tokens.now.rest.now) c.if-scope-eq0.true

pub specifier::specifiers-returns : goal.specifier::specifiers-returns
specifier::specifiers-returns t c = subst (λ o. Given o specified_of (Advances operators_of_specifiers c.args.scope.is_alone c.args.tokens.now.count) IsNoLonger c.args.tokens.now c.specified.new.tokens c.specified.result) (sym (fuel.specifiers-fueled (names_of c.args.scope.names.now) c.args.scope.fuel c.args.scope.depth (counting_of c.args.scope.is_alone c.args.tokens.now.count) (list_of c.args.tokens.now.rest.now) c.if-scope-eq0.false)) c.specified.ensures

pub specifier::all_members-items-init : goal.specifier::all_members-items-init
specifier::all_members-items-init t c =
    let whole = read_all_members (names_of c.args.scope.names.now) (inside c.args.scope.names.now c.args.scope.fuel) c.args.scope.depth (counting_of c.args.scope.is_alone c.args.tokens.now.count) (list_of c.args.tokens.now.rest.now) in
    let none : member_rows c.new-rows.result ≡ [] = ap (λ xs. map member_of (map (λ b. b.value) xs)) c.new-rows.ensures.items in
    record {
      going = subst (λ all. Gathering (starts_member (names_of c.args.scope.names.now)) (read_member_row (inside c.args.scope.names.now c.args.scope.fuel) c.args.scope.depth) after_member (λ rows last. Ok (types.members_of rows, last)) whole all (counting_of c.args.scope.is_alone c.args.tokens.now.count) (list_of c.args.tokens.now.rest.now)) (sym none) (gathering-start (starts_member (names_of c.args.scope.names.now)) (read_member_row (inside c.args.scope.names.now c.args.scope.fuel) c.args.scope.depth) after_member (λ rows last. Ok (types.members_of rows, last)) [] (counting_of c.args.scope.is_alone c.args.tokens.now.count) (list_of c.args.tokens.now.rest.now));
      counted = subst (λ xs. advance (counting_of c.args.scope.is_alone c.args.tokens.now.count) (operators_of_members (syntax.members_of xs)) ≡ (counting_of c.args.scope.is_alone c.args.tokens.now.count)) (sym none) (stays c.args.scope.is_alone c.args.tokens.now.count);
      within = c.requires.fits.1;
      fewer = omega arith;
    }

pub specifier::all_members-items-preserved : goal.specifier::all_members-items-preserved
specifier::all_members-items-preserved t c =
    let whole = read_all_members (names_of c.args.scope.names.now) (inside c.args.scope.names.now c.args.scope.fuel) c.args.scope.depth (counting_of c.args.scope.is_alone c.args.tokens.now.count) (list_of c.args.tokens.now.rest.now) in
    let read = member_rows c.items.rows in
    let x = member_row c.in-Ok-attempt.field-0 in
    let rest = c.member.new.tokens.rest.now in
    let count = c.member.new.tokens.count in
    let rows : member_rows c.push.new.self ≡ read ++ x ∷ [] = ap (λ xs. map member_of (map (λ b. b.value) xs)) c.in-Ok-allocated.ensures.items ∙ boxes-more member_of c.items.rows.items c.in-Ok-attempt.field-0 in
    record {
      going = subst (λ all. Gathering (starts_member (names_of c.args.scope.names.now)) (read_member_row (inside c.args.scope.names.now c.args.scope.fuel) c.args.scope.depth) after_member (λ rows last. Ok (types.members_of rows, last)) whole all (counting_of c.args.scope.is_alone count) (list_of rest)) (sym rows) (gathering-step (starts_member (names_of c.args.scope.names.now)) (read_member_row (inside c.args.scope.names.now c.args.scope.fuel) c.args.scope.depth) after_member (λ rows last. Ok (types.members_of rows, last)) whole read (counting_of c.args.scope.is_alone c.items.tokens.count) (counting_of c.args.scope.is_alone count) x c.items.tokens.rest.now rest c.items.invariant.going (begins-next (λ (_ : Counting). begins_type (names_of c.args.scope.names.now)) (counting_of c.args.scope.is_alone c.items.tokens.count) (list_of c.items.tokens.rest.now) ∙ sym c.starts_type.ensures ∙ c.items-test.true) c.in-Ok-attempt.ensures.gives c.in-Ok-attempt.ensures.shorter c.in-Ok-attempt.ensures.counted.0);
      counted = advanced c.args.scope.is_alone c.args.tokens.now.count (operators_of_members (syntax.members_of read)) c.items.tokens.count (types.operators_of_member x) count (operators_of_members (syntax.members_of (member_rows c.push.new.self))) c.items.invariant.counted c.in-Ok-attempt.ensures.counted.0 (ap (λ xs. operators_of_members (syntax.members_of xs)) rows ∙ members-more read x);
      within = c.in-Ok-attempt.ensures.counted.1;
      fewer = omega (arith, c.in-Ok-attempt.ensures.shorter, c.items.invariant.fewer);
    }

pub specifier::all_members-returns-in-items : goal.specifier::all_members-returns-in-items
specifier::all_members-returns-in-items t c =
    let whole = read_all_members (names_of c.args.scope.names.now) (inside c.args.scope.names.now c.args.scope.fuel) c.args.scope.depth (counting_of c.args.scope.is_alone c.args.tokens.now.count) (list_of c.args.tokens.now.rest.now) in
    let part = (read_member_row (inside c.args.scope.names.now c.args.scope.fuel) c.args.scope.depth) (counting_of c.args.scope.is_alone c.items.tokens.count) (list_of c.items.tokens.rest.now) in
    stops part whole member_row members_in _ c.in-Err-attempt.field-0 c.in-Err-attempt.ensures (gathering-fault (starts_member (names_of c.args.scope.names.now)) (read_member_row (inside c.args.scope.names.now c.args.scope.fuel) c.args.scope.depth) after_member (λ rows last. Ok (types.members_of rows, last)) whole (member_rows c.items.rows) (counting_of c.args.scope.is_alone c.items.tokens.count) (list_of c.items.tokens.rest.now) c.items.invariant.going (begins-next (λ (_ : Counting). begins_type (names_of c.args.scope.names.now)) (counting_of c.args.scope.is_alone c.items.tokens.count) (list_of c.items.tokens.rest.now) ∙ sym c.starts_type.ensures ∙ c.items-test.true))

pub specifier::all_members-returns : goal.specifier::all_members-returns
specifier::all_members-returns t c =
    record {
      gives = gathering-end (starts_member (names_of c.args.scope.names.now)) (read_member_row (inside c.args.scope.names.now c.args.scope.fuel) c.args.scope.depth) after_member (λ rows last. Ok (types.members_of rows, last)) (read_all_members (names_of c.args.scope.names.now) (inside c.args.scope.names.now c.args.scope.fuel) c.args.scope.depth (counting_of c.args.scope.is_alone c.args.tokens.now.count) (list_of c.args.tokens.now.rest.now)) (member_rows c.items.rows) (counting_of c.args.scope.is_alone c.items.tokens.count) (list_of c.items.tokens.rest.now) c.items.invariant.going (begins-next (λ (_ : Counting). begins_type (names_of c.args.scope.names.now)) (counting_of c.args.scope.is_alone c.items.tokens.count) (list_of c.items.tokens.rest.now) ∙ sym c.starts_type.ensures ∙ c.items-test.false) ∙ ap (λ made. Ok (made, list_of c.items.tokens.rest.now)) (same-members (member_rows c.items.rows));
      counted = (c.items.invariant.counted, c.items.invariant.within);
      shorter = c.items.invariant.fewer;
    }

pub specifier::more_declarators-items-init : goal.specifier::more_declarators-items-init
specifier::more_declarators-items-init t c =
    let whole = read_more_declarators (inside c.args.scope.names.now c.args.scope.fuel) c.args.scope.depth (counting_of c.args.scope.is_alone c.args.tokens.now.count) (declarator_row c.args.first) (list_of c.args.tokens.now.rest.now) in
    let one : declarator_rows c.push.new.self ≡ declarator_row c.args.first ∷ [] = ap (λ xs. map declarator_of (map (λ b. b.value) xs)) (c.in-Ok-allocated.ensures.items ∙ ap (λ xs. xs ++ c.args.first ∷ []) c.new-all.ensures.items) in
    record {
      going = subst (λ all. Gathering starts_declarator (read_next_declarator (inside c.args.scope.names.now c.args.scope.fuel) c.args.scope.depth) after_declarator list_close whole all (counting_of c.args.scope.is_alone c.args.tokens.now.count) (list_of c.args.tokens.now.rest.now)) (sym one) (gathering-start starts_declarator (read_next_declarator (inside c.args.scope.names.now c.args.scope.fuel) c.args.scope.depth) after_declarator list_close (declarator_row c.args.first ∷ []) (counting_of c.args.scope.is_alone c.args.tokens.now.count) (list_of c.args.tokens.now.rest.now));
      ends = c.member_end-end.ensures ∙ ap (λ d. member_end (declarator_of d)) c.deref.ensures ∙ ap list_end (sym one);
      counted = subst (λ xs. advance (counting_of c.args.scope.is_alone c.args.before) (operators_of_declarators (syntax.declarators_of xs)) ≡ (counting_of c.args.scope.is_alone c.args.tokens.now.count)) (sym one) (advanced c.args.scope.is_alone c.args.before (operators_of_declarator (declarator_row c.args.first)) c.args.tokens.now.count 0 c.args.tokens.now.count (operators_of_declarators (syntax.declarators_of (declarator_row c.args.first ∷ []))) c.requires.before (stays c.args.scope.is_alone c.args.tokens.now.count) refl);
      within = c.requires.fits.1;
      fewer = omega arith;
    }

pub specifier::more_declarators-items-preserved : goal.specifier::more_declarators-items-preserved
specifier::more_declarators-items-preserved t c =
    let whole = read_more_declarators (inside c.args.scope.names.now c.args.scope.fuel) c.args.scope.depth (counting_of c.args.scope.is_alone c.args.tokens.now.count) (declarator_row c.args.first) (list_of c.args.tokens.now.rest.now) in
    let read = declarator_rows c.items.all in
    let x = declarator_row c.in-Ok-attempt.field-0 in
    let rest = c.next_declarator.new.tokens.rest.now in
    let count = c.next_declarator.new.tokens.count in
    let rows : declarator_rows c.push-in-items.new.self ≡ read ++ x ∷ [] = ap (λ xs. map declarator_of (map (λ b. b.value) xs)) c.in-Ok-allocated-2.ensures.items ∙ boxes-more declarator_of c.items.all.items c.in-Ok-attempt.field-0 in
    record {
      going = subst (λ all. Gathering starts_declarator (read_next_declarator (inside c.args.scope.names.now c.args.scope.fuel) c.args.scope.depth) after_declarator list_close whole all (counting_of c.args.scope.is_alone count) (list_of rest)) (sym rows) (gathering-step starts_declarator (read_next_declarator (inside c.args.scope.names.now c.args.scope.fuel) c.args.scope.depth) after_declarator list_close whole read (counting_of c.args.scope.is_alone c.items.tokens.count) (counting_of c.args.scope.is_alone count) x c.items.tokens.rest.now rest c.items.invariant.going (begins-next (λ (_ : Counting). is_mark punctuator.Comma) (counting_of c.args.scope.is_alone c.items.tokens.count) (list_of c.items.tokens.rest.now) ∙ sym c.next_is.ensures ∙ c.items-test.true) c.in-Ok-attempt.ensures.gives c.in-Ok-attempt.ensures.shorter c.in-Ok-attempt.ensures.counted.0);
      ends = c.member_end-end-in-items.ensures ∙ ap (λ d. member_end (declarator_of d)) c.deref-in-items.ensures ∙ sym (ap list_end rows ∙ end-last read x);
      counted = advanced c.args.scope.is_alone c.args.before (operators_of_declarators (syntax.declarators_of read)) c.items.tokens.count (operators_of_declarator x) count (operators_of_declarators (syntax.declarators_of (declarator_rows c.push-in-items.new.self))) c.items.invariant.counted c.in-Ok-attempt.ensures.counted.0 (ap (λ xs. operators_of_declarators (syntax.declarators_of xs)) rows ∙ declarators-more read x);
      within = c.in-Ok-attempt.ensures.counted.1;
      fewer = omega (arith, c.in-Ok-attempt.ensures.shorter, c.items.invariant.fewer);
    }

pub specifier::more_declarators-returns-in-items : goal.specifier::more_declarators-returns-in-items
specifier::more_declarators-returns-in-items t c =
    let whole = read_more_declarators (inside c.args.scope.names.now c.args.scope.fuel) c.args.scope.depth (counting_of c.args.scope.is_alone c.args.tokens.now.count) (declarator_row c.args.first) (list_of c.args.tokens.now.rest.now) in
    let part = (read_next_declarator (inside c.args.scope.names.now c.args.scope.fuel) c.args.scope.depth) (counting_of c.args.scope.is_alone c.items.tokens.count) (list_of c.items.tokens.rest.now) in
    stops part whole declarator_row declarators_in _ c.in-Err-attempt.field-0 c.in-Err-attempt.ensures (gathering-fault starts_declarator (read_next_declarator (inside c.args.scope.names.now c.args.scope.fuel) c.args.scope.depth) after_declarator list_close whole (declarator_rows c.items.all) (counting_of c.args.scope.is_alone c.items.tokens.count) (list_of c.items.tokens.rest.now) c.items.invariant.going (begins-next (λ (_ : Counting). is_mark punctuator.Comma) (counting_of c.args.scope.is_alone c.items.tokens.count) (list_of c.items.tokens.rest.now) ∙ sym c.next_is.ensures ∙ c.items-test.true))

more_declarators-closed : (inner : Parsers) (depth : ℕ) (counting : Counting) (whole : Outcome Placed Role tree.Declarators) (rows : List tree.Declarator) (end : Role) (tokens : List Placed) → whole ≡ list_close rows tokens → end ≡ list_end rows → whole ≡ bind (token end (expected end) (mark_offset punctuator.Semicolon) tokens) (λ _ last. Ok (syntax.declarators_of rows, last))
more_declarators-closed inner depth counting whole rows end tokens is ends =
    is ∙ ap (λ role. bind (token role (expected role) (mark_offset punctuator.Semicolon) tokens) (λ _ last. Ok (types.declarators_of rows, last))) (sym ends) ∙ ap (λ made. bind (token end (expected end) (mark_offset punctuator.Semicolon) tokens) (λ _ last. Ok (made, last))) (same-declarators rows)

pub specifier::more_declarators-returns-2 : goal.specifier::more_declarators-returns-2
specifier::more_declarators-returns-2 t c =
    let whole = read_more_declarators (inside c.args.scope.names.now c.args.scope.fuel) c.args.scope.depth (counting_of c.args.scope.is_alone c.args.tokens.now.count) (declarator_row c.args.first) (list_of c.args.tokens.now.rest.now) in
    let closed = more_declarators-closed (inside c.args.scope.names.now c.args.scope.fuel) c.args.scope.depth (counting_of c.args.scope.is_alone c.args.tokens.now.count) whole (declarator_rows c.items.all) c.items.end (list_of c.items.tokens.rest.now) (gathering-end starts_declarator (read_next_declarator (inside c.args.scope.names.now c.args.scope.fuel) c.args.scope.depth) after_declarator list_close whole (declarator_rows c.items.all) (counting_of c.args.scope.is_alone c.items.tokens.count) (list_of c.items.tokens.rest.now) c.items.invariant.going (begins-next (λ (_ : Counting). is_mark punctuator.Comma) (counting_of c.args.scope.is_alone c.items.tokens.count) (list_of c.items.tokens.rest.now) ∙ sym c.next_is.ensures ∙ c.items-test.false)) c.items.invariant.ends in
    stops (token c.items.end (expected c.items.end) (mark_offset punctuator.Semicolon) (list_of c.items.tokens.rest.now)) whole (λ x. x) declarators_in _ c.in-Err-attempt-2.field-0 c.in-Err-attempt-2.ensures.gives (λ fault e. closed ∙ ap (λ o. bind o (λ _ last. Ok (declarators_in c.items.all, last))) e)

pub specifier::more_declarators-returns-3 : goal.specifier::more_declarators-returns-3
specifier::more_declarators-returns-3 t c =
    let whole = read_more_declarators (inside c.args.scope.names.now c.args.scope.fuel) c.args.scope.depth (counting_of c.args.scope.is_alone c.args.tokens.now.count) (declarator_row c.args.first) (list_of c.args.tokens.now.rest.now) in
    let closed = more_declarators-closed (inside c.args.scope.names.now c.args.scope.fuel) c.args.scope.depth (counting_of c.args.scope.is_alone c.args.tokens.now.count) whole (declarator_rows c.items.all) c.items.end (list_of c.items.tokens.rest.now) (gathering-end starts_declarator (read_next_declarator (inside c.args.scope.names.now c.args.scope.fuel) c.args.scope.depth) after_declarator list_close whole (declarator_rows c.items.all) (counting_of c.args.scope.is_alone c.items.tokens.count) (list_of c.items.tokens.rest.now) c.items.invariant.going (begins-next (λ (_ : Counting). is_mark punctuator.Comma) (counting_of c.args.scope.is_alone c.items.tokens.count) (list_of c.items.tokens.rest.now) ∙ sym c.next_is.ensures ∙ c.items-test.false)) c.items.invariant.ends in
    record {
      gives = closed ∙ ap (λ o. bind o (λ _ last. Ok (declarators_in c.items.all, last))) c.in-Ok-attempt-2.ensures.gives;
      counted = recounted c.args.scope.is_alone c.args.before c.args.before (operators_of_declarators (declarators_in c.items.all)) c.items.tokens.count c.mark.new.self.count refl c.mark.ensures.count (c.items.invariant.counted, c.items.invariant.within);
      shorter = omega (arith, c.in-Ok-attempt-2.ensures.shorter, c.items.invariant.fewer);
    }

pub specifier::lengths-items-init : goal.specifier::lengths-items-init
specifier::lengths-items-init t c =
    let whole = read_lengths_from (length_rows c.args.given) (inside c.args.scope.names.now c.args.scope.fuel) c.args.scope.depth (counting_of c.args.scope.is_alone c.args.tokens.now.count) (list_of c.args.tokens.now.rest.now) in
    record {
      going = gathering-start starts_length (types.read_length (inside c.args.scope.names.now c.args.scope.fuel) c.args.scope.depth) after_length (λ rows last. Ok (types.expressions_of rows, last)) (length_rows c.args.given) (counting_of c.args.scope.is_alone c.args.tokens.now.count) (list_of c.args.tokens.now.rest.now);
      counted = c.requires.before;
      within = c.requires.fits.1;
      fewer = omega arith;
    }

pub specifier::lengths-items-preserved : goal.specifier::lengths-items-preserved
specifier::lengths-items-preserved t c =
    let whole = read_lengths_from (length_rows c.args.given) (inside c.args.scope.names.now c.args.scope.fuel) c.args.scope.depth (counting_of c.args.scope.is_alone c.args.tokens.now.count) (list_of c.args.tokens.now.rest.now) in
    let read = length_rows c.items.all in
    let x = tree_of c.in-Ok-attempt.field-0 in
    let rest = c.length.new.tokens.rest.now in
    let count = c.length.new.tokens.count in
    let rows : length_rows c.push.new.self ≡ read ++ x ∷ [] = ap (λ xs. map expression_of (map (λ b. b.value) xs)) c.in-Ok-allocated.ensures.items ∙ boxes-more expression_of c.items.all.items c.in-Ok-attempt.field-0 in
    record {
      going = subst (λ all. Gathering starts_length (types.read_length (inside c.args.scope.names.now c.args.scope.fuel) c.args.scope.depth) after_length (λ rows last. Ok (types.expressions_of rows, last)) whole all (counting_of c.args.scope.is_alone count) (list_of rest)) (sym rows) (gathering-step starts_length (types.read_length (inside c.args.scope.names.now c.args.scope.fuel) c.args.scope.depth) after_length (λ rows last. Ok (types.expressions_of rows, last)) whole read (counting_of c.args.scope.is_alone c.items.tokens.count) (counting_of c.args.scope.is_alone count) x c.items.tokens.rest.now rest c.items.invariant.going (begins-next (λ (_ : Counting). is_mark punctuator.LeftBracket) (counting_of c.args.scope.is_alone c.items.tokens.count) (list_of c.items.tokens.rest.now) ∙ sym c.next_is.ensures ∙ c.items-test.true) c.in-Ok-attempt.ensures.gives c.in-Ok-attempt.ensures.shorter c.in-Ok-attempt.ensures.counted.0);
      counted = advanced c.args.scope.is_alone c.args.before (operators_of_lengths (syntax.expressions_of read)) c.items.tokens.count (operators x) count (operators_of_lengths (syntax.expressions_of (length_rows c.push.new.self))) c.items.invariant.counted c.in-Ok-attempt.ensures.counted.0 (ap (λ xs. operators_of_lengths (syntax.expressions_of xs)) rows ∙ lengths-more read x);
      within = c.in-Ok-attempt.ensures.counted.1;
      fewer = omega (arith, c.in-Ok-attempt.ensures.shorter, c.items.invariant.fewer);
    }

pub specifier::lengths-returns-in-items : goal.specifier::lengths-returns-in-items
specifier::lengths-returns-in-items t c =
    let whole = read_lengths_from (length_rows c.args.given) (inside c.args.scope.names.now c.args.scope.fuel) c.args.scope.depth (counting_of c.args.scope.is_alone c.args.tokens.now.count) (list_of c.args.tokens.now.rest.now) in
    let part = (types.read_length (inside c.args.scope.names.now c.args.scope.fuel) c.args.scope.depth) (counting_of c.args.scope.is_alone c.items.tokens.count) (list_of c.items.tokens.rest.now) in
    stops part whole tree_of expressions_in _ c.in-Err-attempt.field-0 c.in-Err-attempt.ensures (gathering-fault starts_length (types.read_length (inside c.args.scope.names.now c.args.scope.fuel) c.args.scope.depth) after_length (λ rows last. Ok (types.expressions_of rows, last)) whole (length_rows c.items.all) (counting_of c.args.scope.is_alone c.items.tokens.count) (list_of c.items.tokens.rest.now) c.items.invariant.going (begins-next (λ (_ : Counting). is_mark punctuator.LeftBracket) (counting_of c.args.scope.is_alone c.items.tokens.count) (list_of c.items.tokens.rest.now) ∙ sym c.next_is.ensures ∙ c.items-test.true))

pub specifier::lengths-returns : goal.specifier::lengths-returns
specifier::lengths-returns t c =
    record {
      gives = gathering-end starts_length (types.read_length (inside c.args.scope.names.now c.args.scope.fuel) c.args.scope.depth) after_length (λ rows last. Ok (types.expressions_of rows, last)) (read_lengths_from (length_rows c.args.given) (inside c.args.scope.names.now c.args.scope.fuel) c.args.scope.depth (counting_of c.args.scope.is_alone c.args.tokens.now.count) (list_of c.args.tokens.now.rest.now)) (length_rows c.items.all) (counting_of c.args.scope.is_alone c.items.tokens.count) (list_of c.items.tokens.rest.now) c.items.invariant.going (begins-next (λ (_ : Counting). is_mark punctuator.LeftBracket) (counting_of c.args.scope.is_alone c.items.tokens.count) (list_of c.items.tokens.rest.now) ∙ sym c.next_is.ensures ∙ c.items-test.false) ∙ ap (λ made. Ok (made, list_of c.items.tokens.rest.now)) (same-lengths (length_rows c.items.all));
      counted = (c.items.invariant.counted, c.items.invariant.within);
      shorter = c.items.invariant.fewer;
    }

pub specifier::more_constants-items-init : goal.specifier::more_constants-items-init
specifier::more_constants-items-init t c =
    record {
      going = constants-start (names_of c.args.scope.names.now) (inside c.args.scope.names.now c.args.scope.fuel) c.args.scope.depth (constant_rows c.args.rows.now) (types.AfterConstant c.args.end (counting_of c.args.scope.is_alone c.args.tokens.now.count)) (list_of c.args.tokens.now.rest.now);
      counted = c.requires.before;
      within = c.requires.fits.1;
      fewer = omega arith;
    }

pub specifier::more_constants-items-preserved : goal.specifier::more_constants-items-preserved
specifier::more_constants-items-preserved t c =
    let whole = read_constants_from (names_of c.args.scope.names.now) (inside c.args.scope.names.now c.args.scope.fuel) c.args.scope.depth (constant_rows c.args.rows.now) (types.AfterConstant c.args.end (counting_of c.args.scope.is_alone c.args.tokens.now.count)) (list_of c.args.tokens.now.rest.now) in
    let read = constant_rows c.items.rows in
    let x = constant_row c.in-Ok-attempt-next.field-0 in
    let rest = c.constant.new.tokens.rest.now in
    let count = c.constant.new.tokens.count in
    let same = c.mark.ensures.count in
    let comma = constants-comma (names_of c.args.scope.names.now) (inside c.args.scope.names.now c.args.scope.fuel) c.args.scope.depth whole (constant_rows c.items.rows) c.items.end (counting_of c.args.scope.is_alone c.items.tokens.count) c.in-Ok-attempt.field-0 c.items.tokens.rest.now c.mark.new.self.rest.now c.items.invariant.going (sym c.next_is.ensures ∙ c.items-test.true) c.in-Ok-attempt.ensures.gives (omega (arith, c.in-Ok-attempt.ensures.shorter)) in
    let rows : constant_rows c.push.new.self ≡ read ++ x ∷ [] = ap (λ xs. map constant_of (map (λ b. b.value) xs)) c.in-Ok-allocated.ensures.items ∙ boxes-more constant_of c.items.rows.items c.in-Ok-attempt-next.field-0 in
    let part = subst (λ n. types.read_constant (names_of c.args.scope.names.now) (inside c.args.scope.names.now c.args.scope.fuel) c.args.scope.depth (counting_of c.args.scope.is_alone n) (list_of c.mark.new.self.rest.now) ≡ Ok (x, list_of rest)) same c.in-Ok-attempt-next.ensures.gives in
    let counted = subst (λ n. advance (counting_of c.args.scope.is_alone n) (types.operators_of_constant x) ≡ counting_of c.args.scope.is_alone count) same c.in-Ok-attempt-next.ensures.counted.0 in
    let step = constants-step (names_of c.args.scope.names.now) (inside c.args.scope.names.now c.args.scope.fuel) c.args.scope.depth whole read (counting_of c.args.scope.is_alone c.items.tokens.count) x c.mark.new.self.rest.now rest comma (sym c.starts_plain_name.ensures ∙ c.if-not-starts_plain_name.false) part c.in-Ok-attempt-next.ensures.shorter in
    record {
      going = subst (λ all. Constants (names_of c.args.scope.names.now) (inside c.args.scope.names.now c.args.scope.fuel) c.args.scope.depth whole all (types.AfterConstant c.constant_end-end.result (counting_of c.args.scope.is_alone count)) (list_of rest)) (sym rows)
          (subst (λ end. Constants (names_of c.args.scope.names.now) (inside c.args.scope.names.now c.args.scope.fuel) c.args.scope.depth whole (read ++ x ∷ []) (types.AfterConstant end (counting_of c.args.scope.is_alone count)) (list_of rest)) (sym (c.constant_end-end.ensures ∙ ap (λ d. types.constant_end (constant_of d)) c.deref.ensures))
          (subst (λ counting. Constants (names_of c.args.scope.names.now) (inside c.args.scope.names.now c.args.scope.fuel) c.args.scope.depth whole (read ++ x ∷ []) (types.AfterConstant (types.constant_end x) counting) (list_of rest)) counted step));
      counted = advanced c.args.scope.is_alone c.args.before (operators_of_constants (syntax.constants_of read)) c.items.tokens.count (types.operators_of_constant x) count (operators_of_constants (syntax.constants_of (constant_rows c.push.new.self))) c.items.invariant.counted counted (ap (λ xs. operators_of_constants (syntax.constants_of xs)) rows ∙ constants-more read x);
      within = c.in-Ok-attempt-next.ensures.counted.1;
      fewer = omega (arith, c.in-Ok-attempt.ensures.shorter, c.in-Ok-attempt-next.ensures.shorter, c.items.invariant.fewer);
    }

pub specifier::more_constants-returns-in-items : goal.specifier::more_constants-returns-in-items
specifier::more_constants-returns-in-items t c =
    let whole = read_constants_from (names_of c.args.scope.names.now) (inside c.args.scope.names.now c.args.scope.fuel) c.args.scope.depth (constant_rows c.args.rows.now) (types.AfterConstant c.args.end (counting_of c.args.scope.is_alone c.args.tokens.now.count)) (list_of c.args.tokens.now.rest.now) in
    stops (token Nothing plain (mark_offset punctuator.Comma) (list_of c.items.tokens.rest.now)) whole (λ x. x) (λ end. (constant_rows c.items.rows, end)) _ c.in-Err-attempt.field-0 c.in-Err-attempt.ensures.gives (comma-fault (names_of c.args.scope.names.now) (inside c.args.scope.names.now c.args.scope.fuel) c.args.scope.depth whole (constant_rows c.items.rows) c.items.end (counting_of c.args.scope.is_alone c.items.tokens.count) (list_of c.items.tokens.rest.now) c.items.invariant.going (sym c.next_is.ensures ∙ c.items-test.true))

pub specifier::more_constants-returns-in-items-2 : goal.specifier::more_constants-returns-in-items-2
specifier::more_constants-returns-in-items-2 t c =
    let whole = read_constants_from (names_of c.args.scope.names.now) (inside c.args.scope.names.now c.args.scope.fuel) c.args.scope.depth (constant_rows c.args.rows.now) (types.AfterConstant c.args.end (counting_of c.args.scope.is_alone c.args.tokens.now.count)) (list_of c.args.tokens.now.rest.now) in
    let comma = constants-comma (names_of c.args.scope.names.now) (inside c.args.scope.names.now c.args.scope.fuel) c.args.scope.depth whole (constant_rows c.items.rows) c.items.end (counting_of c.args.scope.is_alone c.items.tokens.count) c.in-Ok-attempt.field-0 c.items.tokens.rest.now c.mark.new.self.rest.now c.items.invariant.going (sym c.next_is.ensures ∙ c.items-test.true) c.in-Ok-attempt.ensures.gives (omega (arith, c.in-Ok-attempt.ensures.shorter)) in
    let part = types.read_constant (names_of c.args.scope.names.now) (inside c.args.scope.names.now c.args.scope.fuel) c.args.scope.depth (counting_of c.args.scope.is_alone c.items.tokens.count) (list_of c.mark.new.self.rest.now) in
    let given = subst (λ n. Gives (types.read_constant (names_of c.args.scope.names.now) (inside c.args.scope.names.now c.args.scope.fuel) c.args.scope.depth (counting_of c.args.scope.is_alone n) (list_of c.mark.new.self.rest.now)) constant_row c.constant.new.tokens.rest.now (Err c.in-Err-attempt-next.field-0)) c.mark.ensures.count c.in-Err-attempt-next.ensures in
    stops part whole constant_row (λ end. (constant_rows c.items.rows, end)) _ c.in-Err-attempt-next.field-0 given (constants-fault (names_of c.args.scope.names.now) (inside c.args.scope.names.now c.args.scope.fuel) c.args.scope.depth whole (constant_rows c.items.rows) (counting_of c.args.scope.is_alone c.items.tokens.count) (list_of c.mark.new.self.rest.now) comma (sym c.starts_plain_name.ensures ∙ c.if-not-starts_plain_name.false))

pub specifier::more_constants-returns-then-not-starts_plain_name : goal.specifier::more_constants-returns-then-not-starts_plain_name
specifier::more_constants-returns-then-not-starts_plain_name t c =
    let whole = read_constants_from (names_of c.args.scope.names.now) (inside c.args.scope.names.now c.args.scope.fuel) c.args.scope.depth (constant_rows c.args.rows.now) (types.AfterConstant c.args.end (counting_of c.args.scope.is_alone c.args.tokens.now.count)) (list_of c.args.tokens.now.rest.now) in
    record {
      gives = constants-end_comma (names_of c.args.scope.names.now) (inside c.args.scope.names.now c.args.scope.fuel) c.args.scope.depth whole (constant_rows c.items.rows) (counting_of c.args.scope.is_alone c.items.tokens.count) (list_of c.mark.new.self.rest.now) (constants-comma (names_of c.args.scope.names.now) (inside c.args.scope.names.now c.args.scope.fuel) c.args.scope.depth whole (constant_rows c.items.rows) c.items.end (counting_of c.args.scope.is_alone c.items.tokens.count) c.in-Ok-attempt.field-0 c.items.tokens.rest.now c.mark.new.self.rest.now c.items.invariant.going (sym c.next_is.ensures ∙ c.items-test.true) c.in-Ok-attempt.ensures.gives (omega (arith, c.in-Ok-attempt.ensures.shorter))) (sym c.starts_plain_name.ensures ∙ c.if-not-starts_plain_name.true);
      counted = recounted c.args.scope.is_alone c.args.before c.args.before (operators_of_constants (constants_in c.items.rows)) c.items.tokens.count c.mark.new.self.count refl c.mark.ensures.count (c.items.invariant.counted, c.items.invariant.within);
      shorter = omega (arith, c.in-Ok-attempt.ensures.shorter, c.items.invariant.fewer);
    }

pub specifier::more_constants-returns : goal.specifier::more_constants-returns
specifier::more_constants-returns t c =
    let whole = read_constants_from (names_of c.args.scope.names.now) (inside c.args.scope.names.now c.args.scope.fuel) c.args.scope.depth (constant_rows c.args.rows.now) (types.AfterConstant c.args.end (counting_of c.args.scope.is_alone c.args.tokens.now.count)) (list_of c.args.tokens.now.rest.now) in
    record {
      gives = constants-end (names_of c.args.scope.names.now) (inside c.args.scope.names.now c.args.scope.fuel) c.args.scope.depth whole (constant_rows c.items.rows) c.items.end (counting_of c.args.scope.is_alone c.items.tokens.count) (list_of c.items.tokens.rest.now) c.items.invariant.going (sym c.next_is.ensures ∙ c.items-test.false);
      counted = (c.items.invariant.counted, c.items.invariant.within);
      shorter = c.items.invariant.fewer;
    }

pub specifier::members-returns-2 : goal.specifier::members-returns-2
specifier::members-returns-2 t c =
    let whole = types.read_members (names_of c.args.scope.names.now) (inside c.args.scope.names.now c.args.scope.fuel) c.args.scope.depth (counting_of c.args.scope.is_alone c.args.tokens.now.count) (list_of c.args.tokens.now.rest.now) in
    let begun = members-begun (names_of c.args.scope.names.now) (inside c.args.scope.names.now c.args.scope.fuel) c.args.scope.depth (c.args.scope.depth + 1) c.args.scope.is_alone c.args.tokens.now.count c.opening.new.self.count c.in-Ok-attempt.field-0 (list_of c.args.tokens.now.rest.now) (list_of c.opening.new.self.rest.now) (omega arith) c.in-Ok-attempt.ensures.counted.1 c.in-Ok-attempt.ensures.gives in
    stops (read_all_members (names_of c.args.scope.names.now) (inside c.args.scope.names.now c.args.scope.fuel) (c.args.scope.depth + 1) (counting_of c.args.scope.is_alone c.opening.new.self.count) (list_of c.opening.new.self.rest.now)) whole members_in members_in _ c.in-Err-attempt-rows.field-0 c.in-Err-attempt-rows.ensures (λ fault e. begun ∙ ap (λ o. bind o close_members) e)

pub specifier::members-returns-3 : goal.specifier::members-returns-3
specifier::members-returns-3 t c =
    let whole = types.read_members (names_of c.args.scope.names.now) (inside c.args.scope.names.now c.args.scope.fuel) c.args.scope.depth (counting_of c.args.scope.is_alone c.args.tokens.now.count) (list_of c.args.tokens.now.rest.now) in
    let begun = members-begun (names_of c.args.scope.names.now) (inside c.args.scope.names.now c.args.scope.fuel) c.args.scope.depth (c.args.scope.depth + 1) c.args.scope.is_alone c.args.tokens.now.count c.opening.new.self.count c.in-Ok-attempt.field-0 (list_of c.args.tokens.now.rest.now) (list_of c.opening.new.self.rest.now) (omega arith) c.in-Ok-attempt.ensures.counted.1 c.in-Ok-attempt.ensures.gives in
    stops (token Nothing plain (mark_offset punctuator.RightBrace) (list_of c.all_members.new.tokens.rest.now)) whole (λ x. x) members_in _ c.in-Err-attempt-2.field-0 c.in-Err-attempt-2.ensures.gives (λ fault e. begun ∙ ap (λ o. bind o close_members) c.in-Ok-attempt-rows.ensures.gives ∙ ap (λ o. bind o (λ _ last. Ok (members_in c.in-Ok-attempt-rows.field-0, last))) e)

pub specifier::members-returns-4 : goal.specifier::members-returns-4
specifier::members-returns-4 t c =
    let begun = members-begun (names_of c.args.scope.names.now) (inside c.args.scope.names.now c.args.scope.fuel) c.args.scope.depth (c.args.scope.depth + 1) c.args.scope.is_alone c.args.tokens.now.count c.opening.new.self.count c.in-Ok-attempt.field-0 (list_of c.args.tokens.now.rest.now) (list_of c.opening.new.self.rest.now) (omega arith) c.in-Ok-attempt.ensures.counted.1 c.in-Ok-attempt.ensures.gives in
    record {
      gives = begun ∙ ap (λ o. bind o close_members) c.in-Ok-attempt-rows.ensures.gives ∙ ap (λ o. bind o (λ _ last. Ok (members_in c.in-Ok-attempt-rows.field-0, last))) c.in-Ok-attempt-2.ensures.gives;
      counted = recounted c.args.scope.is_alone c.args.tokens.now.count c.opening.new.self.count (operators_of_members (members_in c.in-Ok-attempt-rows.field-0)) c.all_members.new.tokens.count c.mark.new.self.count c.in-Ok-attempt.ensures.counted.1 c.mark.ensures.count c.in-Ok-attempt-rows.ensures.counted;
      shorter = omega (arith, c.in-Ok-attempt.ensures.shorter, c.in-Ok-attempt-rows.ensures.shorter, c.in-Ok-attempt-2.ensures.shorter);
    }

pub specifier::open_array-returns-2 : goal.specifier::open_array-returns-2
specifier::open_array-returns-2 t c =
    let whole = read_open_array (inside c.args.scope.names.now c.args.scope.fuel) c.args.scope.depth (counting_of c.args.scope.is_alone c.args.tokens.now.count) (list_of c.args.tokens.now.rest.now) in
    let begun = open-begun (inside c.args.scope.names.now c.args.scope.fuel) c.args.scope.depth c.args.scope.is_alone c.args.tokens.now.count c.mark.new.self.count c.in-Ok-attempt.field-0 (length_rows c.new-none.result) (list_of c.args.tokens.now.rest.now) (list_of c.mark.new.self.rest.now) c.mark.ensures.count (ap (λ xs. map expression_of (map (λ b. b.value) xs)) c.new-none.ensures.items) c.in-Ok-attempt.ensures.gives in
    stops (read_lengths_from (length_rows c.new-none.result) (inside c.args.scope.names.now c.args.scope.fuel) c.args.scope.depth (counting_of c.args.scope.is_alone c.mark.new.self.count) (list_of c.mark.new.self.rest.now)) whole expressions_in array_of _ c.in-Err-attempt-all.field-0 c.in-Err-attempt-all.ensures (λ fault e. begun ∙ ap (λ o. bind o (λ lengths last. Ok ((true, lengths), last))) e)

pub specifier::open_array-returns-4 : goal.specifier::open_array-returns-4
specifier::open_array-returns-4 t c =
    let begun = open-begun (inside c.args.scope.names.now c.args.scope.fuel) c.args.scope.depth c.args.scope.is_alone c.args.tokens.now.count c.mark.new.self.count c.in-Ok-attempt.field-0 (length_rows c.new-none.result) (list_of c.args.tokens.now.rest.now) (list_of c.mark.new.self.rest.now) c.mark.ensures.count (ap (λ xs. map expression_of (map (λ b. b.value) xs)) c.new-none.ensures.items) c.in-Ok-attempt.ensures.gives in
    record {
      gives = begun ∙ ap (λ o. bind o (λ lengths last. Ok ((true, lengths), last))) c.in-Ok-attempt-all.ensures.gives ∙ ap (λ array. Ok (array, list_of c.lengths.new.tokens.rest.now)) (sym c.in-Ok-allocated.ensures);
      counted = subst (λ array. IsAdvanced c.args.scope.is_alone c.args.tokens.now.count (operators_of_array array) c.lengths.new.tokens.count) (sym c.in-Ok-allocated.ensures) (recounted c.args.scope.is_alone c.args.tokens.now.count c.mark.new.self.count (operators_of_lengths (expressions_in c.in-Ok-attempt-all.field-0)) c.lengths.new.tokens.count c.lengths.new.tokens.count c.mark.ensures.count refl c.in-Ok-attempt-all.ensures.counted);
      shorter = omega (arith, c.in-Ok-attempt.ensures.shorter, c.in-Ok-attempt-all.ensures.shorter);
    }

pub specifier::given_array-returns-3 : goal.specifier::given_array-returns-3
specifier::given_array-returns-3 t c =
    let whole = read_given_array (inside c.args.scope.names.now c.args.scope.fuel) c.args.scope.depth (counting_of c.args.scope.is_alone c.args.tokens.now.count) (list_of c.args.tokens.now.rest.now) in
    let begun = given-begun (inside c.args.scope.names.now c.args.scope.fuel) c.args.scope.depth (c.args.scope.depth + 1) c.args.scope.is_alone c.args.tokens.now.count c.begin_whole.new.tokens.count c.ended.new.tokens.count (tree_of c.in-Ok-attempt.field-0) (length_rows c.push.new.self) (list_of c.args.tokens.now.rest.now) (list_of c.ended.new.tokens.rest.now) (omega arith) c.begin_whole.ensures.count (ap (λ xs. map expression_of (map (λ b. b.value) xs)) (c.in-Ok-allocated.ensures.items ∙ ap (λ xs. xs ++ c.in-Ok-attempt.field-0 ∷ []) c.new-given.ensures.items)) (counted c.args.scope.is_alone c.args.tokens.now.count c.begin_whole.new.tokens.count (operators (tree_of c.in-Ok-attempt.field-0)) c.ended.new.tokens.count c.begin_whole.ensures.count c.in-Ok-attempt.ensures.counted.0) (subst (λ ref. read_ended (inside c.args.scope.names.now c.args.scope.fuel) (c.args.scope.depth + 1) c.begin_whole.new.tokens.count punctuator.RightBracket (list_of ref.now) ≡ Ok (tree_of c.in-Ok-attempt.field-0, list_of c.ended.new.tokens.rest.now)) c.begin_whole.ensures.rest c.in-Ok-attempt.ensures.gives) in
    stops (read_lengths_from (length_rows c.push.new.self) (inside c.args.scope.names.now c.args.scope.fuel) c.args.scope.depth (counting_of c.args.scope.is_alone c.ended.new.tokens.count) (list_of c.ended.new.tokens.rest.now)) whole expressions_in array_of _ c.in-Err-attempt-all.field-0 c.in-Err-attempt-all.ensures (λ fault e. begun ∙ ap (λ o. bind o (λ lengths last. Ok ((false, lengths), last))) e)

pub specifier::given_array-returns-5 : goal.specifier::given_array-returns-5
specifier::given_array-returns-5 t c =
    let begun = given-begun (inside c.args.scope.names.now c.args.scope.fuel) c.args.scope.depth (c.args.scope.depth + 1) c.args.scope.is_alone c.args.tokens.now.count c.begin_whole.new.tokens.count c.ended.new.tokens.count (tree_of c.in-Ok-attempt.field-0) (length_rows c.push.new.self) (list_of c.args.tokens.now.rest.now) (list_of c.ended.new.tokens.rest.now) (omega arith) c.begin_whole.ensures.count (ap (λ xs. map expression_of (map (λ b. b.value) xs)) (c.in-Ok-allocated.ensures.items ∙ ap (λ xs. xs ++ c.in-Ok-attempt.field-0 ∷ []) c.new-given.ensures.items)) (counted c.args.scope.is_alone c.args.tokens.now.count c.begin_whole.new.tokens.count (operators (tree_of c.in-Ok-attempt.field-0)) c.ended.new.tokens.count c.begin_whole.ensures.count c.in-Ok-attempt.ensures.counted.0) (subst (λ ref. read_ended (inside c.args.scope.names.now c.args.scope.fuel) (c.args.scope.depth + 1) c.begin_whole.new.tokens.count punctuator.RightBracket (list_of ref.now) ≡ Ok (tree_of c.in-Ok-attempt.field-0, list_of c.ended.new.tokens.rest.now)) c.begin_whole.ensures.rest c.in-Ok-attempt.ensures.gives) in
    record {
      gives = begun ∙ ap (λ o. bind o (λ lengths last. Ok ((false, lengths), last))) c.in-Ok-attempt-all.ensures.gives ∙ ap (λ array. Ok (array, list_of c.lengths.new.tokens.rest.now)) (sym c.in-Ok-allocated-2.ensures);
      counted = subst (λ array. IsAdvanced c.args.scope.is_alone c.args.tokens.now.count (operators_of_array array) c.lengths.new.tokens.count) (sym c.in-Ok-allocated-2.ensures) c.in-Ok-attempt-all.ensures.counted;
      shorter = let same : length c.begin_whole.new.tokens.rest.now ≡ length c.args.tokens.now.rest.now = ap (λ ref. length ref.now) c.begin_whole.ensures.rest in omega (arith, same, c.in-Ok-attempt.ensures.shorter, c.in-Ok-attempt-all.ensures.shorter);
    }

pub specifier::member_list-returns-2 : goal.specifier::member_list-returns-2
specifier::member_list-returns-2 t c =
    let x = declarator_row c.in-Ok-attempt.field-0 in
    let same = declarators-first (inside c.args.scope.names.now c.args.scope.fuel) c.args.scope.depth (counting_of c.args.scope.is_alone c.args.tokens.now.count) x (list_of c.args.tokens.now.rest.now) (list_of c.declarator.new.tokens.rest.now) c.in-Ok-attempt.ensures.gives ∙ ap (λ counting. read_more_declarators (inside c.args.scope.names.now c.args.scope.fuel) c.args.scope.depth counting x (list_of c.declarator.new.tokens.rest.now)) c.in-Ok-attempt.ensures.counted.0 in
    stops (read_more_declarators (inside c.args.scope.names.now c.args.scope.fuel) c.args.scope.depth (counting_of c.args.scope.is_alone c.declarator.new.tokens.count) x (list_of c.declarator.new.tokens.rest.now)) (types.read_member_list (inside c.args.scope.names.now c.args.scope.fuel) c.args.scope.depth (counting_of c.args.scope.is_alone c.args.tokens.now.count) (list_of c.args.tokens.now.rest.now)) declarators_in declarators_in _ c.in-Err-attempt-2.field-0 c.in-Err-attempt-2.ensures (λ fault e. same ∙ e)

pub specifier::member_list-returns-3 : goal.specifier::member_list-returns-3
specifier::member_list-returns-3 t c =
    let x = declarator_row c.in-Ok-attempt.field-0 in
    let same = declarators-first (inside c.args.scope.names.now c.args.scope.fuel) c.args.scope.depth (counting_of c.args.scope.is_alone c.args.tokens.now.count) x (list_of c.args.tokens.now.rest.now) (list_of c.declarator.new.tokens.rest.now) c.in-Ok-attempt.ensures.gives ∙ ap (λ counting. read_more_declarators (inside c.args.scope.names.now c.args.scope.fuel) c.args.scope.depth counting x (list_of c.declarator.new.tokens.rest.now)) c.in-Ok-attempt.ensures.counted.0 in
    record {
      gives = same ∙ c.in-Ok-attempt-2.ensures.gives;
      counted = c.in-Ok-attempt-2.ensures.counted;
      shorter = omega (arith, c.in-Ok-attempt.ensures.shorter, c.in-Ok-attempt-2.ensures.shorter);
    }

pub specifier::constants-returns-4 : goal.specifier::constants-returns-4
specifier::constants-returns-4 t c =
    let whole = types.read_constants (names_of c.args.scope.names.now) (inside c.args.scope.names.now c.args.scope.fuel) c.args.scope.depth (counting_of c.args.scope.is_alone c.args.tokens.now.count) (list_of c.args.tokens.now.rest.now) in
    let begun = constants-begun (names_of c.args.scope.names.now) (inside c.args.scope.names.now c.args.scope.fuel) c.args.scope.depth (c.args.scope.depth + 1) c.args.scope.is_alone c.args.tokens.now.count c.opening.new.self.count c.constant.new.tokens.count c.in-Ok-attempt.field-0 (constant_row c.in-Ok-attempt-first.field-0) (constant_rows c.push.new.self) c.constant_end-end.result (list_of c.args.tokens.now.rest.now) (list_of c.opening.new.self.rest.now) (list_of c.constant.new.tokens.rest.now) (omega arith) c.in-Ok-attempt.ensures.counted.1 (ap (λ xs. map constant_of (map (λ b. b.value) xs)) (c.in-Ok-allocated.ensures.items ∙ ap (λ xs. xs ++ c.in-Ok-attempt-first.field-0 ∷ []) c.new-rows.ensures.items)) (c.constant_end-end.ensures ∙ ap (λ d. types.constant_end (constant_of d)) c.deref.ensures) c.in-Ok-attempt-first.ensures.counted.0 c.in-Ok-attempt.ensures.gives c.in-Ok-attempt-first.ensures.gives in
    stops (read_constants_from (names_of c.args.scope.names.now) (inside c.args.scope.names.now c.args.scope.fuel) (c.args.scope.depth + 1) (constant_rows c.push.new.self) (types.AfterConstant c.constant_end-end.result (counting_of c.args.scope.is_alone c.constant.new.tokens.count)) (list_of c.constant.new.tokens.rest.now)) whole (λ end. (constant_rows c.more_constants.new.rows, end)) constants_in _ c.in-Err-attempt-end.field-0 c.in-Err-attempt-end.ensures (λ fault e. begun ∙ ap (λ o. bind o close_constants) e)

pub specifier::constants-returns-5 : goal.specifier::constants-returns-5
specifier::constants-returns-5 t c =
    let whole = types.read_constants (names_of c.args.scope.names.now) (inside c.args.scope.names.now c.args.scope.fuel) c.args.scope.depth (counting_of c.args.scope.is_alone c.args.tokens.now.count) (list_of c.args.tokens.now.rest.now) in
    let begun = constants-begun (names_of c.args.scope.names.now) (inside c.args.scope.names.now c.args.scope.fuel) c.args.scope.depth (c.args.scope.depth + 1) c.args.scope.is_alone c.args.tokens.now.count c.opening.new.self.count c.constant.new.tokens.count c.in-Ok-attempt.field-0 (constant_row c.in-Ok-attempt-first.field-0) (constant_rows c.push.new.self) c.constant_end-end.result (list_of c.args.tokens.now.rest.now) (list_of c.opening.new.self.rest.now) (list_of c.constant.new.tokens.rest.now) (omega arith) c.in-Ok-attempt.ensures.counted.1 (ap (λ xs. map constant_of (map (λ b. b.value) xs)) (c.in-Ok-allocated.ensures.items ∙ ap (λ xs. xs ++ c.in-Ok-attempt-first.field-0 ∷ []) c.new-rows.ensures.items)) (c.constant_end-end.ensures ∙ ap (λ d. types.constant_end (constant_of d)) c.deref.ensures) c.in-Ok-attempt-first.ensures.counted.0 c.in-Ok-attempt.ensures.gives c.in-Ok-attempt-first.ensures.gives in
    stops (token c.in-Ok-attempt-end.field-0 (expected c.in-Ok-attempt-end.field-0) (mark_offset punctuator.RightBrace) (list_of c.more_constants.new.tokens.rest.now)) whole (λ x. x) constants_in _ c.in-Err-attempt-2.field-0 c.in-Err-attempt-2.ensures.gives (λ fault e. begun ∙ ap (λ o. bind o close_constants) c.in-Ok-attempt-end.ensures.gives ∙ ap (λ o. bind o (λ _ last. Ok (constants_in c.more_constants.new.rows, last))) e)

pub specifier::constants-returns-6 : goal.specifier::constants-returns-6
specifier::constants-returns-6 t c =
    let begun = constants-begun (names_of c.args.scope.names.now) (inside c.args.scope.names.now c.args.scope.fuel) c.args.scope.depth (c.args.scope.depth + 1) c.args.scope.is_alone c.args.tokens.now.count c.opening.new.self.count c.constant.new.tokens.count c.in-Ok-attempt.field-0 (constant_row c.in-Ok-attempt-first.field-0) (constant_rows c.push.new.self) c.constant_end-end.result (list_of c.args.tokens.now.rest.now) (list_of c.opening.new.self.rest.now) (list_of c.constant.new.tokens.rest.now) (omega arith) c.in-Ok-attempt.ensures.counted.1 (ap (λ xs. map constant_of (map (λ b. b.value) xs)) (c.in-Ok-allocated.ensures.items ∙ ap (λ xs. xs ++ c.in-Ok-attempt-first.field-0 ∷ []) c.new-rows.ensures.items)) (c.constant_end-end.ensures ∙ ap (λ d. types.constant_end (constant_of d)) c.deref.ensures) c.in-Ok-attempt-first.ensures.counted.0 c.in-Ok-attempt.ensures.gives c.in-Ok-attempt-first.ensures.gives in
    record {
      gives = begun ∙ ap (λ o. bind o close_constants) c.in-Ok-attempt-end.ensures.gives ∙ ap (λ o. bind o (λ _ last. Ok (constants_in c.more_constants.new.rows, last))) c.in-Ok-attempt-2.ensures.gives;
      counted = recounted c.args.scope.is_alone c.args.tokens.now.count c.opening.new.self.count (operators_of_constants (constants_in c.more_constants.new.rows)) c.more_constants.new.tokens.count c.mark.new.self.count c.in-Ok-attempt.ensures.counted.1 c.mark.ensures.count c.in-Ok-attempt-end.ensures.counted;
      shorter = omega (arith, c.in-Ok-attempt.ensures.shorter, c.in-Ok-attempt-first.ensures.shorter, c.in-Ok-attempt-end.ensures.shorter, c.in-Ok-attempt-2.ensures.shorter);
    }
