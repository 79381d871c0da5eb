-- Lists in types from their first.
use Rattle.std.proofs.Common.{◌≡◌, ℕ, suc, Bool, true, false, subst, List, [], ◌∷◌, ◌++◌, refl, ap, sym, ◌∙◌, Ok, Err, Option, Some, None}
use Rattle.c_token_spec.specs.declared.token.Punctuator.TheVariants as punctuator
use Rattle.c_token_spec.specs.Lexical.{Placed}
use Rattle.c_syntax_spec.specs.Expression as tree
use Rattle.c_parse_spec.specs.declared.Role.{Role}
use Rattle.c_parse_spec.specs.declared.Role.TheVariants.{Nothing}
use Rattle.c_parse_spec.specs.Leaves.{expected, opens, plain}
use Rattle.c_parse_spec.specs.Expressions.{Counting, advance, count_at, member_end, operators, operators_of_declarator}
use Rattle.exact_read.specs.Reading.{Outcome, Parser}
use Rattle.exact_read.specs.Grammar.{bind, read_then, read_many}
use Rattle.exact_read.proofs.Loops.{bind-ok}
use Rattle.c_parse_laws.specs.Classes.{mark_offset, name_at}
use Rattle.c_parse_laws.specs.Parsers.{Parsers, token}
use Rattle.c_parse_laws.specs.Types as types
use Rattle.c_syntax.specs.Expressions as syntax
use Rattle.c_parse_expression.specs.Steps.{starts_declarator, read_next_declarator, after_declarator, read_more_declarators, list_end, list_close, given, read_constants_from, counting_of, read_all_members, read_ended, read_open_array, read_given_array, read_lengths_from, starts_length, after_length}
use Rattle.c_parse_expression.proofs.Constants.{Row}

-- what is expected after the last declarator
pub end-last : (read : List tree.Declarator) (x : tree.Declarator) → list_end (read ++ x ∷ []) ≡ member_end x
end-last [] x = refl
end-last (y ∷ read) x = last y read
  where
    last : (y : tree.Declarator) (read : List tree.Declarator) → member_end (types.last_of y (read ++ x ∷ [])) ≡ member_end x
    last y [] = refl
    last y (z ∷ read) = last z read

abbrev pack_list : tree.Declarator × (List tree.Declarator × ℕ) → tree.Declarators
pack_list pair = tree.declarators pair.0 (types.declarators_of pair.1.0)

abbrev close_list : tree.Declarator → List tree.Declarator → Parser Placed Role ℕ
close_list first more = token (member_end (types.last_of first more)) (expected (member_end (types.last_of first more))) (mark_offset punctuator.Semicolon)

-- a list of declarators begins with one
pub declarators-first : (inner : Parsers) (depth : ℕ) (counting : Counting) (x : tree.Declarator) (tokens rest : List Placed) → types.read_declarator name_at inner depth counting tokens ≡ Ok (x, rest) → types.read_member_list inner depth counting tokens ≡ read_more_declarators inner depth (advance counting (operators_of_declarator x)) x rest
declarators-first inner depth counting x tokens rest e =
    ap (λ o. bind (bind o (λ first left. bind (read_then (many first) (λ more. close_list first more) left) (λ y last. Ok ((first, y), last)))) (λ pair last. Ok (pack_list pair, last))) e ∙ by_many (many x rest)
  where
    many : tree.Declarator → Parser Placed Role (List tree.Declarator)
    many first = read_many starts_declarator (read_next_declarator inner depth) after_declarator (advance counting (operators_of_declarator first))

    by_close : (more : List tree.Declarator) (o : Outcome Placed Role ℕ) → bind (bind (bind o (λ y last. Ok ((more, y), last))) (λ y last. Ok ((x, y), last))) (λ pair last. Ok (pack_list pair, last)) ≡ bind o (λ _ last. Ok (types.declarators_of (x ∷ more), last))
    by_close more (Ok pair) = refl
    by_close more (Err fault) = refl

    by_many : (m : Outcome Placed Role (List tree.Declarator)) → bind (bind (bind m (λ more after. bind (close_list x more after) (λ y last. Ok ((more, y), last)))) (λ y last. Ok ((x, y), last))) (λ pair last. Ok (pack_list pair, last)) ≡ bind m (λ more. list_close (x ∷ more))
    by_many (Ok pair) = by_close pair.0 (close_list x pair.0 pair.1)
    by_many (Err fault) = refl

-- the `}` after constants
abbrev pub close_constants : List Row × Role → Parser Placed Role tree.Constants
close_constants made after = bind (token made.1 (expected made.1) (mark_offset punctuator.RightBrace) after) (λ _ last. Ok (syntax.constants_of made.0, last))

abbrev pack_rows : Row × (List (Option Row) × ℕ) → tree.Constants
pack_rows pair = types.constant_before pair.0 (types.constants_of pair.1.0)

same-before : (x : Row) (more : tree.Constants) → types.constant_before x more ≡ syntax.constant_before x more
same-before (name, None) more = refl
same-before (name, Some value) more = refl

same-given : (parts : List (Option Row)) → types.constants_of parts ≡ syntax.constants_of (given parts)
same-given [] = refl
same-given (None ∷ parts) = same-given parts
same-given (Some x ∷ parts) = ap (types.constant_before x) (same-given parts) ∙ same-before x (syntax.constants_of (given parts))

-- constants in braces begin with one
pub constants-first : (names : List (List ℕ)) (inner : Parsers) (depth : ℕ) (counting : Counting) (offset : ℕ) (x : Row) (tokens middle rest : List Placed) → token Nothing (opens (suc depth)) (mark_offset punctuator.LeftBrace) tokens ≡ Ok (offset, middle) → types.read_constant names inner (suc depth) counting middle ≡ Ok (x, rest)
    → types.read_constants names inner depth counting tokens ≡ bind (read_constants_from names inner (suc depth) (x ∷ []) (types.first_after counting x) rest) close_constants
constants-first names inner depth counting offset x tokens middle rest begun e =
    bind-ok (token Nothing (opens (suc depth)) (mark_offset punctuator.LeftBrace) tokens) (λ _ left. bind (read_then (types.read_constant names inner (suc depth) counting) (λ first. read_then (many first) (λ parts. close_rows first parts)) left) (λ pair last. Ok (pack_rows pair, last))) offset middle begun
    ∙ ap (λ o. bind (bind o (λ first left. bind (read_then (many first) (λ parts. close_rows first parts) left) (λ y last. Ok ((first, y), last)))) (λ pair last. Ok (pack_rows pair, last))) e ∙ by_many (many x rest)
  where
    many : Row → Parser Placed Role (List (Option Row))
    many first = read_many (types.constants_start names) (types.read_constants_part names inner (suc depth)) types.next_after (types.first_after counting first)

    close_rows : Row → List (Option Row) → Parser Placed Role ℕ
    close_rows first parts = token (types.after_role (types.context_of (types.first_after counting first) parts)) (expected (types.after_role (types.context_of (types.first_after counting first) parts))) (mark_offset punctuator.RightBrace)

    by_close : (parts : List (Option Row)) (o : Outcome Placed Role ℕ) → bind (bind (bind o (λ y last. Ok ((parts, y), last))) (λ y last. Ok ((x, y), last))) (λ pair last. Ok (pack_rows pair, last)) ≡ bind o (λ _ last. Ok (syntax.constants_of (x ∷ given parts), last))
    by_close parts (Ok pair) = ap (λ t. Ok (t, pair.1)) (ap (types.constant_before x) (same-given parts) ∙ same-before x (syntax.constants_of (given parts)))
    by_close parts (Err fault) = refl

    by_many : (m : Outcome Placed Role (List (Option Row))) → bind (bind (bind m (λ parts after. bind (close_rows x parts after) (λ y last. Ok ((parts, y), last)))) (λ y last. Ok ((x, y), last))) (λ pair last. Ok (pack_rows pair, last))
        ≡ bind (bind m (λ parts last. Ok ((x ∷ given parts, types.after_role (types.context_of (types.first_after counting x) parts)), last))) close_constants
    by_many (Ok pair) = by_close pair.0 (close_rows x pair.0 pair.1)
    by_many (Err fault) = refl

pub constants-begun : (names : List (List ℕ)) (inner : Parsers) (depth deeper : ℕ) (is_alone : Bool) (before start after offset : ℕ) (x : Row) (read : List Row) (end : Role) (tokens middle rest : List Placed) → deeper ≡ suc depth → start ≡ before → read ≡ x ∷ [] → end ≡ types.constant_end x
    → advance (counting_of is_alone start) (types.operators_of_constant x) ≡ counting_of is_alone after → token Nothing (opens (suc depth)) (mark_offset punctuator.LeftBrace) tokens ≡ Ok (offset, middle) → types.read_constant names inner deeper (counting_of is_alone start) middle ≡ Ok (x, rest)
    → types.read_constants names inner depth (counting_of is_alone before) tokens ≡ bind (read_constants_from names inner deeper read (types.AfterConstant end (counting_of is_alone after)) rest) close_constants
constants-begun names inner depth deeper is_alone before start after offset x read end tokens middle rest same counts is ends moved begun e =
    let whole = types.read_constants names inner depth (counting_of is_alone before) tokens in
    let part = λ (d : ℕ) (xs : List Row) (role : Role) (counting : Counting). whole ≡ bind (read_constants_from names inner d xs (types.AfterConstant role counting) rest) close_constants in
    let exceeded : types.read_constant names inner (suc depth) (counting_of is_alone start) middle ≡ Ok (x, rest) = subst (λ d. types.read_constant names inner d (counting_of is_alone start) middle ≡ Ok (x, rest)) same e in
    let here : types.read_constants names inner depth (counting_of is_alone start) tokens ≡ bind (read_constants_from names inner (suc depth) (x ∷ []) (types.first_after (counting_of is_alone start) x) rest) close_constants = constants-first names inner depth (counting_of is_alone start) offset x tokens middle rest begun exceeded in
    let there : part (suc depth) (x ∷ []) (types.constant_end x) (advance (counting_of is_alone start) (types.operators_of_constant x)) = ap (λ n. types.read_constants names inner depth (counting_of is_alone n) tokens) (sym counts) ∙ here in
    subst (λ d. part d read end (counting_of is_alone after)) (sym same) (subst (λ xs. part (suc depth) xs end (counting_of is_alone after)) (sym is) (subst (λ role. part (suc depth) (x ∷ []) role (counting_of is_alone after)) (sym ends) (subst (part (suc depth) (x ∷ []) (types.constant_end x)) moved there)))

-- the `}` after declarations of members
abbrev pub close_members : tree.Members → Parser Placed Role tree.Members
close_members rows after = bind (token Nothing plain (mark_offset punctuator.RightBrace) after) (λ _ last. Ok (rows, last))

pub members-begun : (names : List (List ℕ)) (inner : Parsers) (depth deeper : ℕ) (is_alone : Bool) (before start offset : ℕ) (tokens rest : List Placed) → deeper ≡ suc depth → start ≡ before → token Nothing (opens (suc depth)) (mark_offset punctuator.LeftBrace) tokens ≡ Ok (offset, rest)
    → types.read_members names inner depth (counting_of is_alone before) tokens ≡ bind (read_all_members names inner deeper (counting_of is_alone start) rest) close_members
members-begun names inner depth deeper is_alone before start offset tokens rest same counts begun =
    let whole = types.read_members names inner depth (counting_of is_alone before) tokens in
    let here : whole ≡ bind (read_all_members names inner (suc depth) (counting_of is_alone before) rest) close_members = bind-ok (token Nothing (opens (suc depth)) (mark_offset punctuator.LeftBrace) tokens) (λ _ left. bind (read_all_members names inner (suc depth) (counting_of is_alone before) left) close_members) offset rest begun in
    subst (λ d. whole ≡ bind (read_all_members names inner d (counting_of is_alone start) rest) close_members) (sym same) (subst (λ n. whole ≡ bind (read_all_members names inner (suc depth) (counting_of is_alone n) rest) close_members) (sym counts) here)

-- an array, after its `[`
pub open-begun : (inner : Parsers) (depth : ℕ) (is_alone : Bool) (before start offset : ℕ) (read : List tree.Expression) (tokens rest : List Placed) → start ≡ before → read ≡ [] → token Nothing plain (mark_offset punctuator.RightBracket) tokens ≡ Ok (offset, rest)
    → read_open_array inner depth (counting_of is_alone before) tokens ≡ bind (read_lengths_from read inner depth (counting_of is_alone start) rest) (λ lengths last. Ok ((true, lengths), last))
open-begun inner depth is_alone before start offset read tokens rest counts is begun =
    let whole = read_open_array inner depth (counting_of is_alone before) tokens in
    let part = λ (xs : List tree.Expression) (n : ℕ). whole ≡ bind (read_lengths_from xs inner depth (counting_of is_alone n) rest) (λ lengths last. Ok ((true, lengths), last)) in
    let here : part [] before = ap (λ o. bind (bind o (λ _ left. types.read_lengths inner depth (counting_of is_alone before) left)) (λ lengths last. Ok ((true, lengths), last))) begun in
    subst (λ xs. part xs start) (sym is) (subst (part []) (sym counts) here)

abbrev with_first : tree.Expression → tree.Expressions → Parser Placed Role (tree.Expression × tree.Expressions)
with_first first more last = Ok ((first, more), last)

abbrev pack_array : tree.Expression × tree.Expressions → Parser Placed Role (Bool × tree.Expressions)
pack_array pair last = Ok ((false, tree.expressions pair.0 pair.1), last)

abbrev given_array : tree.Expressions → Parser Placed Role (Bool × tree.Expressions)
given_array lengths last = Ok ((false, lengths), last)

pub given-begun : (inner : Parsers) (depth deeper : ℕ) (is_alone : Bool) (before start after : ℕ) (x : tree.Expression) (read : List tree.Expression) (tokens rest : List Placed) → deeper ≡ suc depth → start ≡ count_at (counting_of is_alone before) → read ≡ x ∷ [] → advance (counting_of is_alone before) (operators x) ≡ counting_of is_alone after
    → read_ended inner deeper start punctuator.RightBracket tokens ≡ Ok (x, rest) → read_given_array inner depth (counting_of is_alone before) tokens ≡ bind (read_lengths_from read inner depth (counting_of is_alone after) rest) given_array
given-begun inner depth deeper is_alone before start after x read tokens rest same begun is moved e =
    let whole = read_given_array inner depth (counting_of is_alone before) tokens in
    let part = λ (xs : List tree.Expression) (counting : Counting). whole ≡ bind (read_lengths_from xs inner depth counting rest) given_array in
    let exceeded : read_ended inner (suc depth) (count_at (counting_of is_alone before)) punctuator.RightBracket tokens ≡ Ok (x, rest) = subst (λ d. read_ended inner d (count_at (counting_of is_alone before)) punctuator.RightBracket tokens ≡ Ok (x, rest)) same (subst (λ n. read_ended inner deeper n punctuator.RightBracket tokens ≡ Ok (x, rest)) begun e) in
    let here : part (x ∷ []) (advance (counting_of is_alone before) (operators x)) =
    ap (λ o. bind (bind o (λ first left. bind (types.read_lengths inner depth (advance (counting_of is_alone before) (operators first)) left) (with_first first))) pack_array) exceeded
    ∙ by_many (read_many starts_length (types.read_length inner depth) after_length (advance (counting_of is_alone before) (operators x)) rest) in
    subst (λ xs. part xs (counting_of is_alone after)) (sym is) (subst (part (x ∷ [])) moved here)
  where
    by_many : (m : Outcome Placed Role (List tree.Expression)) → bind (bind (bind m (λ more last. Ok (types.expressions_of more, last))) (with_first x)) pack_array
        ≡ bind (bind m (λ more last. Ok (types.expressions_of (x ∷ more), last))) given_array
    by_many (Ok pair) = refl
    by_many (Err fault) = refl
