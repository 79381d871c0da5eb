-- The loops over designators and over initial values, and braces around these.
use Rattle.std.proofs.Common.{◌≡◌, ℕ, suc, ◌-◌, ◌<◌, true, false, if◌then◌else◌, List, [], ◌∷◌, length, refl, ap, sym, ◌∙◌, subst, Ok, Err, Option, Some, None}
use Rattle.c_token_spec.specs.declared.token.Punctuator.TheVariants as punctuator
use Rattle.c_token_spec.specs.Lexical.{Placed}
use Rattle.c_syntax_spec.specs.Expression as tree
use Rattle.c_parse_spec.specs.declared.Role.{Role}
use Rattle.c_parse_spec.specs.declared.Role.TheVariants.{Nothing}
use Rattle.c_parse_spec.specs.Leaves.{plain, expected, opens}
use Rattle.exact_read.specs.Reading.{Fault, Outcome, Parser}
use Rattle.exact_read.specs.Grammar.{bind, context_after, read_many, read_map}
use Rattle.exact_read.specs.Going.{begins, Going}
use Rattle.exact_read.proofs.Loops.{bind-ok, bind-bind, going-start, going-step, going-fault, going-end, map-ok, map-err}
use Rattle.c_parse_laws.specs.Classes.{is_mark, mark_offset}
use Rattle.c_parse_laws.specs.Parsers.{Parsers, token, following, choose, next_is}
use Rattle.c_parse_laws.specs.Initializers as initializers
use Rattle.c_parse_laws.specs.Initializers.{ListPosition, AfterInitial, FollowingComma, next_position, end_of_position, end_of_initial, initials_start, begins_initial, begins_designator, read_initials_part, read_designated, read_designator, read_designators}
use Rattle.c_parse_token.proofs.Steps.{begins-next}
use Rattle.c_parse.proofs.BraceFuel.{initial-some}

-- designators are being read
pub Designating : (inner : Parsers) → (depth : ℕ) → (whole : Outcome Placed Role (Unit {0})) → List Placed → Type 0
Designating inner depth whole rest = Going (λ (_ : Unit {0}) next. begins_designator next.token) (λ _. read_designator inner depth) (λ _ _. tt {0}) whole (λ more last. Ok (tt {0}, last)) (tt {0}) rest

pub designating-start : (inner : Parsers) (depth : ℕ) (tokens rest : List Placed) → read_designator inner depth tokens ≡ Ok (tt {0}, rest) → Designating inner depth (read_designators inner depth tokens) rest
unfolding Designating
designating-start inner depth tokens rest e =
    let many : Parser Placed Role (List (Unit {0})) = read_many (λ (_ : Unit {0}) next. begins_designator next.token) (λ _. read_designator inner depth) (λ _ _. tt {0}) (tt {0}) in
    subst (λ whole. Going (λ (_ : Unit {0}) next. begins_designator next.token) (λ _. read_designator inner depth) (λ _ _. tt {0}) whole (λ more last. Ok (tt {0}, last)) (tt {0}) rest)
    (sym (ap (λ o. bind {X = Unit {0} × List (Unit {0})} (bind o (λ x after. bind (many after) (λ xs last. Ok ((x, xs), last)))) (λ _ last. Ok (tt {0}, last))) e ∙ bind-bind {Y = Unit {0} × List (Unit {0})} (many rest) (λ xs last. Ok ((tt {0}, xs), last)) (λ _ last. Ok (tt {0}, last))))
    going-start

pub designating-step : (inner : Parsers) (depth : ℕ) (whole : Outcome Placed Role (Unit {0})) (tokens rest : List Placed) → Designating inner depth whole tokens → next_is begins_designator tokens ≡ true → read_designator inner depth tokens ≡ Ok (tt {0}, rest) → length rest < length tokens → Designating inner depth whole rest
unfolding Designating
designating-step inner depth whole tokens rest going was e less = going-step going (begins-next (λ (_ : Unit {0}). begins_designator) (tt {0}) tokens ∙ was) (tt {0}) rest e less

pub designating-error : (inner : Parsers) (depth : ℕ) (whole : Outcome Placed Role (Unit {0})) (tokens : List Placed) → Designating inner depth whole tokens → next_is begins_designator tokens ≡ true → (fault : Fault Role × List Placed) → read_designator inner depth tokens ≡ Err fault → whole ≡ Err fault
unfolding Designating
designating-error inner depth whole tokens going was = going-fault going (begins-next (λ (_ : Unit {0}). begins_designator) (tt {0}) tokens ∙ was)

pub designating-end : (inner : Parsers) (depth : ℕ) (whole : Outcome Placed Role (Unit {0})) (tokens : List Placed) → Designating inner depth whole tokens → next_is begins_designator tokens ≡ false → whole ≡ Ok (tt {0}, tokens)
unfolding Designating
designating-end inner depth whole tokens going ends = going-end going (begins-next (λ (_ : Unit {0}). begins_designator) (tt {0}) tokens ∙ ends)

-- initial values are being read
abbrev pub initials_close : ListPosition → List (Option (Option tree.Expression)) → Parser Placed Role (Unit {0})
initials_close position parts after =
    bind (token (end_of_position (context_after next_position position parts)) (expected (end_of_position (context_after next_position position parts))) (mark_offset punctuator.RightBrace) after) (λ _ rest. Ok (tt {0}, rest))

pub Initials : (names : List (List ℕ)) → (inner : Parsers) → (depth : ℕ) → (initial : Parser Placed Role (Option tree.Expression)) → (whole : Outcome Placed Role (Unit {0})) → ListPosition → List Placed → Type 0
Initials names inner depth initial whole position rest = Going (initials_start names) (read_initials_part inner depth initial) next_position whole (initials_close position) position rest

-- they are, and this is expected after the last of them
pub record Awaiting (names : List (List ℕ)) (inner : Parsers) (depth : ℕ) (initial : Parser Placed Role (Option tree.Expression)) (whole : Outcome Placed Role (Unit {0})) (end : Role) (rest : List Placed) : Type 0 where
  pub last : Option tree.Expression
  pub same : end ≡ end_of_initial last
  pub going : Initials names inner depth initial whole (AfterInitial last) rest

-- they are, and a `,` is before
pub record AfterComma (names : List (List ℕ)) (inner : Parsers) (depth : ℕ) (initial : Parser Placed Role (Option tree.Expression)) (whole : Outcome Placed Role (Unit {0})) (rest : List Placed) : Type 0 where
  pub going : Initials names inner depth initial whole FollowingComma rest

-- a first initial value was read
pub initials-start : (names : List (List ℕ)) (inner : Parsers) (depth : ℕ) (initial : Parser Placed Role (Option tree.Expression)) (end : Role) (tokens rest : List Placed) → read_map end_of_initial (read_designated inner depth initial) tokens ≡ Ok (end, rest) → Awaiting names inner depth initial (initializers.read_initials names inner depth initial tokens) end rest
unfolding Initials
initials-start names inner depth initial end tokens rest e =
    let m = map-ok end_of_initial (read_designated inner depth initial) tokens end rest e in
    record { last = m.0; same = sym m.2; going = subst (λ whole. Going (initials_start names) (read_initials_part inner depth initial) next_position whole (initials_close (AfterInitial m.0)) (AfterInitial m.0) rest) (sym (begun m.0 m.1)) going-start }
  where
    many : Option tree.Expression → Parser Placed Role (List (Option (Option tree.Expression)))
    many last = read_many (initials_start names) (read_initials_part inner depth initial) next_position (AfterInitial last)

    by_close : (last : Option tree.Expression) (parts : List (Option (Option tree.Expression))) (o : Outcome Placed Role ℕ) → bind {X = Option tree.Expression × (List (Option (Option tree.Expression)) × ℕ)} {Y = Unit {0}} (bind {X = List (Option (Option tree.Expression)) × ℕ} (bind o (λ y left. Ok ((parts, y), left))) (λ y left. Ok ((last, y), left))) (λ _ left. Ok (tt {0}, left)) ≡ bind o (λ _ left. Ok (tt {0}, left))
    by_close last parts (Ok pair) = refl
    by_close last parts (Err fault) = refl

    by_many : (last : Option tree.Expression) (o : Outcome Placed Role (List (Option (Option tree.Expression)))) → bind {X = Option tree.Expression × (List (Option (Option tree.Expression)) × ℕ)} {Y = Unit {0}} (bind {X = List (Option (Option tree.Expression)) × ℕ} (bind o (λ parts after. bind (token (end_of_position (context_after next_position (AfterInitial last) parts)) (expected (end_of_position (context_after next_position (AfterInitial last) parts))) (mark_offset punctuator.RightBrace) after) (λ y left. Ok ((parts, y), left)))) (λ y left. Ok ((last, y), left))) (λ _ left. Ok (tt {0}, left)) ≡ bind o (initials_close (AfterInitial last))
    by_many last (Ok pair) = by_close last pair.0 (token (end_of_position (context_after next_position (AfterInitial last) pair.0)) (expected (end_of_position (context_after next_position (AfterInitial last) pair.0))) (mark_offset punctuator.RightBrace) pair.1)
    by_many last (Err fault) = refl

    begun : (last : Option tree.Expression) → read_designated inner depth initial tokens ≡ Ok (last, rest) → initializers.read_initials names inner depth initial tokens ≡ bind (many last rest) (initials_close (AfterInitial last))
    begun last f =
        ap (λ o. bind {X = Option tree.Expression × (List (Option (Option tree.Expression)) × ℕ)} {Y = Unit {0}} (bind o (λ x after. bind (bind (many x after) (λ parts after. bind (token (end_of_position (context_after next_position (AfterInitial x) parts)) (expected (end_of_position (context_after next_position (AfterInitial x) parts))) (mark_offset punctuator.RightBrace) after) (λ y left. Ok ((parts, y), left)))) (λ y left. Ok ((x, y), left)))) (λ _ left. Ok (tt {0}, left))) f
        ∙ by_many last (many last rest)

pub initials-first_error : (names : List (List ℕ)) (inner : Parsers) (depth : ℕ) (initial : Parser Placed Role (Option tree.Expression)) (tokens : List Placed) (fault : Fault Role × List Placed) → read_map end_of_initial (read_designated inner depth initial) tokens ≡ Err fault → initializers.read_initials names inner depth initial tokens ≡ Err fault
initials-first_error names inner depth initial tokens fault e =
    ap (λ o. bind {X = Option tree.Expression × (List (Option (Option tree.Expression)) × ℕ)} {Y = Unit {0}} (bind o (λ x after. bind (bind (read_many (initials_start names) (read_initials_part inner depth initial) next_position (AfterInitial x) after) (λ parts after. bind (token (end_of_position (context_after next_position (AfterInitial x) parts)) (expected (end_of_position (context_after next_position (AfterInitial x) parts))) (mark_offset punctuator.RightBrace) after) (λ y left. Ok ((parts, y), left)))) (λ y left. Ok ((x, y), left)))) (λ _ left. Ok (tt {0}, left))) (map-err end_of_initial (read_designated inner depth initial) tokens fault e)

begins-comma : (names : List (List ℕ)) (last : Option tree.Expression) (tokens : List Placed) → begins (initials_start names) (AfterInitial last) tokens ≡ next_is (is_mark punctuator.Comma) tokens
begins-comma names last [] = refl
begins-comma names last (token ∷ more) = refl

begins-initial : (names : List (List ℕ)) (tokens : List Placed) → begins (initials_start names) FollowingComma tokens ≡ next_is (begins_initial names) tokens
begins-initial names [] = refl
begins-initial names (token ∷ more) = refl

pub initials-comma : {names : List (List ℕ)} {inner : Parsers} {depth : ℕ} {initial : Parser Placed Role (Option tree.Expression)} {whole : Outcome Placed Role (Unit {0})} {end : Role} {offset : ℕ} {tokens rest : List Placed} → Awaiting names inner depth initial whole end tokens → next_is (is_mark punctuator.Comma) tokens ≡ true → token end (expected end) (mark_offset punctuator.Comma) tokens ≡ Ok (offset, rest) → length rest < length tokens → AfterComma names inner depth initial whole rest
unfolding Initials
initials-comma {names} {inner} {depth} {initial} {whole} {end} {offset} {tokens} {rest} a was e less =
    let comma : token (end_of_initial a.last) (expected (end_of_initial a.last)) (mark_offset punctuator.Comma) tokens ≡ Ok (offset, rest) = subst (λ r. token r (expected r) (mark_offset punctuator.Comma) tokens ≡ Ok (offset, rest)) a.same e in
    record { going = going-step a.going (begins-comma names a.last tokens ∙ was) None rest (bind-ok (token (end_of_initial a.last) (expected (end_of_initial a.last)) (mark_offset punctuator.Comma) tokens) (λ _ after. Ok (None, after)) offset rest comma) less }

pub initials-comma_error : {names : List (List ℕ)} {inner : Parsers} {depth : ℕ} {initial : Parser Placed Role (Option tree.Expression)} {whole : Outcome Placed Role (Unit {0})} {end : Role} {tokens : List Placed} → Awaiting names inner depth initial whole end tokens → next_is (is_mark punctuator.Comma) tokens ≡ true → (fault : Fault Role × List Placed) → token end (expected end) (mark_offset punctuator.Comma) tokens ≡ Err fault → whole ≡ Err fault
unfolding Initials
initials-comma_error {names} {inner} {depth} {initial} {whole} {end} {tokens} a was fault g =
    let h : token (end_of_initial a.last) (expected (end_of_initial a.last)) (mark_offset punctuator.Comma) tokens ≡ Err fault = subst (λ r. token r (expected r) (mark_offset punctuator.Comma) tokens ≡ Err fault) a.same g in
    going-fault a.going (begins-comma names a.last tokens ∙ was) fault (ap (λ o. bind {Y = Option (Option tree.Expression)} o (λ _ after. Ok (None, after))) h)

pub initials-step : {names : List (List ℕ)} {inner : Parsers} {depth : ℕ} {initial : Parser Placed Role (Option tree.Expression)} {whole : Outcome Placed Role (Unit {0})} {end : Role} {tokens rest : List Placed} → AfterComma names inner depth initial whole tokens → next_is (begins_initial names) tokens ≡ true → read_map end_of_initial (read_designated inner depth initial) tokens ≡ Ok (end, rest) → length rest < length tokens → Awaiting names inner depth initial whole end rest
unfolding Initials
initials-step {names} {inner} {depth} {initial} {whole} {end} {tokens} {rest} b was e less =
    let m = map-ok end_of_initial (read_designated inner depth initial) tokens end rest e in
    record {
      last = m.0;
      same = sym m.2;
      going = going-step b.going (begins-initial names tokens ∙ was) (Some m.0) rest (bind-ok (read_designated inner depth initial tokens) (λ x after. Ok (Some x, after)) m.0 rest m.1) less;
    }

pub initials-error : {names : List (List ℕ)} {inner : Parsers} {depth : ℕ} {initial : Parser Placed Role (Option tree.Expression)} {whole : Outcome Placed Role (Unit {0})} {tokens : List Placed} → AfterComma names inner depth initial whole tokens → next_is (begins_initial names) tokens ≡ true → (fault : Fault Role × List Placed) → read_map end_of_initial (read_designated inner depth initial) tokens ≡ Err fault → whole ≡ Err fault
unfolding Initials
initials-error {names} {inner} {depth} {initial} {whole} {tokens} b was fault h =
    going-fault b.going (begins-initial names tokens ∙ was) fault (ap (λ o. bind {Y = Option (Option tree.Expression)} o (λ x after. Ok (Some x, after))) (map-err end_of_initial (read_designated inner depth initial) tokens fault h))

-- the list ends after a value
ended : {names : List (List ℕ)} {inner : Parsers} {depth : ℕ} {initial : Parser Placed Role (Option tree.Expression)} {whole : Outcome Placed Role (Unit {0})} {end : Role} {tokens : List Placed} → (a : Awaiting names inner depth initial whole end tokens) → next_is (is_mark punctuator.Comma) tokens ≡ false → whole ≡ bind (token (end_of_initial a.last) (expected (end_of_initial a.last)) (mark_offset punctuator.RightBrace) tokens) (λ _ rest. Ok (tt {0}, rest))
unfolding Initials
ended {names} {inner} {depth} {initial} {whole} {end} {tokens} a ends = going-end a.going (begins-comma names a.last tokens ∙ ends)

pub initials-end : {names : List (List ℕ)} {inner : Parsers} {depth : ℕ} {initial : Parser Placed Role (Option tree.Expression)} {whole : Outcome Placed Role (Unit {0})} {end : Role} {offset : ℕ} {tokens rest : List Placed} → Awaiting names inner depth initial whole end tokens → next_is (is_mark punctuator.Comma) tokens ≡ false → token end (expected end) (mark_offset punctuator.RightBrace) tokens ≡ Ok (offset, rest) → whole ≡ Ok (tt {0}, rest)
initials-end {names} {inner} {depth} {initial} {whole} {end} {offset} {tokens} {rest} a ends e =
    let close : token (end_of_initial a.last) (expected (end_of_initial a.last)) (mark_offset punctuator.RightBrace) tokens ≡ Ok (offset, rest) = subst (λ r. token r (expected r) (mark_offset punctuator.RightBrace) tokens ≡ Ok (offset, rest)) a.same e in
    ended a ends ∙ bind-ok (token (end_of_initial a.last) (expected (end_of_initial a.last)) (mark_offset punctuator.RightBrace) tokens) (λ _ after. Ok (tt {0}, after)) offset rest close

pub initials-unclosed : {names : List (List ℕ)} {inner : Parsers} {depth : ℕ} {initial : Parser Placed Role (Option tree.Expression)} {whole : Outcome Placed Role (Unit {0})} {end : Role} {tokens : List Placed} → Awaiting names inner depth initial whole end tokens → next_is (is_mark punctuator.Comma) tokens ≡ false → (fault : Fault Role × List Placed) → token end (expected end) (mark_offset punctuator.RightBrace) tokens ≡ Err fault → whole ≡ Err fault
initials-unclosed {names} {inner} {depth} {initial} {whole} {end} {tokens} a ends fault g =
    let h : token (end_of_initial a.last) (expected (end_of_initial a.last)) (mark_offset punctuator.RightBrace) tokens ≡ Err fault = subst (λ r. token r (expected r) (mark_offset punctuator.RightBrace) tokens ≡ Err fault) a.same g in
    ended a ends ∙ ap (λ o. bind o (λ _ after. Ok (tt {0}, after))) h

-- the list ends after a `,`
ended_comma : {names : List (List ℕ)} {inner : Parsers} {depth : ℕ} {initial : Parser Placed Role (Option tree.Expression)} {whole : Outcome Placed Role (Unit {0})} {tokens : List Placed} → AfterComma names inner depth initial whole tokens → next_is (begins_initial names) tokens ≡ false → whole ≡ bind (token Nothing (expected Nothing) (mark_offset punctuator.RightBrace) tokens) (λ _ rest. Ok (tt {0}, rest))
unfolding Initials
ended_comma {names} {inner} {depth} {initial} {whole} {tokens} b ends = going-end b.going (begins-initial names tokens ∙ ends)

pub initials-end_comma : {names : List (List ℕ)} {inner : Parsers} {depth : ℕ} {initial : Parser Placed Role (Option tree.Expression)} {whole : Outcome Placed Role (Unit {0})} {offset : ℕ} {tokens rest : List Placed} → AfterComma names inner depth initial whole tokens → next_is (begins_initial names) tokens ≡ false → token Nothing (expected Nothing) (mark_offset punctuator.RightBrace) tokens ≡ Ok (offset, rest) → whole ≡ Ok (tt {0}, rest)
initials-end_comma {names} {inner} {depth} {initial} {whole} {offset} {tokens} {rest} b ends e = ended_comma b ends ∙ bind-ok (token Nothing (expected Nothing) (mark_offset punctuator.RightBrace) tokens) (λ _ after. Ok (tt {0}, after)) offset rest e

pub initials-unclosed_comma : {names : List (List ℕ)} {inner : Parsers} {depth : ℕ} {initial : Parser Placed Role (Option tree.Expression)} {whole : Outcome Placed Role (Unit {0})} {tokens : List Placed} → AfterComma names inner depth initial whole tokens → next_is (begins_initial names) tokens ≡ false → (fault : Fault Role × List Placed) → token Nothing (expected Nothing) (mark_offset punctuator.RightBrace) tokens ≡ Err fault → whole ≡ Err fault
initials-unclosed_comma {names} {inner} {depth} {initial} {whole} {tokens} b ends fault h = ended_comma b ends ∙ ap (λ o. bind o (λ _ after. Ok (tt {0}, after))) h

-- initial values in braces
braced : (names : List (List ℕ)) (inner : Parsers) (fuel depth offset : ℕ) (tokens rest : List Placed) → (fuel ≡ 0 → ⊥) → next_is (is_mark punctuator.LeftBrace) tokens ≡ true → token Nothing (opens (suc depth)) (mark_offset punctuator.LeftBrace) tokens ≡ Ok (offset, rest) → next_is (is_mark punctuator.RightBrace) rest ≡ false
    → read_map end_of_initial (initializers.read_initial names inner fuel depth) tokens ≡ bind (initializers.read_initials names inner (suc depth) (initializers.read_initial names inner (fuel - 1) (suc depth)) rest) (λ _ after. Ok (Nothing, after))
braced names inner fuel depth offset tokens rest some was e none =
    ap (λ o. bind o (λ x after. Ok (end_of_initial x, after)))
    (initial-some names inner fuel depth tokens some
    ∙ ap (λ b. if b then after_brace tokens else read_map (λ x. Some x) (inner.conditional depth 0) tokens) was
    ∙ bind-ok (token Nothing (opens (suc depth)) (mark_offset punctuator.LeftBrace) tokens) (λ _ after. in_braces after) offset rest e
    ∙ ap (λ b. if b then empty rest else read_map (λ _. None) inside rest) none)
    ∙ by_outcome (inside rest)
  where
    inside : Parser Placed Role (Unit {0})
    inside = initializers.read_initials names inner (suc depth) (initializers.read_initial names inner (fuel - 1) (suc depth))

    empty : Parser Placed Role (Option tree.Expression)
    empty = read_map (λ _. None) (token Nothing plain (mark_offset punctuator.RightBrace))

    in_braces : Parser Placed Role (Option tree.Expression)
    in_braces = choose (is_mark punctuator.RightBrace) empty (read_map (λ _. None) inside)

    after_brace : Parser Placed Role (Option tree.Expression)
    after_brace = following (token Nothing (opens (suc depth)) (mark_offset punctuator.LeftBrace)) (λ _. in_braces)

    by_outcome : (o : Outcome Placed Role (Unit {0})) → bind {Y = Role} (bind {Y = Option tree.Expression} o (λ _ after. Ok (None, after))) (λ x after. Ok (end_of_initial x, after)) ≡ bind o (λ _ after. Ok (Nothing, after))
    by_outcome (Ok pair) = refl
    by_outcome (Err fault) = refl

pub braced-found : (names : List (List ℕ)) (inner : Parsers) (fuel left depth opened offset : ℕ) (tokens middle rest : List Placed) → left ≡ fuel - 1 → opened ≡ suc depth → (fuel ≡ 0 → ⊥) → next_is (is_mark punctuator.LeftBrace) tokens ≡ true → token Nothing (opens (suc depth)) (mark_offset punctuator.LeftBrace) tokens ≡ Ok (offset, middle) → next_is (is_mark punctuator.RightBrace) middle ≡ false
    → initializers.read_initials names inner opened (initializers.read_initial names inner left opened) middle ≡ Ok (tt {0}, rest) → read_map end_of_initial (initializers.read_initial names inner fuel depth) tokens ≡ Ok (Nothing, rest)
braced-found names inner fuel left depth opened offset tokens middle rest less deeper some was e none g =
    braced names inner fuel depth offset tokens middle some was e none
    ∙ ap (λ o. bind o (λ _ after. Ok (Nothing, after))) (subst (λ n. initializers.read_initials names inner (suc depth) (initializers.read_initial names inner n (suc depth)) middle ≡ Ok (tt {0}, rest)) less (subst (λ n. initializers.read_initials names inner n (initializers.read_initial names inner left n) middle ≡ Ok (tt {0}, rest)) deeper g))

pub braced-error : (names : List (List ℕ)) (inner : Parsers) (fuel left depth opened offset : ℕ) (tokens middle : List Placed) → left ≡ fuel - 1 → opened ≡ suc depth → (fuel ≡ 0 → ⊥) → next_is (is_mark punctuator.LeftBrace) tokens ≡ true → token Nothing (opens (suc depth)) (mark_offset punctuator.LeftBrace) tokens ≡ Ok (offset, middle) → next_is (is_mark punctuator.RightBrace) middle ≡ false
    → (fault : Fault Role × List Placed) → initializers.read_initials names inner opened (initializers.read_initial names inner left opened) middle ≡ Err fault → read_map end_of_initial (initializers.read_initial names inner fuel depth) tokens ≡ Err fault
braced-error names inner fuel left depth opened offset tokens middle less deeper some was e none fault g =
    braced names inner fuel depth offset tokens middle some was e none
    ∙ ap (λ o. bind o (λ _ after. Ok (Nothing, after))) (subst (λ n. initializers.read_initials names inner (suc depth) (initializers.read_initial names inner n (suc depth)) middle ≡ Err fault) less (subst (λ n. initializers.read_initials names inner n (initializers.read_initial names inner left n) middle ≡ Err fault) deeper g))
