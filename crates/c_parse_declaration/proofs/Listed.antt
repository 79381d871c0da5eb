-- The loop over parts with `,` between them.
use Rattle.std.proofs.Common.{◌≡◌, ℕ, ◌+◌, ◌<◌, true, false, List, [], ◌∷◌, ◌++◌, length, map, refl, ap, sym, ◌∙◌, subst, Result, Ok, Err, IsErrAnd}
use Rattle.std.proofs.lemmas.List.{append_assoc, append-nil, map-append}
use Rattle.std.specs.declared.alloc.Global.{Global}
use Rattle.std.specs.declared.boxed.Box.{Box}
use Rattle.c_token_spec.specs.declared.token.Punctuator.{Punctuator}
use Rattle.c_token_spec.specs.declared.token.Punctuator.TheVariants as punctuator
use Rattle.c_token_spec.specs.Lexical.{Placed}
use Rattle.c_syntax_spec.specs.Expression as tree
use Rattle.c_parse_spec.specs.declared.Role.{Role}
use Rattle.c_parse_spec.specs.declared.Role.TheVariants.{OperandEnd}
use Rattle.c_parse_spec.specs.Expressions.{operators}
use Rattle.c_parse_spec.specs.Leaves.{expected}
use Rattle.exact_read.specs.Reading.{Outcome, Parser}
use Rattle.exact_read.specs.Grammar.{bind, context_after, read_many, read_map, read_then, read_nothing}
use Rattle.exact_read.specs.Going.{Going}
use Rattle.exact_read.proofs.Loops.{bind-ok, going-start, going-step, going-fault, going-end, going-same}
use Rattle.c_parse_laws.specs.Classes.{is_mark, mark_offset}
use Rattle.c_parse_laws.specs.Parsers.{Parsers, token, following, next_is}
use Rattle.c_parse_laws.specs.Types as types
use Rattle.c_parse_laws.specs.Declarations.{read_list_from, last_of}
use Rattle.c_syntax.specs.Expressions as syntax
use Rattle.c_token.specs.declared.Token.{Token}
use Rattle.attempt.specs.declared.refusal.Refusal.{Refusal}
use Rattle.c_parse_token.specs.declared.outcome.SyntaxFault.{SyntaxFault}
use Rattle.c_parse_token.specs.Lists.{Gives}
use Rattle.c_parse_token.proofs.Errors.{gives-from}
use Rattle.c_parse_token.proofs.Steps.{begins-next}
use Rattle.c_parse_declaration.specs.Parts.{read_arguments_from}

-- what such parts are: a context goes from each to the next, and says what is expected after a part
pub record Shape (X Y C : Type 0) : Type 0 where
  pub item : C → Parser Placed Role X
  pub next : C → X → C
  pub role : C → Role
  pub close : Punctuator
  pub made : List X → Y

-- the parts of declarations and of functions, and the arguments of calls
abbrev pub listed : {X : Type 0} → (end : X → Role) → (close : Punctuator) → Parser Placed Role X → Shape X (List X) Role
listed end close item = record { item = λ _. item; next = λ _ y. end y; role = λ role. role; close = close; made = λ all. all }

abbrev pub argued : Parsers → (depth : ℕ) → Shape tree.Expression tree.Expressions ℕ
argued inner depth = record { item = λ count. inner.conditional depth count; next = λ count x. count + operators x; role = λ _. OperandEnd; close = punctuator.RightParenthesis; made = types.expressions_of }

abbrev pub comma : Role → Parser Placed Role ℕ
comma role = token role (expected role) (mark_offset punctuator.Comma)

abbrev pub ending : {X Y C : Type 0} → Shape X Y C → C → Parser Placed Role ℕ
ending s c = token (s.role c) (expected (s.role c)) (mark_offset s.close)

abbrev pub read_next : {X Y C : Type 0} → Shape X Y C → C → Parser Placed Role X
read_next s c = following (comma (s.role c)) (λ _. s.item c)

-- a token that closes the list after these parts and more
abbrev pub read_close : {X Y C : Type 0} → Shape X Y C → (read : List X) → C → List X → Parser Placed Role Y
read_close s read c more after = bind (ending s (context_after s.next c more) after) (λ _ last. Ok (s.made (read ++ more), last))

-- parts are being read, after these
pub Listing : {X Y C : Type 0} → Shape X Y C → (whole : Outcome Placed Role Y) → (read : List X) → C → List Placed → Type 0
Listing {C = C} s whole read c rest = Going (λ (_ : C) next. is_mark punctuator.Comma next.token) (read_next s) s.next whole (read_close s read c) c rest

-- what was read of parts, with a first one
abbrev pub read_from : {X Y C : Type 0} → Shape X Y C → X → C → (close : List X → Parser Placed Role ℕ) → Parser Placed Role Y
read_from {C = C} s x c close =
    read_map (λ made. s.made (made.0 ∷ made.1.0)) (read_then (read_nothing x) (λ _. read_then (read_many (λ (_ : C) next. is_mark punctuator.Comma next.token) (read_next s) s.next c) close))

listing-start : {X Y C : Type 0} (s : Shape X Y C) (x : X) (c : C) (close : List X → Parser Placed Role ℕ) (tokens : List Placed) → ((more : List X) → close more ≡ ending s (context_after s.next c more)) → Listing s (read_from s x c close tokens) (x ∷ []) c tokens
unfolding Listing
listing-start {X} {Y} {C} s x c close tokens same =
    subst (λ whole. Going (λ (_ : C) next. is_mark punctuator.Comma next.token) (read_next s) s.next whole (read_close s (x ∷ []) c) c tokens) (sym (by_many (many tokens))) going-start
  where
    many : Parser Placed Role (List X)
    many = read_many (λ (_ : C) next. is_mark punctuator.Comma next.token) (read_next s) s.next c

    by_close : (more : List X) (o : Outcome Placed Role ℕ) → bind {X = X × (List X × ℕ)} (bind {X = List X × ℕ} (bind o (λ y last. Ok ((more, y), last))) (λ y last. Ok ((x, y), last))) (λ made last. Ok (s.made (made.0 ∷ made.1.0), last)) ≡ bind o (λ _ last. Ok (s.made (x ∷ more), last))
    by_close more (Ok pair) = refl
    by_close more (Err fault) = refl

    by_many : (m : Outcome Placed Role (List X)) → bind {X = X × (List X × ℕ)} (bind {X = List X × ℕ} (bind m (λ more after. bind (close more after) (λ y last. Ok ((more, y), last)))) (λ y last. Ok ((x, y), last))) (λ made last. Ok (s.made (made.0 ∷ made.1.0), last)) ≡ bind m (read_close s (x ∷ []) c)
    by_many (Ok pair) = by_close pair.0 (close pair.0 pair.1) ∙ ap (λ (closes : Parser Placed Role ℕ). bind (closes pair.1) (λ _ last. Ok (s.made (x ∷ pair.0), last))) (same pair.0)
    by_many (Err fault) = refl

last-role : {X : Type 0} (end : X → Role) (x : X) (more : List X) → end (last_of x more) ≡ context_after (λ (_ : Role) y. end y) (end x) more
last-role end x [] = refl
last-role end x (y ∷ more) = last-role end y more

-- the loops begin
pub listed-start : {X : Type 0} (end : X → Role) (close : Punctuator) (item : Parser Placed Role X) (x : X) (read : List X) (role : Role) (tokens : List Placed) → read ≡ x ∷ [] → role ≡ end x → Listing (listed end close item) (read_list_from end close (read_nothing x) item tokens) read role tokens
listed-start end close item x read role tokens is ends =
    let whole = read_list_from end close (read_nothing x) item tokens in
    let begun : Listing (listed end close item) whole (x ∷ []) (end x) tokens =
    listing-start (listed end close item) x (end x) (λ more. token (end (last_of x more)) (expected (end (last_of x more))) (mark_offset close)) tokens (λ more. ap (λ r. token r (expected r) (mark_offset close)) (last-role end x more)) in
    subst (λ xs. Listing (listed end close item) whole xs role tokens) (sym is) (subst (λ r. Listing (listed end close item) whole (x ∷ []) r tokens) (sym ends) begun)

pub argued-start : (inner : Parsers) (depth count : ℕ) (x : tree.Expression) (read : List tree.Expression) (tokens : List Placed) → read ≡ x ∷ [] → Listing (argued inner depth) (read_arguments_from inner depth count x tokens) read count tokens
argued-start inner depth count x read tokens is =
    subst (λ xs. Listing (argued inner depth) (read_arguments_from inner depth count x tokens) xs count tokens) (sym is)
    (listing-start (argued inner depth) x count (λ more. token OperandEnd (expected OperandEnd) (mark_offset punctuator.RightParenthesis)) tokens (λ more. refl))

-- one part more
listing-step : {X Y C : Type 0} (s : Shape X Y C) (whole : Outcome Placed Role Y) (read : List X) (c : C) (y : X) (offset : ℕ) (tokens middle rest : List Placed) → Listing s whole read c tokens → next_is (is_mark punctuator.Comma) tokens ≡ true
    → comma (s.role c) tokens ≡ Ok (offset, middle) → s.item c middle ≡ Ok (y, rest) → length rest < length tokens → Listing s whole (read ++ y ∷ []) (s.next c y) rest
unfolding Listing
listing-step {C = C} s whole read c y offset tokens middle rest going was mark e less =
    going-same (λ more after. read_close s read c (y ∷ more) after) (read_close s (read ++ y ∷ []) (s.next c y)) (λ more after. ap (λ t. bind (ending s (context_after s.next (s.next c y) more) after) (λ _ last. Ok (s.made t, last))) (sym (append_assoc read (y ∷ []) more)))
    (going-step going (begins-next (λ (_ : C). is_mark punctuator.Comma) c tokens ∙ was) y rest (bind-ok (comma (s.role c) tokens) (λ _ after. s.item c after) offset middle mark ∙ e) less)

pub listing-more : {X Y C : Type 0} (s : Shape X Y C) (whole : Outcome Placed Role Y) (read all : List X) (c after : C) (y : X) (offset : ℕ) (tokens middle rest : List Placed) → all ≡ read ++ y ∷ [] → after ≡ s.next c y → Listing s whole read c tokens → next_is (is_mark punctuator.Comma) tokens ≡ true
    → comma (s.role c) tokens ≡ Ok (offset, middle) → s.item c middle ≡ Ok (y, rest) → length rest < length tokens → Listing s whole all after rest
listing-more s whole read all c after y offset tokens middle rest is ends going was mark e less =
    subst (λ xs. Listing s whole xs after rest) (sym is) (subst (λ r. Listing s whole (read ++ y ∷ []) r rest) (sym ends) (listing-step s whole read c y offset tokens middle rest going was mark e less))

-- what a box more holds
pub pushed : {A X : Type 0} (view : A → X) (boxes all : List (Box A Global)) (one : Box A Global) → all ≡ boxes ++ one ∷ [] → map view (map (λ b. b.value) all) ≡ map view (map (λ b. b.value) boxes) ++ view one.value ∷ []
pushed view boxes all one is =
    ap (λ xs. map view (map (λ b. b.value) xs)) is ∙ ap (map view) (map-append (λ b. b.value) boxes (one ∷ [])) ∙ map-append view (map (λ b. b.value) boxes) (one.value ∷ [])

pub listing-item_error : {X Y C : Type 0} (s : Shape X Y C) (whole : Outcome Placed Role Y) (read : List X) (c : C) (offset : ℕ) (tokens middle : List Placed) (left : List Token) (error : Refusal SyntaxFault) → Listing s whole read c tokens → next_is (is_mark punctuator.Comma) tokens ≡ true
    → comma (s.role c) tokens ≡ Ok (offset, middle) → Gives (s.item c middle) (λ x. x) left (Err error) → Gives whole (λ x. x) left (Err error)
unfolding Listing
listing-item_error {X = X} {Y = Y} {C = C} s whole read c offset tokens middle left error going was mark =
    gives-from {X = X} {Y = Y} (s.item c middle) whole (λ x. x) (λ y. y) left error
    (λ fault e. going-fault going (begins-next (λ (_ : C). is_mark punctuator.Comma) c tokens ∙ was) fault (bind-ok (comma (s.role c) tokens) (λ _ after. s.item c after) offset middle mark ∙ e))

-- the end of the list
listing-close : {X Y C : Type 0} (s : Shape X Y C) (whole : Outcome Placed Role Y) (read : List X) (c : C) (tokens : List Placed) → Listing s whole read c tokens → next_is (is_mark punctuator.Comma) tokens ≡ false → whole ≡ bind (ending s c tokens) (λ _ last. Ok (s.made (read ++ []), last))
unfolding Listing
listing-close {C = C} s whole read c tokens going ends = going-end going (begins-next (λ (_ : C). is_mark punctuator.Comma) c tokens ∙ ends)

pub listing-unclosed : {X Y C : Type 0} (s : Shape X Y C) (whole : Outcome Placed Role Y) (read : List X) (c : C) (tokens : List Placed) (left : List Token) (error : Refusal SyntaxFault) → Listing s whole read c tokens → next_is (is_mark punctuator.Comma) tokens ≡ false
    → Gives (ending s c tokens) (λ x. x) left (Err error) → Gives whole (λ x. x) left (Err error)
listing-unclosed {Y = Y} s whole read c tokens left error going ends =
    gives-from {X = ℕ} {Y = Y} (ending s c tokens) whole (λ x. x) (λ y. y) left error
    (λ fault e. listing-close s whole read c tokens going ends ∙ ap (λ o. bind o (λ _ last. Ok (s.made (read ++ []), last))) e)

pub listing-end : {X Y C : Type 0} (s : Shape X Y C) (whole : Outcome Placed Role Y) (read : List X) (c : C) (offset : ℕ) (tokens rest : List Placed) → Listing s whole read c tokens → next_is (is_mark punctuator.Comma) tokens ≡ false → ending s c tokens ≡ Ok (offset, rest) → whole ≡ Ok (s.made read, rest)
listing-end s whole read c offset tokens rest going ends e =
    listing-close s whole read c tokens going ends ∙ bind-ok (ending s c tokens) (λ _ last. Ok (s.made (read ++ []), last)) offset rest e ∙ ap (λ t. Ok (s.made t, rest)) (append-nil read)

-- the lists of the reference parser and of the program
pub same-expressions : (xs : List tree.Expression) → types.expressions_of xs ≡ syntax.expressions_of xs
same-expressions [] = refl
same-expressions (x ∷ xs) = ap (tree.expressions x) (same-expressions xs)

pub first-pushed : {A X : Type 0} (view : A → X) (boxes all : List (Box A Global)) (one : Box A Global) → all ≡ boxes ++ one ∷ [] → boxes ≡ [] → map view (map (λ b. b.value) all) ≡ view one.value ∷ []
first-pushed view boxes all one is none = ap (λ xs. map view (map (λ b. b.value) xs)) (is ∙ ap (λ xs. xs ++ one ∷ []) none)
