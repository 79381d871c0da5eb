-- Lists of parts whose values are changed.
use Rattle.std.proofs.Common.{◌≡◌, ℕ, zero, suc, Bool, true, false, List, [], ◌∷◌, Ok, Err, refl, ap, ◌∙◌, cond, length}
use Rattle.std.specs.Prelude.{map}
use Rattle.c_token_spec.specs.declared.token.Punctuator.{Punctuator}
use Rattle.c_token_spec.specs.declared.token.Punctuator.TheVariants as punctuator
use Rattle.c_token_spec.specs.Lexical.{Placed}
use Rattle.c_parse_spec.specs.declared.Role.{Role}
use Rattle.c_parse_spec.specs.Leaves.{expected}
use Rattle.exact_read.specs.Reading.{Outcome, Parser}
use Rattle.exact_read.specs.Grammar.{bind, read_map, read_at_most, read_many}
use Rattle.c_parse_laws.specs.Classes.{is_mark, mark_offset}
use Rattle.c_parse_laws.specs.Parsers.{token, following}
use Rattle.c_parse_laws.specs.Declarations.{last_of, read_list_from}

pub many-mapped : {T K X Y C : Type 0} (f : Y → X) (starts : C → T → Bool) (item : C → Parser T K X) (rich : C → Parser T K Y) (next : C → X → C) → ((c : C) (before : List T) → item c before ≡ read_map f (rich c) before)
    → (n : ℕ) (c : C) (before : List T) → read_at_most starts item next n c before ≡ bind (read_at_most starts rich (λ c y. next c (f y)) n c before) (λ ys after. Ok (map f ys, after))
many-mapped f starts item rich next same zero c before = refl
many-mapped f starts item rich next same (suc n) c [] = refl
many-mapped {T} {K} {X} {Y} {C} f starts item rich next same (suc n) c (t ∷ more) =
    by_test (starts c t) (ap (λ o. bind o (λ x rest. bind (read_at_most starts item next n (next c x) rest) (λ xs after. Ok (x ∷ xs, after)))) (same c (t ∷ more)) ∙ by_item (λ d r. many-mapped f starts item rich next same n d r) (rich c (t ∷ more)))
  where
    by_rest : (y : Y) (o : Outcome T K (List Y)) → bind {Y = List X} (bind {Y = List X} o (λ ys after. Ok (map f ys, after))) (λ xs after. Ok (f y ∷ xs, after)) ≡ bind {Y = List X} (bind {Y = List Y} o (λ ys after. Ok (y ∷ ys, after))) (λ ys after. Ok (map f ys, after))
    by_rest y (Ok (ys, after)) = refl
    by_rest y (Err fault) = refl

    by_item : ((d : C) (r : List T) → read_at_most starts item next n d r ≡ bind (read_at_most starts rich (λ c y. next c (f y)) n d r) (λ ys after. Ok (map f ys, after))) → (o : Outcome T K Y)
        → bind {Y = List X} (bind {Y = X} o (λ y r. Ok (f y, r))) (λ x rest. bind (read_at_most starts item next n (next c x) rest) (λ xs after. Ok (x ∷ xs, after))) ≡ bind {Y = List X} (bind {Y = List Y} o (λ y rest. bind (read_at_most starts rich (λ c y. next c (f y)) n (next c (f y)) rest) (λ ys after. Ok (y ∷ ys, after)))) (λ ys after. Ok (map f ys, after))
    by_item again (Err fault) = refl
    by_item again (Ok (y, rest)) = ap (λ o. bind o (λ xs after. Ok (f y ∷ xs, after))) (again (next c (f y)) rest) ∙ by_rest y (read_at_most starts rich (λ c y. next c (f y)) n (next c (f y)) rest)

    by_test : (b : Bool)
        → bind (item c (t ∷ more)) (λ x rest. bind (read_at_most starts item next n (next c x) rest) (λ xs after. Ok (x ∷ xs, after))) ≡ bind {Y = List X} (bind {Y = List Y} (rich c (t ∷ more)) (λ y rest. bind (read_at_most starts rich (λ c y. next c (f y)) n (next c (f y)) rest) (λ ys after. Ok (y ∷ ys, after)))) (λ ys after. Ok (map f ys, after))
        → cond b (bind (item c (t ∷ more)) (λ x rest. bind (read_at_most starts item next n (next c x) rest) (λ xs after. Ok (x ∷ xs, after)))) (Ok ([], t ∷ more)) ≡ bind {Y = List X} (cond b (bind {Y = List Y} (rich c (t ∷ more)) (λ y rest. bind (read_at_most starts rich (λ c y. next c (f y)) n (next c (f y)) rest) (λ ys after. Ok (y ∷ ys, after)))) (Ok ([], t ∷ more))) (λ ys after. Ok (map f ys, after))
    by_test true e = e
    by_test false e = refl

last-mapped : {X Y : Type 0} (f : Y → X) (y : Y) (ys : List Y) → last_of (f y) (map f ys) ≡ f (last_of y ys)
last-mapped f y [] = refl
last-mapped f y (z ∷ ys) = last-mapped f z ys

pub list-mapped : {X Y : Type 0} (f : Y → X) (end : X → Role) (close : Punctuator) (one item : Parser Placed Role X) (rich_one rich : Parser Placed Role Y) → ((before : List Placed) → one before ≡ read_map f rich_one before) → ((before : List Placed) → item before ≡ read_map f rich before)
    → (tokens : List Placed) → read_list_from end close one item tokens ≡ read_map (map f) (read_list_from (λ y. end (f y)) close rich_one rich) tokens
list-mapped {X} {Y} f end close one item rich_one rich same_one same tokens = ap (λ (o : Outcome Placed Role X). bind {Y = List X} (bind {Y = X × (List X × ℕ)} o (λ x rest. bind (others x rest) (λ y after. Ok ((x, y), after)))) (λ made r. Ok (made.0 ∷ made.1.0, r))) (same_one tokens) ∙ by_first (rich_one tokens)
  where
    comma : (item : Parser Placed Role X) → Role → Parser Placed Role X
    comma item role = following (token role (expected role) (mark_offset punctuator.Comma)) (λ _. item)

    others : X → Parser Placed Role (List X × ℕ)
    others x rest = bind (read_many (λ (_ : Role) next. is_mark punctuator.Comma next.token) (λ role. following (token role (expected role) (mark_offset punctuator.Comma)) (λ _. item)) (λ _ y. end y) (end x) rest) (λ more after. bind (token (end (last_of x more)) (expected (end (last_of x more))) (mark_offset close) after) (λ p r. Ok ((more, p), r)))

    rich_others : Y → Parser Placed Role (List Y × ℕ)
    rich_others y rest = bind (read_many (λ (_ : Role) next. is_mark punctuator.Comma next.token) (λ role. following (token role (expected role) (mark_offset punctuator.Comma)) (λ _. rich)) (λ _ z. end (f z)) (end (f y)) rest) (λ more after. bind (token (end (f (last_of y more))) (expected (end (f (last_of y more)))) (mark_offset close) after) (λ p r. Ok ((more, p), r)))

    by_mark : (o : Outcome Placed Role ℕ) → bind o (λ _ rest. item rest) ≡ bind {Y = X} (bind o (λ _ rest. rich rest)) (λ y r. Ok (f y, r))
    by_mark (Ok (offset, rest)) = same rest
    by_mark (Err fault) = refl

    by_close : (y : Y) (ys : List Y) (o : Outcome Placed Role ℕ) → bind {Y = List X} (bind {Y = X × (List X × ℕ)} (bind {Y = List X × ℕ} o (λ p r. Ok ((map f ys, p), r))) (λ z after. Ok ((f y, z), after))) (λ made r. Ok (made.0 ∷ made.1.0, r)) ≡ bind {Y = List X} (bind {Y = List Y} (bind {Y = Y × (List Y × ℕ)} (bind {Y = List Y × ℕ} o (λ p r. Ok ((ys, p), r))) (λ z after. Ok ((y, z), after))) (λ made r. Ok (made.0 ∷ made.1.0, r))) (λ zs r. Ok (map f zs, r))
    by_close y ys (Ok (offset, rest)) = refl
    by_close y ys (Err fault) = refl

    by_many : (y : Y) (o : Outcome Placed Role (List Y))
        → bind {Y = List X} (bind {Y = X × (List X × ℕ)} (bind {Y = List X × ℕ} (bind {Y = List X} o (λ ys after. Ok (map f ys, after))) (λ more after. bind (token (end (last_of (f y) more)) (expected (end (last_of (f y) more))) (mark_offset close) after) (λ p r. Ok ((more, p), r)))) (λ z after. Ok ((f y, z), after))) (λ made r. Ok (made.0 ∷ made.1.0, r))
        ≡ bind {Y = List X} (bind {Y = List Y} (bind {Y = Y × (List Y × ℕ)} (bind {Y = List Y × ℕ} o (λ more after. bind (token (end (f (last_of y more))) (expected (end (f (last_of y more)))) (mark_offset close) after) (λ p r. Ok ((more, p), r)))) (λ z after. Ok ((y, z), after))) (λ made r. Ok (made.0 ∷ made.1.0, r))) (λ zs r. Ok (map f zs, r))
    by_many y (Err fault) = refl
    by_many y (Ok (ys, after)) =
        ap (λ (x : X). bind {Y = List X} (bind {Y = X × (List X × ℕ)} (bind {Y = List X × ℕ} (token (end x) (expected (end x)) (mark_offset close) after) (λ p r. Ok ((map f ys, p), r))) (λ z after. Ok ((f y, z), after))) (λ made r. Ok (made.0 ∷ made.1.0, r))) (last-mapped f y ys)
        ∙ by_close y ys (token (end (f (last_of y ys))) (expected (end (f (last_of y ys)))) (mark_offset close) after)

    by_first : (o : Outcome Placed Role Y)
        → bind {Y = List X} (bind {Y = X × (List X × ℕ)} (bind {Y = X} o (λ y r. Ok (f y, r))) (λ x rest. bind (others x rest) (λ y after. Ok ((x, y), after)))) (λ made r. Ok (made.0 ∷ made.1.0, r))
        ≡ bind {Y = List X} (bind {Y = List Y} (bind {Y = Y × (List Y × ℕ)} o (λ y rest. bind (rich_others y rest) (λ z after. Ok ((y, z), after)))) (λ made r. Ok (made.0 ∷ made.1.0, r))) (λ zs r. Ok (map f zs, r))
    by_first (Err fault) = refl
    by_first (Ok (y, rest)) =
        ap (λ (o : Outcome Placed Role (List X)). bind {Y = List X} (bind {Y = X × (List X × ℕ)} (bind {Y = List X × ℕ} o (λ more after. bind (token (end (last_of (f y) more)) (expected (end (last_of (f y) more))) (mark_offset close) after) (λ p r. Ok ((more, p), r)))) (λ z after. Ok ((f y, z), after))) (λ made r. Ok (made.0 ∷ made.1.0, r)))
        (many-mapped f (λ (_ : Role) next. is_mark punctuator.Comma next.token) (λ role. following (token role (expected role) (mark_offset punctuator.Comma)) (λ _. item)) (λ role. following (token role (expected role) (mark_offset punctuator.Comma)) (λ _. rich)) (λ _ y. end y) (λ role before. by_mark (token role (expected role) (mark_offset punctuator.Comma) before)) (length rest) (end (f y)) rest)
        ∙ by_many y (read_many (λ (_ : Role) next. is_mark punctuator.Comma next.token) (λ role. following (token role (expected role) (mark_offset punctuator.Comma)) (λ _. rich)) (λ _ z. end (f z)) (end (f y)) rest)
