-- The steps of a run of items.
use Rattle.std.proofs.Common.{◌≡◌, suc, ◌<◌, Bool, true, false, List, [], ◌∷◌, ◌++◌, length, Result, Ok, Err, IsErrAnd, sym, subst, arith}
use Rattle.std.proofs.lemmas.List.{length-map}
use Rattle.c_token_spec.specs.Lexical.{Placed, Token}
use Rattle.c_token.specs.declared.Token.{Token as TokenRow}
use Rattle.c_token.specs.Pieces.{placed_of}
use Rattle.c_parse_spec.specs.declared.Role.{Role}
use Rattle.exact_read.specs.Reading.{Parser}
use Rattle.c_parse_laws.specs.Parsers.{next_is}
use Rattle.attempt.specs.declared.refusal.Refusal.{Refusal}
use Rattle.attempt.specs.declared.refusal.Refusal.TheVariants.{Fault, NoMemory}
use Rattle.c_parse_token.specs.declared.outcome.SyntaxFault.{SyntaxFault}
use Rattle.c_parse_token.specs.Lists.{list_of, Gives}
use Rattle.c_parse.specs.Runs.{Run, none, more, Runs}

-- an item more
pub run-last : {X : Type 0} (starts : Token → Bool) (item : Parser Placed Role X) (tokens middle rest : List Placed) (xs : List X) (x : X) → Run starts item tokens xs middle → next_is starts middle ≡ true → item middle ≡ Ok (x, rest) → length rest < length middle → Run starts item tokens (xs ++ x ∷ []) rest
run-last starts item tokens middle rest xs x (none t) b e l = more middle rest rest x [] b e l (none rest)
run-last starts item tokens middle rest xs x (more t m r y ys b0 e0 l0 run) b e l = more t m rest y (ys ++ x ∷ []) b0 e0 l0 (run-last starts item m middle rest ys x run b e l)

-- the item after a run has a fault
pub run-fault : {A B X : Type 0} (starts : Token → Bool) (item : Parser Placed Role X) (view : A → List X) (seen : B → X) (old left : List TokenRow) (middle : List Placed) (xs : List X) (error : Refusal SyntaxFault) → Run starts item (list_of old) xs middle → next_is starts middle ≡ true → Gives {X = B} (item middle) seen left (Err error)
    → Runs {A = A} starts item view old left (Err error)
run-fault starts item view seen old left middle xs NoMemory run b gives = tt {0}
run-fault starts item view seen old left middle xs (Fault fault) run b gives = (xs, middle, run, b, gives)

-- a run takes tokens, where an item begins before it and none after it
not_longer : {X : Type 0} (starts : Token → Bool) (item : Parser Placed Role X) (tokens rest : List Placed) (xs : List X) → Run starts item tokens xs rest → length rest < suc (length tokens)
not_longer starts item tokens rest xs (none t) = omega arith
not_longer starts item tokens rest xs (more t m r y ys b e l run) = omega (arith, l, not_longer starts item m rest ys run)

run-shorter : {X : Type 0} (starts : Token → Bool) (item : Parser Placed Role X) (tokens rest : List Placed) (xs : List X) → Run starts item tokens xs rest → next_is starts tokens ≡ true → next_is starts rest ≡ false → length rest < length tokens
run-shorter starts item tokens rest xs (none t) b ends = absurd (cc)
run-shorter starts item tokens rest xs (more t m r y ys b0 e l run) b ends = omega (arith, l, not_longer starts item m rest ys run)

pub run-takes : {X : Type 0} (starts : Token → Bool) (item : Parser Placed Role X) (old left : List TokenRow) (xs : List X) → Run starts item (list_of old) xs (list_of left) → next_is starts (list_of old) ≡ true → next_is starts (list_of left) ≡ false → length left < length old
run-takes starts item old left xs run b ends = rw (length-map left placed_of) at (rw (length-map old placed_of) at (run-shorter starts item (list_of old) (list_of left) xs run b ends))
