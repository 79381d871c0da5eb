-- The reference parsers with fuel left.
use Rattle.std.proofs.Common.{◌≡◌, ℕ, zero, suc, ◌-◌, List, refl, arith, Err}
use Rattle.c_token_spec.specs.Lexical.{Placed}
use Rattle.c_parse_spec.specs.Expressions.{Counting}
use Rattle.exact_read.specs.Reading.{LimitExceeded}
use Rattle.c_parse_laws.specs.Parsers.{read_cast, read_unary, read_conditional}
use Rattle.c_parse_laws.specs.Types.{read_specifiers, read_type_name}
use Rattle.c_parse_laws.specs.Fuel.{parsers}

pub cast-fueled : (names : List (List ℕ)) (fuel depth count : ℕ) (tokens : List Placed) → (fuel ≡ 0 → ⊥) → (parsers names fuel).cast depth count tokens ≡ read_cast names (parsers names (fuel - 1)) depth count tokens
unfolding parsers
cast-fueled names zero depth count tokens some = absurd (some refl)
cast-fueled names (suc fuel) depth count tokens some = let e : suc fuel - 1 ≡ fuel = omega arith in rw e refl

pub unary-fueled : (names : List (List ℕ)) (fuel depth count : ℕ) (tokens : List Placed) → (fuel ≡ 0 → ⊥) → (parsers names fuel).unary depth count tokens ≡ read_unary names (parsers names (fuel - 1)) depth count tokens
unfolding parsers
unary-fueled names zero depth count tokens some = absurd (some refl)
unary-fueled names (suc fuel) depth count tokens some = let e : suc fuel - 1 ≡ fuel = omega arith in rw e refl

pub conditional-fueled : (names : List (List ℕ)) (fuel depth count : ℕ) (tokens : List Placed) → (fuel ≡ 0 → ⊥) → (parsers names fuel).conditional depth count tokens ≡ read_conditional (parsers names (fuel - 1)) depth count tokens
unfolding parsers
conditional-fueled names zero depth count tokens some = absurd (some refl)
conditional-fueled names (suc fuel) depth count tokens some = let e : suc fuel - 1 ≡ fuel = omega arith in rw e refl

pub specifiers-fueled : (names : List (List ℕ)) (fuel depth : ℕ) (counting : Counting) (tokens : List Placed) → (fuel ≡ 0 → ⊥) → (parsers names fuel).specifiers depth counting tokens ≡ read_specifiers names (parsers names (fuel - 1)) depth counting tokens
unfolding parsers
specifiers-fueled names zero depth counting tokens some = absurd (some refl)
specifiers-fueled names (suc fuel) depth counting tokens some = let e : suc fuel - 1 ≡ fuel = omega arith in rw e refl

pub type_name-fueled : (names : List (List ℕ)) (fuel depth : ℕ) (counting : Counting) (tokens : List Placed) → (fuel ≡ 0 → ⊥) → (parsers names fuel).type_name depth counting tokens ≡ read_type_name names (parsers names (fuel - 1)) depth counting tokens
unfolding parsers
type_name-fueled names zero depth counting tokens some = absurd (some refl)
type_name-fueled names (suc fuel) depth counting tokens some = let e : suc fuel - 1 ≡ fuel = omega arith in rw e refl

-- no fuel is left
pub cast-none : (names : List (List ℕ)) (fuel depth count : ℕ) (tokens : List Placed) → fuel ≡ 0 → (parsers names fuel).cast depth count tokens ≡ Err (LimitExceeded, tokens)
unfolding parsers
cast-none names fuel depth count tokens none = rw none refl

pub unary-none : (names : List (List ℕ)) (fuel depth count : ℕ) (tokens : List Placed) → fuel ≡ 0 → (parsers names fuel).unary depth count tokens ≡ Err (LimitExceeded, tokens)
unfolding parsers
unary-none names fuel depth count tokens none = rw none refl

pub conditional-none : (names : List (List ℕ)) (fuel depth count : ℕ) (tokens : List Placed) → fuel ≡ 0 → (parsers names fuel).conditional depth count tokens ≡ Err (LimitExceeded, tokens)
unfolding parsers
conditional-none names fuel depth count tokens none = rw none refl

pub specifiers-none : (names : List (List ℕ)) (fuel depth : ℕ) (counting : Counting) (tokens : List Placed) → fuel ≡ 0 → (parsers names fuel).specifiers depth counting tokens ≡ Err (LimitExceeded, tokens)
unfolding parsers
specifiers-none names fuel depth counting tokens none = rw none refl

pub type_name-none : (names : List (List ℕ)) (fuel depth : ℕ) (counting : Counting) (tokens : List Placed) → fuel ≡ 0 → (parsers names fuel).type_name depth counting tokens ≡ Err (LimitExceeded, tokens)
unfolding parsers
type_name-none names fuel depth counting tokens none = rw none refl
