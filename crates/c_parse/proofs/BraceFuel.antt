-- One brace more, or none.
use Rattle.std.proofs.Common.{◌≡◌, ℕ, zero, suc, ◌-◌, List, refl, arith, Err}
use Rattle.c_token_spec.specs.Lexical.{Placed}
use Rattle.exact_read.specs.Reading.{LimitExceeded}
use Rattle.c_parse_laws.specs.Parsers.{Parsers}
use Rattle.c_parse_laws.specs.Initializers.{read_initial, read_initial_around}

pub initial-some : (names : List (List ℕ)) (inner : Parsers) (fuel depth : ℕ) (tokens : List Placed) → (fuel ≡ 0 → ⊥) → read_initial names inner fuel depth tokens ≡ read_initial_around names inner depth (read_initial names inner (fuel - 1) (suc depth)) tokens
unfolding read_initial
initial-some names inner zero depth tokens some = absurd (some refl)
initial-some names inner (suc fuel) depth tokens some = let e : suc fuel - 1 ≡ fuel = omega arith in rw e refl

pub initial-none : (names : List (List ℕ)) (inner : Parsers) (fuel depth : ℕ) (tokens : List Placed) → fuel ≡ 0 → read_initial names inner fuel depth tokens ≡ Err (LimitExceeded, tokens)
unfolding read_initial
initial-none names inner fuel depth tokens none = rw none refl

pub ruleset fuel_cases = (initial-some, initial-none)
