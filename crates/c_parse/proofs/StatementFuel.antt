-- One construct more, or none.
use Rattle.std.proofs.Common.{◌≡◌, ℕ, zero, suc, ◌-◌, List, refl, arith, Err}
use Rattle.c_token_spec.specs.Lexical.{Placed}
use Rattle.exact_read.specs.Reading.{LimitExceeded}
use Rattle.c_parse_laws.specs.Parsers.{Parsers}
use Rattle.c_parse_laws.specs.Statements.{read_statement, read_statement_around}

pub statement-some : (names : List (List ℕ)) (inner : Parsers) (fuel depth : ℕ) (tokens : List Placed) → (fuel ≡ 0 → ⊥) → read_statement names inner fuel depth tokens ≡ read_statement_around names inner (read_statement names inner (fuel - 1)) depth tokens
unfolding read_statement
statement-some names inner zero depth tokens some = absurd (some refl)
statement-some names inner (suc fuel) depth tokens some = let e : suc fuel - 1 ≡ fuel = omega arith in rw e refl

pub statement-none : (names : List (List ℕ)) (inner : Parsers) (fuel depth : ℕ) (tokens : List Placed) → fuel ≡ 0 → read_statement names inner fuel depth tokens ≡ Err (LimitExceeded, tokens)
unfolding read_statement
statement-none names inner fuel depth tokens none = rw none refl

pub ruleset fuel_cases = (statement-some, statement-none)
