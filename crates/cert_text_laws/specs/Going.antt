-- The invariant of a loop that reads the items of a derivation.
use Rattle.std.specs.Prelude.{◌≡◌, ℕ, ◌<◌, List, ◌++◌, length}
use Rattle.exact_read.specs.Reading.{Outcome}
use Rattle.exact_read.specs.Grammar.{bind}
use Rattle.cert_text_laws.specs.Readers.{Reader, given, read_at_most}

-- the items that were read, what is expected after them, and the bytes that are left
pub record ItemsLeft {N I : Type 0} (item : N → Reader I) (after : N → I → List N) (whole : Outcome ℕ (Unit {0}) (List I)) (before : List I) (expected : List N) (rest : List ℕ) : Type 0 where
  pub fuel : ℕ
  pub enough : length rest < fuel
  pub is : whole ≡ bind (read_at_most item after fuel expected rest) (λ items last. given (before ++ items) last)
