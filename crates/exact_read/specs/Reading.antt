-- Parsers, and the leaves of a derivation.
use Rattle.std.specs.Prelude.{◌≡◌, Bool, false, if◌then◌else◌, IsTrue, List, [], ◌∷◌, ◌++◌, Result, Err}

-- why a parser stops: a limit is exceeded, or a token is wrong, with a kind
pub data Fault (K : Type 0) : Type 0 where
  LimitExceeded : Fault K
  Wrong : (kind : K) → Fault K

-- a parser gives a value and the rest of the tokens, or a fault and the rest from the token at fault on
abbrev pub Outcome : (T K X : Type 0) → Type 0
Outcome T K X = Result (X × List T) (Fault K × List T)

abbrev pub Parser : (T K X : Type 0) → Type 0
Parser T K X = List T → Outcome T K X

-- a leaf is a token as a derivation has it: the token itself, and whether a limit is exceeded there
pub record Marks (T U : Type 0) : Type 0 where
  pub plain : U → T
  pub over : U → Bool

-- the tokens of leaves
abbrev pub plains : {T U : Type 0} → Marks T U → List U → List T
plains marks [] = []
plains marks (u ∷ text) = marks.plain u ∷ plains marks text

-- no leaf of the text exceeds a limit
abbrev pub Within : {T U : Type 0} → Marks T U → List U → Type 0
Within marks [] = Unit {0}
Within marks (u ∷ text) = (marks.over u ≡ false) × Within marks text

-- what a parser of the text gives: the outcome, or the fault at the first leaf that exceeds a limit
abbrev pub limit : {T U K X : Type 0} → Marks T U → List U → (rest : List T) → Outcome T K X → Outcome T K X
limit marks [] rest outcome = outcome
limit marks (u ∷ text) rest outcome = if marks.over u then Err (LimitExceeded, marks.plain u ∷ plains marks text ++ rest) else limit marks text rest outcome

-- the tokens are at their end, or the test holds of the next
abbrev pub Stops : {T : Type 0} → (T → Bool) → List T → Type 0
Stops test [] = Unit {0}
Stops test (token ∷ more) = IsTrue (test token)
