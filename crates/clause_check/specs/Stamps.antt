-- Which literals are false, by stamps: two for each variable, one of its literal and one of the negation.
use Rattle.std.specs.Prelude.{◌≡◌, ◌≤◌, ◌==◌, if◌then◌else◌, ℕ, Bool, true, false, List, [], ◌∷◌, Option, Some, None, All}

-- the true literal of a variable, whose other literal's stamp is this round
abbrev pub sign_by : (round of_variable of_negation : ℕ) → Option Bool
sign_by round of_variable of_negation = if of_variable == round then Some true else if of_negation == round then Some false else None

abbrev pub signs_in : (round : ℕ) → List ℕ → List (Option Bool)
signs_in round [] = []
signs_in round (of_variable ∷ []) = []
signs_in round (of_variable ∷ of_negation ∷ stamps) = sign_by round of_variable of_negation ∷ signs_in round stamps

-- of each variable one literal at most is false
abbrev pub AreApart : (round : ℕ) → List ℕ → Type 0
AreApart round [] = Unit {0}
AreApart round (of_variable ∷ []) = Unit {0}
AreApart round (of_variable ∷ of_negation ∷ stamps) = (of_variable ≡ round → of_negation ≡ round → ⊥) × AreApart round stamps

pub record AreStamps (round : ℕ) (stamps : List ℕ) : Type 0 where
  pub bound : All (λ stamp. stamp ≤ round) stamps
  pub apart : AreApart round stamps
