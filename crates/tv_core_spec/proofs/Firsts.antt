-- The first of several names for which something fails.
use Rattle.std.proofs.Common.{◌≡◌, ℕ, suc, List, [], ◌∷◌, ◌++◌, All, subst, arith}

pub at_first : (P : List ℕ → Type 0) (name : List ℕ) (names : List (List ℕ)) → All P (name ∷ names) → P name
at_first P name names all = all 0 name (omega arith)

following : (P : List ℕ → Type 0) (name : List ℕ) (names : List (List ℕ)) → All P (name ∷ names) → All P names
following P name names all = λ k d inside. all (suc k) d (omega arith)

pub at_middle : (P : List ℕ → Type 0) (before : List (List ℕ)) (name : List ℕ) (rest : List (List ℕ)) → All P (before ++ (name ∷ rest)) → P name
at_middle P [] name rest all = at_first P name rest all
at_middle P (other ∷ before) name rest all = at_middle P before name rest (following P other (before ++ (name ∷ rest)) all)

pub first_same : (P : List ℕ → Type 0) (before prior rest more : List (List ℕ)) (one two : List ℕ) → before ++ (one ∷ rest) ≡ prior ++ (two ∷ more) → All P before → All P prior
    → (P one → ⊥) → (P two → ⊥) → one ≡ two
first_same P [] [] rest more one two e all others first second = cc
first_same P [] (b ∷ prior) rest more one two e all others first second =
    let same : b ≡ one = cc in absurd (first (subst P same (at_first P b prior others)))
first_same P (a ∷ before) [] rest more one two e all others first second =
    let same : a ≡ two = cc in absurd (second (subst P same (at_first P a before all)))
first_same P (a ∷ before) (b ∷ prior) rest more one two e all others first second =
    let tails : before ++ (one ∷ rest) ≡ prior ++ (two ∷ more) = cc in
    first_same P before prior rest more one two tails (following P a before all) (following P b prior others) first second
