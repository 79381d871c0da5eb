-- Monomials as lists of ids.
use Rattle.std.specs.Prelude.{ℕ, suc, ◌==◌, ◌&&◌, nat_eq, Bool, true, false, if◌then◌else◌, List, [], ◌∷◌, Option, Some, None, option_map}

-- how often an id is among some
unfoldable pub times_among : ℕ → List ℕ → ℕ
times_among id [] = 0
times_among id (x ∷ rest) = if id == x then suc (times_among id rest) else times_among id rest

unfoldable pub are_equally_often : List ℕ → (first second : List ℕ) → Bool
are_equally_often [] first second = true
are_equally_often (id ∷ rest) first second = times_among id first == times_among id second && are_equally_often rest first second

-- some ids with one taken out once
unfoldable pub without_id : ℕ → List ℕ → Option (List ℕ)
without_id id [] = None
without_id id (x ∷ rest) = if nat_eq id x then Some rest else option_map (λ others. x ∷ others) (without_id id rest)

abbrev pub holds_of : (List ℕ → Bool) → Option (List ℕ) → Bool
holds_of test (Some ids) = test ids
holds_of test None = false

-- the same ids, each as often
unfoldable pub same_ids : List ℕ → List ℕ → Bool
same_ids [] [] = true
same_ids [] (x ∷ rest) = false
same_ids (id ∷ more) ids = holds_of (same_ids more) (without_id id ids)
