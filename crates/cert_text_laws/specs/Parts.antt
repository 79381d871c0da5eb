-- Readers of numbers, points and steps, each with what ends it.
use Rattle.std.specs.Prelude.{ℕ, ◌==◌, ◌^◌, Bool, true, false, if◌then◌else◌, List, [], ◌∷◌, Option, Some, None, codes}
use Rattle.exact_read.specs.Grammar.{read_then, read_map, read_or}
use Rattle.clause_check_spec.specs.declared.Literal.{Literal}
use Rattle.clause_check_spec.specs.Log.{Step}
use Rattle.proof_tree_spec.specs.declared.Place.{Place}
use Rattle.proof_tree_spec.specs.declared.Place.TheVariants as place
use Rattle.proof_tree_spec.specs.declared.Counts.{Counts}
use Rattle.proof_tree_spec.specs.Proofs.{BinaryPoint, SourcePoint, Points}
use Rattle.cert_text_laws.specs.Readers.{Reader, read_word, read_decimal, read_address, read_items}

-- the word alone
abbrev pub read_text : List ℕ → Reader (Unit {0})
read_text word = read_word ((word, tt {0}) ∷ [])

-- a part, and a word that ends it
abbrev pub read_ended : {X : Type 0} → Reader X → List ℕ → Reader X
read_ended read end = read_map (λ p. p.0) (read_then read (λ _. read_text end))

-- a word, and a part after it
abbrev pub read_led : {X : Type 0} → List ℕ → Reader X → Reader X
read_led word read = read_map (λ p. p.1) (read_then (read_text word) (λ _. read))

abbrev pub read_number : Reader ℕ
read_number = read_decimal 0 (2 ^ 32)

abbrev pub read_positive : Reader ℕ
read_positive = read_decimal 1 (2 ^ 32)

-- ---- points

-- a step of a point's path: what is written, and whether it is the last
abbrev pub Stepped : Type 0 → Type 0
Stepped X = X × Bool

abbrev pub after_step : {X : Type 0} → Unit {0} → Stepped X → List (Unit {0})
after_step u (x, true) = []
after_step u (x, false) = tt {0} ∷ []

-- `/`, or the end
abbrev pub read_slash : (end : List ℕ) → Reader Bool
read_slash end = read_word ((codes "/", false) ∷ (end, true) ∷ [])

abbrev pub read_address_step : (end : List ℕ) → Unit {0} → Reader (Stepped ℕ)
read_address_step end u = read_then read_address (λ _. read_slash end)

-- the addresses of calls, and the last one
abbrev pub binary_of : List (Stepped ℕ) → BinaryPoint
binary_of [] = record { path = []; address = 0 }
binary_of ((a, true) ∷ steps) = record { path = []; address = a }
binary_of ((a, false) ∷ steps) = record { path = a ∷ (binary_of steps).path; address = (binary_of steps).address }

abbrev pub read_binary : (end : List ℕ) → Reader BinaryPoint
read_binary end = read_map binary_of (read_items (read_address_step end) after_step (tt {0} ∷ []))

-- the letter of a place, and the place with a number
abbrev pub place_words : List (List ℕ × Place)
place_words = (codes "t", place.Test 0) ∷ (codes "b", place.Body 0) ∷ (codes "k", place.Call 0) ∷ []

abbrev pub with_number : Place → ℕ → Place
with_number (place.Test m) n = place.Test n
with_number (place.Body m) n = place.Body n
with_number (place.Call m) n = place.Call n

-- after a call `/` can follow
abbrev pub read_place_end : (end : List ℕ) → Place → Reader Bool
read_place_end end (place.Call n) = read_slash end
read_place_end end p = read_word ((end, true) ∷ [])

abbrev pub read_place : Reader Place
read_place = read_map (λ p. with_number p.0 p.1) (read_then (read_word place_words) (λ _. read_number))

abbrev pub read_place_step : (end : List ℕ) → Unit {0} → Reader (Stepped Place)
read_place_step end u = read_then read_place (read_place_end end)

abbrev pub place_number : Place → ℕ
place_number (place.Test n) = n
place_number (place.Body n) = n
place_number (place.Call n) = n

abbrev pub source_of : List (Stepped Place) → SourcePoint
source_of [] = record { path = []; place = place.Call 0 }
source_of ((p, true) ∷ steps) = record { path = []; place = p }
source_of ((p, false) ∷ steps) = record { path = place_number p ∷ (source_of steps).path; place = (source_of steps).place }

abbrev pub read_source : (end : List ℕ) → Reader SourcePoint
read_source end = read_map source_of (read_items (read_place_step end) after_step (tt {0} ∷ []))

abbrev pub points_of : BinaryPoint × SourcePoint → Points
points_of p = record { binary = p.0; source = p.1 }

abbrev pub read_points : Reader Points
read_points = read_map points_of (read_then (read_binary (codes " ")) (λ _. read_source (codes " ")))

abbrev pub counts_of : ℕ × ℕ → Counts
counts_of p = record { binary = p.0; source = p.1 }

abbrev pub read_counts : Reader Counts
read_counts = read_map counts_of (read_then (read_ended read_number (codes " ")) (λ _. read_ended read_number (codes " ")))

-- ---- steps of logs

-- a literal, or the zero after them
abbrev pub literal_of : ℕ → Option Literal
literal_of n = if n == 0 then None else Some (record { variable = n; is_negated = false })

abbrev pub read_literal : Unit {0} → Reader (Option Literal)
read_literal u =
    read_or (λ c. c == 45) (read_map (λ n. Some (record { variable = n; is_negated = true })) (read_led (codes "-") (read_ended read_positive (codes " "))))
    (read_map literal_of (read_ended read_number (codes " ")))

abbrev pub after_literal : Unit {0} → Option Literal → List (Unit {0})
after_literal u None = []
after_literal u (Some l) = tt {0} ∷ []

-- a hint, or the zero after them
abbrev pub hint_end : ℕ → List ℕ
hint_end n = if n == 0 then codes "\n" else codes " "

abbrev pub read_hint : Unit {0} → Reader ℕ
read_hint u = read_map (λ p. p.0) (read_then read_number (λ n. read_text (hint_end n)))

abbrev pub after_hint : Unit {0} → ℕ → List (Unit {0})
after_hint u n = if n == 0 then [] else tt {0} ∷ []

-- those before the end
abbrev pub literals_in : List (Option Literal) → List Literal
literals_in [] = []
literals_in (None ∷ rest) = []
literals_in (Some l ∷ rest) = l ∷ literals_in rest

abbrev pub hints_in : List ℕ → List ℕ
hints_in [] = []
hints_in (n ∷ rest) = if n == 0 then [] else n ∷ hints_in rest

abbrev pub step_of : List Literal × List ℕ → Step
step_of p = record { literals = p.0; hints = p.1 }

abbrev pub read_literals : Reader (List Literal)
read_literals = read_map literals_in (read_items read_literal after_literal (tt {0} ∷ []))

abbrev pub read_hints : Reader (List ℕ)
read_hints = read_map hints_in (read_items read_hint after_hint (tt {0} ∷ []))

abbrev pub read_step : Reader Step
read_step = read_map step_of (read_then read_literals (λ _. read_hints))
