-- How the blocks that are open are kept: their declarations, here the last one first, and where each block starts.
use Rattle.std.specs.Prelude.{◌≡◌, ℕ, ◌≤◌, nat_le, if◌then◌else◌, Bool, List, [], ◌∷◌, length, map, bytes_eq, Option, Some, None}
use Rattle.std.specs.Borrow.{Bor}
use Rattle.std.specs.Map.{lookup}
use Rattle.c_types_scope.specs.declared.entries.Entry.{Entry}

abbrev pub new_entry : {M : Type 0} → Bor (List ℕ) → Option M → Option ℕ → Entry M
new_entry name meaning before = record { name = name; meaning = meaning; before = before }

-- a name and what it means; nothing where an earlier group of a `switch` declared it
abbrev pub pair_of : {M : Type 0} → Entry M → List ℕ × Option M
pair_of entry = (entry.name.now, entry.meaning)

-- the declarations from a place on, counted from the first
abbrev pub since : {A : Type 0} → (start : ℕ) → List A → List A
since start [] = []
since start (x ∷ xs) = if nat_le start (length xs) then x ∷ since start xs else []

-- and those before it
abbrev pub until : {A : Type 0} → (start : ℕ) → List A → List A
until start [] = []
until start (x ∷ xs) = if nat_le start (length xs) then until start xs else x ∷ xs

-- the blocks, the innermost first, each with its last declaration first
abbrev pub blocks_of : {M : Type 0} → (starts : List ℕ) → List (Entry M) → List (List (List ℕ × Option M))
blocks_of [] entries = []
blocks_of (start ∷ starts) entries = map pair_of (since start entries) ∷ blocks_of starts (until start entries)

-- the declarations from a place on are hidden
abbrev pub hide : {M : Type 0} → Entry M → Entry M
hide entry = record entry { meaning = None }

abbrev pub hidden_since : {M : Type 0} → (start : ℕ) → List (Entry M) → List (Entry M)
hidden_since start [] = []
hidden_since start (entry ∷ entries) = if nat_le start (length entries) then hide entry ∷ hidden_since start entries else entry ∷ entries

-- the place of the last declaration of a name
abbrev pub newest_in : {M : Type 0} → List (Entry M) → List ℕ → Option ℕ
newest_in [] name = None
newest_in (entry ∷ entries) name = if bytes_eq entry.name.now name then Some (length entries) else newest_in entries name

-- what a table of places has for a name
abbrev pub flat : Option (Option ℕ) → Option ℕ
flat None = None
flat (Some place) = place

abbrev pub held : List (Bor (List ℕ) × Option ℕ) → List ℕ → Option ℕ
held table name = flat (lookup (λ (key : Bor (List ℕ)). bytes_eq name key.now) table)

-- the table after a name got a place
abbrev pub SetsPlace : (old new : List (Bor (List ℕ) × Option ℕ)) → List ℕ → Option ℕ → Type 0
SetsPlace old new name place = (other : List ℕ) → held new other ≡ (if bytes_eq name other then place else held old other)

-- each declaration knows the one that it hides
abbrev pub AreLinked : {M : Type 0} → List (Entry M) → Type 0
AreLinked [] = Unit {0}
AreLinked (entry ∷ entries) = (entry.before ≡ newest_in entries entry.name.now) × AreLinked entries

-- the table has the place of the last declaration of each name
abbrev pub IsNewest : {M : Type 0} → List (Entry M) → List (Bor (List ℕ) × Option ℕ) → Type 0
IsNewest entries table = (name : List ℕ) → held table name ≡ newest_in entries name

pub record AreTied {M : Type 0} (entries : List (Entry M)) (table : List (Bor (List ℕ) × Option ℕ)) : Type 0 where
  pub linked : AreLinked entries
  pub newest : IsNewest entries table

-- each block starts within the declarations before the end of the block around it, and there is none outside blocks
abbrev pub AreStarts : {A : Type 0} → (starts : List ℕ) → List A → Type 0
AreStarts [] entries = entries ≡ []
AreStarts (start ∷ starts) entries = (start ≤ length entries) × AreStarts starts (until start entries)

abbrev pub first_of : List ℕ → Option ℕ
first_of [] = None
first_of (start ∷ starts) = Some start

abbrev pub rest_of : {A : Type 0} → List A → List A
rest_of [] = []
rest_of (x ∷ xs) = xs
