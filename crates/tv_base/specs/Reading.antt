-- What reading does to what is left of a file. `None` is where contracts do not see it.
use Rattle.std.specs.Prelude.{◌≡◌, ℕ, List, ◌++◌, ◌∷◌, take, drop, Option, IfSome, option_map, Result, IfOk, ◌≤◌, []}
use Rattle.attempt.specs.declared.refusal.Refusal.{Refusal}
use Rattle.tv_base.specs.declared.faults.OutsideFault.{OutsideFault}

-- the names that were begun, and then this one
abbrev pub with_name : Option (List (List ℕ)) → (name : List ℕ) → Option (List (List ℕ))
with_name opened name = option_map (λ names. names ++ name ∷ []) opened

-- the bytes taken, and then what is left now, are what was left before
abbrev pub HandsOver : Option (List ℕ) → List ℕ → Option (List ℕ) → Type 0
HandsOver before bytes now = before ≡ option_map (λ rest. bytes ++ rest) now

-- a read hands over the first bytes of its buffer, as many as it answers
abbrev pub HandsOverFirst : Option (List ℕ) → Result ℕ (Refusal OutsideFault) → (buf : List ℕ) → Option (List ℕ) → Type 0
HandsOverFirst before result buf now = IfOk result (λ count. HandsOver before (take count buf) now)

-- nothing is left
abbrev pub IsAtEnd : Option (List ℕ) → Type 0
IsAtEnd left = IfSome left (λ rest. rest ≡ [])

-- a read that answers 0 has nothing left to hand over
abbrev pub ZeroAtEnd : Option (List ℕ) → Result ℕ (Refusal OutsideFault) → Type 0
ZeroAtEnd before result = IfOk result (λ count. count ≡ 0 → IsAtEnd before)

-- these bytes are the first of what was left, as many as there are up to this number, and the others are left
pub record IsTaken (most : ℕ) (before : Option (List ℕ)) (bytes : List ℕ) (now : Option (List ℕ)) : Type 0 where
  pub first : IfSome before (λ text. bytes ≡ take most text)
  pub rest : now ≡ option_map (drop most) before

-- some number of bytes, at most this one, was taken
abbrev pub IsPartlyTaken : ℕ → Option (List ℕ) → Option (List ℕ) → Type 0
IsPartlyTaken most before now = (n : ℕ) × (n ≤ most) × (now ≡ option_map (drop n) before)
