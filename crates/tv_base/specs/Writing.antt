-- What writing does to what an object holds under its names. `None` is where contracts do not see it.
use Rattle.std.specs.Prelude.{◌≡◌, ℕ, ◌<◌, List, [], ◌++◌, length, take, Option, option_map, Result, IfOk}
use Rattle.attempt.specs.declared.refusal.Refusal.{Refusal}
use Rattle.tv_base.specs.declared.faults.OutsideFault.{OutsideFault}

-- what is held under this name grew by exactly this text at its end, and nothing else changed
pub record Grows (before : List ℕ → Option (List ℕ)) (name text : List ℕ) (now : List ℕ → Option (List ℕ)) : Type 0 where
  pub there : now name ≡ option_map (λ held. held ++ text) (before name)
  pub elsewhere : (other : List ℕ) → (other ≡ name → ⊥) → now other ≡ before other

-- it grew by the first bytes of this text, as many as a write answers
abbrev pub GrowsByFirst : (List ℕ → Option (List ℕ)) → List ℕ → Result ℕ (Refusal OutsideFault) → (text : List ℕ)
    → (List ℕ → Option (List ℕ)) → Type 0
GrowsByFirst before name result text now = IfOk result (λ count. Grows before name (take count text) now)

-- it grew by a proper prefix of this text
abbrev pub GrowsPartly : (List ℕ → Option (List ℕ)) → List ℕ → List ℕ → (List ℕ → Option (List ℕ)) → Type 0
GrowsPartly before name text now = (n : ℕ) × (n < length text) × Grows before name (take n text) now

-- this name holds nothing now, and nothing else changed
pub record IsEmptied (before : List ℕ → Option (List ℕ)) (name : List ℕ) (now : List ℕ → Option (List ℕ)) : Type 0 where
  pub there : now name ≡ option_map (λ _. []) (before name)
  pub elsewhere : (other : List ℕ) → (other ≡ name → ⊥) → now other ≡ before other
