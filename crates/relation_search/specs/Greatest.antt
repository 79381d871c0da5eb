-- Sets of lines none of which is refuted, and the greatest of them. Lines are known by their numbers.
use Rattle.std.specs.Prelude.{◌<◌, not, nat_eq, ℕ, List, All, Contains, filter}
use Rattle.std.specs.List.{list_any}
use Rattle.std.specs.List.Sorted.{IsStrictlyIncreasing}

-- each of the lines is one of the others
abbrev pub Within : List ℕ → List ℕ → Type 0
Within lines others = (line : ℕ) → Contains lines line → Contains others line

-- the lines but those that are taken out
abbrev pub without : (out lines : List ℕ) → List ℕ
without out lines = filter (λ line. not (list_any (λ other. nat_eq other line) out)) lines

-- `refutes lines line` says that, where these lines hold, this line is refuted
module _ (refutes : List ℕ → ℕ → Type 0) where
  -- what is refuted where some lines hold is refuted where fewer of them do
  abbrev pub IsMonotone : Type 0
  IsMonotone = (fewer lines : List ℕ) (line : ℕ) → Within fewer lines → refutes lines line → refutes fewer line

  -- where these lines hold, none of them is refuted
  abbrev pub NoneRefuted : List ℕ → Type 0
  NoneRefuted lines = (line : ℕ) → Contains lines line → refutes lines line → ⊥

  -- the set, in ascending order, is the greatest of so many lines none of which is refuted where they hold; and where they
  -- hold, each of the other lines is
  pub record IsGreatest (count : ℕ) (lines : List ℕ) : Type 0 where
    pub below : All (λ line. line < count) lines
    pub ascending : IsStrictlyIncreasing lines
    pub kept : NoneRefuted lines
    pub greatest : (others : List ℕ) → All (λ line. line < count) others → NoneRefuted others → Within others lines
    pub outside : (line : ℕ) → line < count → (Contains lines line → ⊥) → refutes lines line
