-- What memory and registers hold.
use Rattle.std.specs.Prelude.{◌≡◌, ℕ, ◌^◌, ◌<◌, length, All, List, [], ◌∷◌}

-- each address is a word, and what it has is a byte
abbrev pub AllCells : List (ℕ × ℕ) → Type 0
AllCells [] = Unit {0}
AllCells (cell ∷ cells) = (cell.0 < 2 ^ 32) × (cell.1 < 256) × AllCells cells

-- there are 32 registers, and each is a word; so is pc
abbrev pub HasWords : List ℕ → ℕ → Type 0
HasWords registers pc = (length registers ≡ 32) × All (λ r. r < 2 ^ 32) registers × (pc < 2 ^ 32)
