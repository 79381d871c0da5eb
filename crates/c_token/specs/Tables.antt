-- The entries of the program's tables as entries of tables of lists.
use Rattle.std.specs.Prelude.{ℕ, List, length}
use Rattle.std.specs.Borrow.{Bor}

abbrev pub spelled : {V : Type 0} → Bor (List ℕ) × V → List ℕ × V
spelled entry = (entry.0.now, entry.1)

-- the value of an entry, and how many bytes it has
abbrev pub measured : {V : Type 0} → List ℕ × V → V × ℕ
measured entry = (entry.1, length entry.0)
