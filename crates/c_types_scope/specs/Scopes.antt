-- Scopes as a contract sees them: the file scope and the blocks that are open, each of names with what they mean, or
-- nothing where a name is hidden.
use Rattle.std.specs.Prelude.{ℕ, List, map, Option, Some, None}
use Rattle.std.specs.Borrow.{Bor}
use Rattle.c_types_spec.specs.Names as names

-- the names of the file scope, none of which is hidden
abbrev pub file_of : {M : Type 0} → List (Bor (List ℕ) × M) → List (List ℕ × Option M)
file_of entries = map (λ entry. (entry.0.now, Some entry.1)) entries

abbrev pub Kept : Type 0 → Type 0
Kept M = List (List ℕ × Option M) × List (List (List ℕ × Option M))

abbrev pub scopes_of : {M : Type 0} → Kept M → names.Scopes (Option M)
scopes_of kept = record { file = kept.0; blocks = kept.1 }
