-- The entries of a table, one after the other.
use Rattle.std.proofs.Common.{◌≡◌, ◌+◌, ◌*◌, ◌-◌, ◌<◌, ℕ, zero, suc, ◌∷◌, length, get_or, refl, ap, sym, ◌∙◌, arith, Bool, false, find, length, get_or, mul-suc, subst, Contains, All}
use Rattle.std.proofs.lemmas.List.{get_or_default}
use Rattle.elf_read_spec.specs.File.{entries}

entries_front : (from size rest count : ℕ) → count ≡ suc rest → entries from size count ≡ from ∷ entries (from + size) size rest
entries_front from size rest count e = ap (λ n. entries from size n) e

-- what is left of a table from its entry i on: this entry, and what is left from the next one on
pub entries_next : (from size count i : ℕ) → i < count
    → entries (from + size * i) size (count - i) ≡ (from + size * i) ∷ entries (from + size * (i + 1)) size (count - (i + 1))
entries_next from size count i h =
    let left : count - i ≡ suc (count - (i + 1)) = omega arith in
    let place : from + size * i + size ≡ from + size * (i + 1) = omega arith in
    entries_front (from + size * i) size (count - (i + 1)) (count - i) left
    ∙ ap (λ n. (from + size * i) ∷ entries n size (count - (i + 1))) place

-- the first entry that passes is looked for after one that fails
pub find_passed : (p : ℕ → Bool) (from size count i : ℕ) → i < count → p (from + size * i) ≡ false
    → find p (entries (from + size * (i + 1)) size (count - (i + 1))) ≡ find p (entries (from + size * i) size (count - i))
find_passed p from size count i h e =
    let following = entries (from + size * (i + 1)) size (count - (i + 1)) in
    let passed : find p ((from + size * i) ∷ following) ≡ find p following = rw e refl in
    sym (ap (λ xs. find p xs) (entries_next from size count i h) ∙ passed)

pub length_entries : (from size count : ℕ) → length (entries from size count) ≡ count
length_entries from size zero = refl
length_entries from size (suc count) = grind (arith, length_entries (from + size) size count)

-- the offset of entry k
pub entry_at : (from size count k : ℕ) → k < count → get_or (entries from size count) k 0 ≡ from + size * k
entry_at from size zero k h = absurd (omega arith)
entry_at from size (suc count) zero h = omega arith
entry_at from size (suc count) (suc k) h =
    let following : get_or (entries (from + size) size count) k 0 ≡ from + size + size * k = entry_at (from + size) size count k (omega arith) in
    following ∙ omega (arith, mul-suc size k)

-- an element is one of the entries
pub entry_of_contained : (from size count x : ℕ) → Contains (entries from size count) x → (k : ℕ) × (k < count) × (from + size * k ≡ x)
entry_of_contained from size count x within =
    let below : within.0 < count = omega (arith, length_entries from size count, within.1) in (
      within.0,
      below,
      sym (entry_at from size count within.0 below) ∙ sym (get_or_default (entries from size count) within.0 x 0 within.1) ∙ within.2,
    )

pub contains_entry : (from size count k : ℕ) → k < count → Contains (entries from size count) (from + size * k)
contains_entry from size count k h =
    let within : k < length (entries from size count) = omega (arith, length_entries from size count) in
    (k, within, get_or_default (entries from size count) k (from + size * k) 0 within ∙ entry_at from size count k h)

-- what holds of each entry holds of all of them
pub all_entries : (P : ℕ → Type 0) (from size count : ℕ) → ((k : ℕ) → k < count → P (from + size * k)) → All P (entries from size count)
all_entries P from size count each k d within =
    let below : k < count = omega (arith, length_entries from size count) in
    subst P (sym (get_or_default (entries from size count) k d 0 within ∙ entry_at from size count k below)) (each k below)

-- the first entry that fails, of a table with entries of 16 bytes
pub first_entry : (P : ℕ → Type 0) (from count i : ℕ) → ((k : ℕ) → k < i → P (from + 16 * k)) → (x : ℕ) → x < from + 16 * i
    → Contains (entries from 16 count) x → P x
first_entry P from count i each x below within =
    let entry = entry_of_contained from 16 count x within in
    let less : entry.0 < i = omega (arith, entry.2) in
    subst P entry.2 (each entry.0 less)
