-- The defined symbols of a table, collected in order.
use Rattle.std.proofs.Common.{◌≡◌, ◌+◌, ◌*◌, ◌-◌, ◌<◌, ◌++◌, ℕ, Bool, true, false, List, [], ◌∷◌, filter, map, append_assoc, refl, ap, sym, ◌∙◌, ◌/◌, subst, All, Contains}
use Rattle.std.proofs.lemmas.List.{map-append}
use Rattle.std.proofs.lemmas.List.Elements.{All-contains}
use Rattle.elf_read_spec.specs.File as spec
use Rattle.elf_read.proofs.Tables.{entries_next, contains_entry, all_entries, first_entry}
use Rattle.elf_read.specs.Names.{IsFirstUnended}

pub taken : {X Y : Type 0} (f : X → Y) (g : ℕ → Y) (p : ℕ → Bool) (items : List X) (x : X) (from size count i : ℕ) → i < count
    → p (from + size * i) ≡ true → f x ≡ g (from + size * i)
    → map f (items ++ x ∷ []) ++ map g (filter p (spec.entries (from + size * (i + 1)) size (count - (i + 1))))
    ≡ map f items ++ map g (filter p (spec.entries (from + size * i) size (count - i)))
taken f g p items x from size count i h passes same =
    let following = spec.entries (from + size * (i + 1)) size (count - (i + 1)) in
    let kept : filter p ((from + size * i) ∷ following) ≡ (from + size * i) ∷ filter p following = rw passes refl in
    let old : filter p (spec.entries (from + size * i) size (count - i)) ≡ (from + size * i) ∷ filter p following =
    ap (λ xs. filter p xs) (entries_next from size count i h) ∙ kept in
    let rest = map g (filter p following) in
    ap (λ xs. xs ++ rest) (map-append f items (x ∷ [])) ∙ append_assoc (map f items) (f x ∷ []) rest
    ∙ ap (λ y. map f items ++ (y ∷ rest)) same ∙ ap (λ xs. map f items ++ map g xs) (sym old)

pub passed : {X Y : Type 0} (f : X → Y) (g : ℕ → Y) (p : ℕ → Bool) (items : List X) (from size count i : ℕ) → i < count
    → p (from + size * i) ≡ false
    → map f items ++ map g (filter p (spec.entries (from + size * (i + 1)) size (count - (i + 1))))
    ≡ map f items ++ map g (filter p (spec.entries (from + size * i) size (count - i)))
passed f g p items from size count i h fails =
    let following = spec.entries (from + size * (i + 1)) size (count - (i + 1)) in
    let kept : filter p ((from + size * i) ∷ following) ≡ filter p following = rw fails refl in
    ap (λ xs. map f items ++ map g xs) (sym (ap (λ xs. filter p xs) (entries_next from size count i h) ∙ kept))

-- the first entry whose name isn't ended
pub first_unended : (bytes : List ℕ) (table start count i : ℕ) → start ≡ spec.u32_at bytes (table + 16)
    → count ≡ spec.u32_at bytes (table + 20) / 16 → i < count → ((k : ℕ) → k < i → spec.IsEnded bytes table (start + 16 * k))
    → (spec.IsEnded bytes table (start + 16 * i) → ⊥) → IsFirstUnended bytes table (start + 16 * i)
first_unended bytes table start count i start_is count_is h each bad =
    let same : spec.entries start 16 count ≡ spec.symbols bytes table = rw (start_is, count_is) refl in
    record {
      entry = subst (λ xs. Contains xs (start + 16 * i)) same (contains_entry start 16 count i h);
      unended = bad;
      lowest =
          λ before below within.
          first_entry (spec.IsEnded bytes table) start count i each before below (subst (λ xs. Contains xs before) (sym same) within);
    }

pub all_ended : (bytes : List ℕ) (table start count : ℕ) → start ≡ spec.u32_at bytes (table + 16)
    → count ≡ spec.u32_at bytes (table + 20) / 16 → ((k : ℕ) → k < count → spec.IsEnded bytes table (start + 16 * k))
    → All (spec.IsEnded bytes table) (spec.symbols bytes table)
all_ended bytes table start count start_is count_is each =
    let same : spec.entries start 16 count ≡ spec.symbols bytes table = rw (start_is, count_is) refl in
    subst (λ xs. All (spec.IsEnded bytes table) xs) same (all_entries (spec.IsEnded bytes table) start 16 count each)

pub ended_at : (bytes : List ℕ) (table start count i : ℕ) → start ≡ spec.u32_at bytes (table + 16)
    → count ≡ spec.u32_at bytes (table + 20) / 16 → i < count → All (spec.IsEnded bytes table) (spec.symbols bytes table)
    → spec.IsEnded bytes table (start + 16 * i)
ended_at bytes table start count i start_is count_is h all =
    let same : spec.entries start 16 count ≡ spec.symbols bytes table = rw (start_is, count_is) refl in
    All-contains (spec.IsEnded bytes table) (spec.entries start 16 count) (start + 16 * i)
    (subst (λ xs. All (spec.IsEnded bytes table) xs) (sym same) all) (contains_entry start 16 count i h)
