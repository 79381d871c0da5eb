-- Memory's cells stay cells.
use Rattle.std.proofs.Common.{◌≡◌, ℕ, ◌^◌, ◌<◌, Bool, true, false, cond, List, [], ◌∷◌, Some, refl, sym, ap, ◌∙◌, subst, eqb-true, OnOk, OnErr, Result, Ok, Err}
use Rattle.std.specs.Ordering.{nat_cmp, eq_by_cmp, match_ordering}
use Rattle.std.specs.Cmp.{nat_cmp_total, unsigned_tied}
use Rattle.std.specs.declared.cmp.Ordering.TheVariants.{Less, Equal, Greater}
use Rattle.std.specs.BTreeMap.{insert_entry}
use Rattle.std.specs.Map.{remove_entry}
use Rattle.std.specs.FinMap.{get, find, from_entries, get-from_entries}
use Rattle.memory_spec.specs.Memory.{Memory}
use Rattle.rv_machine.specs.Cells.{AllCells}

pub insert_cells : (es : List (ℕ × ℕ)) (k v : ℕ) → k < 2 ^ 32 → v < 256 → AllCells es → AllCells (insert_entry nat_cmp es k v)
insert_cells [] k v address byte all = (address, byte, tt)
insert_cells (e ∷ es) k v address byte all =
    elim (nat_cmp k e.0) as (λ o. AllCells (match_ordering o ((k, v) ∷ e ∷ es) ((e.0, v) ∷ es) (e ∷ insert_entry nat_cmp es k v))) [
      | Less ↦ (address, byte, all)
      | Equal ↦ (all.0, byte, all.2)
      | Greater ↦ (all.0, all.1, insert_cells es k v address byte all.2)
    ]

pub remove_cells : (test : ℕ → Bool) (es : List (ℕ × ℕ)) → AllCells es → AllCells (remove_entry test es)
remove_cells test [] all = all
remove_cells test (e ∷ es) all =
    elim (test e.0) as (λ b. AllCells (cond b es (e ∷ remove_entry test es))) [ true ↦ all.2 | false ↦ (all.0, all.1, remove_cells test es all.2) ]

find_cell : (es : List (ℕ × ℕ)) (a b : ℕ) → AllCells es → find nat_cmp a es ≡ Some b → (a < 2 ^ 32) × (b < 256)
find_cell [] a b all found = cc
find_cell (e ∷ es) a b all found = at_first (eq_by_cmp nat_cmp a e.0) refl found (λ later. find_cell es a b all.2 later)
  where
    at_first : (t : Bool) → eq_by_cmp nat_cmp a e.0 ≡ t → cond t (Some e.1) (find nat_cmp a es) ≡ Some b → (find nat_cmp a es ≡ Some b → (a < 2 ^ 32) × (b < 256)) → (a < 2 ^ 32) × (b < 256)
    at_first true is here later =
        let same : e.1 ≡ b = cc in
        let key : a ≡ e.0 = eqb-true a e.0 (sym (unsigned_tied a e.0) ∙ is) in
        (subst (λ n. n < 2 ^ 32) (sym key) all.0, subst (λ n. n < 256) same all.1)
    at_first false is here later = later here

pub seen_cells : (es : List (ℕ × ℕ)) (memory : Memory) → from_entries es ≡ memory → AllCells es → (a b : ℕ) → get memory a ≡ Some b → (a < 2 ^ 32) × (b < 256)
seen_cells es memory seen_as all a b found = find_cell es a b all (sym (get-from_entries nat_cmp_total es a) ∙ ap (λ m. get m a) seen_as ∙ found)

-- an insertion that may be refused
pub inserted_cells : {T E : Type 0} (old new : List (ℕ × ℕ)) (k v : ℕ) (r : Result T E) → k < 2 ^ 32 → v < 256 → AllCells old
    → OnOk r (new ≡ insert_entry nat_cmp old k v) → OnErr r (new ≡ old) → AllCells new
inserted_cells old new k v (Ok x) address byte all done refused = subst AllCells (sym done) (insert_cells old k v address byte all)
inserted_cells old new k v (Err e) address byte all done refused = subst AllCells (sym refused) all
