-- A map's entries and the finite map that they are seen as.
use Rattle.std.proofs.Common.{◌≡◌, ℕ, Bool, true, false, cond, List, [], ◌∷◌, refl, sym, ap, ◌∙◌, Option, Some, None, arith, eqb-true, eq-eqb}
use Rattle.std.specs.Ordering.{nat_cmp, eq_by_cmp}
use Rattle.std.specs.Cmp.{nat_cmp_total, unsigned_tied}
use Rattle.std.specs.FinMap.{get, insert, remove, find, from_entries, get-from_entries, get-insert, get-remove, same_map, nat_cmp-IsAntisymmetric}
use Rattle.std.specs.BTreeMap as tree
use Rattle.std.specs.BTreeMap.{BTreeMap}
use Rattle.std.specs.Map.{lookup}
use Rattle.std.specs.Prelude.{◌==◌, ◌%◌, ◌/◌, ◌^◌, ◌<◌, unwrap_or, IsSome, is_some, OnOk, OnErr, Result, Ok, Err}
use Rattle.memory_spec.specs.Memory.{Memory, byte_at}
use Rattle.rv_machine_spec.specs.Machine.{past, store_byte, store_half, store_word}
use Rattle.rv_machine.specs.Stores.{put_back, store_bytes}
use Rattle.std.proofs.lemmas.Bool.Decides.{nat_tests}

find_lookup : (es : List (ℕ × ℕ)) (q : ℕ) → find nat_cmp q es ≡ lookup (tree.is_at (nat_cmp q)) es
find_lookup [] q = refl
find_lookup (e ∷ es) q = ap (cond (eq_by_cmp nat_cmp q e.0) (Some e.1)) (find_lookup es q)

swapped : (a b : ℕ) → (a == b) ≡ (b == a)
swapped a b = grind (arith, nat_tests)

tied : (k q : ℕ) → eq_by_cmp nat_cmp k q ≡ eq_by_cmp nat_cmp q k
tied k q = unsigned_tied k q ∙ swapped k q ∙ sym (unsigned_tied q k)

-- what is read
pub seen : (m : BTreeMap ℕ ℕ) (q : ℕ) → get (from_entries {R = nat_cmp} m.entries) q ≡ tree.get nat_cmp m q
seen m q = get-from_entries nat_cmp_total m.entries q ∙ find_lookup m.entries q

-- a map that reads as another with one change is that change of it
pub inserted : (m n : BTreeMap ℕ ℕ) (k v : ℕ) → ((q : ℕ) → tree.get nat_cmp n q ≡ cond (tree.is_at (nat_cmp k) q) (Some v) (tree.get nat_cmp m q))
    → from_entries {R = nat_cmp} n.entries ≡ insert (from_entries m.entries) k v
inserted m n k v reads =
    same_map nat_cmp_total nat_cmp-IsAntisymmetric _ _ (λ q. seen n q ∙ reads q ∙ ap (λ b. cond b (Some v) (tree.get nat_cmp m q)) (tied k q)
    ∙ ap (cond (eq_by_cmp nat_cmp q k) (Some v)) (sym (seen m q)) ∙ sym (get-insert nat_cmp_total (from_entries m.entries) k v q))

pub removed : (m n : BTreeMap ℕ ℕ) (k : ℕ) → ((q : ℕ) → tree.get nat_cmp n q ≡ cond (tree.is_at (nat_cmp k) q) None (tree.get nat_cmp m q))
    → from_entries {R = nat_cmp} n.entries ≡ remove (from_entries m.entries) k
removed m n k reads =
    same_map nat_cmp_total nat_cmp-IsAntisymmetric _ _ (λ q. seen n q ∙ reads q ∙ ap (λ b. cond b None (tree.get nat_cmp m q)) (tied k q)
    ∙ ap (cond (eq_by_cmp nat_cmp q k) None) (sym (seen m q)) ∙ sym (get-remove nat_cmp_total (from_entries m.entries) k q))

-- the byte that a look-up finds
pub found : (m : BTreeMap ℕ ℕ) (memory : Memory) (a : ℕ) (o : Option ℕ) → from_entries m.entries ≡ memory → o ≡ tree.get nat_cmp m a → unwrap_or o 0 ≡ byte_at memory a
unfolding byte_at
found m memory a o seen_as reads = ap (λ p. unwrap_or p 0) (reads ∙ sym (seen m a) ∙ ap (λ n. get n a) seen_as)

-- a write to an address that is there goes through
pub goes_through : {T E : Type 0} (P Q : Type 0) (r : Result T E) → OnErr r Q → (Q → ⊥) → OnOk r P → P
goes_through P Q (Ok x) fails never done = done
goes_through P Q (Err e) fails never done = absurd (never fails)

pub there : (m : BTreeMap ℕ ℕ) (memory : Memory) (a : ℕ) → from_entries m.entries ≡ memory → IsSome (get memory a) → tree.get nat_cmp m a ≡ None → ⊥
there m memory a seen_as some none =
    let gone : get memory a ≡ None = ap (λ n. get n a) (sym seen_as) ∙ seen m a ∙ none in
    let off : is_some (get memory a) ≡ false = ap is_some gone in
    cc

back : (b : Bool) (x w y : Option ℕ) → (b ≡ true → x ≡ y) → cond b x (cond b w y) ≡ y
back true x w y same = same refl
back false x w y same = refl

-- writing a byte and putting back what was there
pub undone : (memory : Memory) (a byte : ℕ) → put_back (store_byte memory a byte) a (get memory a) ≡ memory
unfolding store_byte
undone memory a byte = by_old (get memory a) refl
  where
    by_old : (o : Option ℕ) → get memory a ≡ o → put_back (insert memory a (byte % 256)) a o ≡ memory
    by_old None e =
        same_map nat_cmp_total nat_cmp-IsAntisymmetric _ _ (λ q. simp (get-remove {X = ℕ} nat_cmp_total, get-insert {X = ℕ} nat_cmp_total, unsigned_tied)
        (back (q == a) None (Some (byte % 256)) (get memory q) (λ t. sym e ∙ ap (get memory) (sym (eqb-true q a t)))))
    by_old (Some b) e =
        same_map nat_cmp_total nat_cmp-IsAntisymmetric _ _ (λ q. simp (get-insert {X = ℕ} nat_cmp_total, unsigned_tied)
        (back (q == a) (Some b) (Some (byte % 256)) (get memory q) (λ t. sym e ∙ ap (get memory) (sym (eqb-true q a t)))))

pub written : (memory : Memory) (a byte : ℕ) → IsSome (get (store_byte memory a byte) a)
unfolding store_byte
written memory a byte = simp (get-insert {X = ℕ} nat_cmp_total, unsigned_tied) (rw (eq-eqb a a refl) refl)

-- a byte stores itself
pub byte_stored : (memory : Memory) (a byte : ℕ) → byte < 256 → insert memory a byte ≡ store_byte memory a byte
unfolding store_byte
byte_stored memory a byte below = let same : byte ≡ byte % 256 = omega arith in ap (insert memory a) same

-- only the lowest byte of a value is stored
low_stored : (memory : Memory) (a value : ℕ) → store_byte memory a (value % 256) ≡ store_byte memory a value
unfolding store_byte
low_stored memory a value = let same : value % 256 % 256 ≡ value % 256 = omega arith in ap (insert memory a) same

pub none_stored : (memory : Memory) (a : ℕ) → store_bytes memory a [] ≡ memory
unfolding store_bytes
none_stored memory a = refl

pub more_stored : (memory : Memory) (a byte : ℕ) (bytes : List ℕ) → store_bytes memory a (byte ∷ bytes) ≡ store_bytes (store_byte memory a byte) (past a 1) bytes
unfolding store_bytes
more_stored memory a byte bytes = refl

pub one_stored : (memory : Memory) (a value : ℕ) → store_bytes memory a (value % 256 ∷ []) ≡ store_byte memory a value
unfolding store_bytes
one_stored memory a value = low_stored memory a value

pub two_stored : (memory : Memory) (a value : ℕ) → store_bytes memory a (value % 256 ∷ value / 2 ^ 8 % 256 ∷ []) ≡ store_half memory a value
unfolding store_bytes store_half
two_stored memory a value = low_stored _ (past a 1) (value / 2 ^ 8) ∙ ap (λ m. store_byte m (past a 1) (value / 2 ^ 8)) (low_stored memory a value)

pub four_stored : (memory : Memory) (a value : ℕ)
    → store_bytes memory a (value % 256 ∷ value / 2 ^ 8 % 256 ∷ value / 2 ^ 16 % 256 ∷ value / 2 ^ 24 % 256 ∷ []) ≡ store_word memory a value
unfolding store_bytes store_word
four_stored memory a value =
    let two : past (past a 1) 1 ≡ past a 2 = omega arith in
    let three : past (past a 2) 1 ≡ past a 3 = omega arith in
    rw (two, three) (simp (low_stored) refl)

pub on_ok : {T E : Type 0} (P Q : Type 0) (r : Result T E) → (P → Q) → OnOk r P → OnOk r Q
on_ok P Q (Ok x) f h = f h
on_ok P Q (Err e) f h = h
