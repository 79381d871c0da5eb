-- A map's entries and the finite map that they are seen as.
use Rattle.std.proofs.Common.{◌≡◌, ℕ, cond, List, [], ◌∷◌, refl, sym, ap, ◌∙◌, Option, Some, arith}
use Rattle.std.specs.Ordering.{nat_cmp, eq_by_cmp}
use Rattle.std.specs.Cmp.{nat_cmp_total, unsigned_tied}
use Rattle.std.specs.FinMap.{get, insert, find, from_entries, get-from_entries, get-insert, same_map, nat_cmp-IsAntisymmetric}
use Rattle.std.specs.BTreeMap as tree
use Rattle.std.specs.BTreeMap.{BTreeMap}
use Rattle.std.specs.Map.{lookup}
use Rattle.std.specs.Prelude.{◌==◌, unwrap_or}
use Rattle.memory_spec.specs.Memory.{Memory, byte_at}
use Rattle.std.proofs.lemmas.Bool.Decides.{nat_tests}

find_lookup : (es : List (ℕ × ℕ)) (q : ℕ) → find nat_cmp q es ≡ lookup (tree.is_at (nat_cmp q)) es
find_lookup [] q = refl
find_lookup (e ∷ es) q = ap (cond (eq_by_cmp nat_cmp q e.0) (Some e.1)) (find_lookup es q)

swapped : (a b : ℕ) → (a == b) ≡ (b == a)
swapped a b = grind (arith, nat_tests)

tied : (k q : ℕ) → eq_by_cmp nat_cmp k q ≡ eq_by_cmp nat_cmp q k
tied k q = unsigned_tied k q ∙ swapped k q ∙ sym (unsigned_tied q k)

-- what is read
pub seen : (m : BTreeMap ℕ ℕ) (q : ℕ) → get (from_entries {R = nat_cmp} m.entries) q ≡ tree.get nat_cmp m q
seen m q = get-from_entries nat_cmp_total m.entries q ∙ find_lookup m.entries q

-- a map that reads as another with one change is that change of it
pub inserted : (m n : BTreeMap ℕ ℕ) (k v : ℕ) → ((q : ℕ) → tree.get nat_cmp n q ≡ cond (tree.is_at (nat_cmp k) q) (Some v) (tree.get nat_cmp m q))
    → from_entries {R = nat_cmp} n.entries ≡ insert (from_entries m.entries) k v
inserted m n k v reads =
    same_map nat_cmp_total nat_cmp-IsAntisymmetric _ _ (λ q. seen n q ∙ reads q ∙ ap (λ b. cond b (Some v) (tree.get nat_cmp m q)) (tied k q)
    ∙ ap (cond (eq_by_cmp nat_cmp q k) (Some v)) (sym (seen m q)) ∙ sym (get-insert nat_cmp_total (from_entries m.entries) k v q))

-- the byte that a look-up finds
pub found : (m : BTreeMap ℕ ℕ) (memory : Memory) (a : ℕ) (o : Option ℕ) → from_entries m.entries ≡ memory → o ≡ tree.get nat_cmp m a → unwrap_or o 0 ≡ byte_at memory a
unfolding byte_at
found m memory a o seen_as reads = ap (λ p. unwrap_or p 0) (reads ∙ sym (seen m a) ∙ ap (λ n. get n a) seen_as)
