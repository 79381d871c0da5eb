-- The numbers of first nodes, by address.
use Rattle.std.proofs.Common.{◌≡◌, ◌∙◌, ℕ, zero, suc, ◌+◌, ◌<◌, Bool, true, false, cond, refl, sym, ap, subst, arith, eq-eqb, List, [], ◌∷◌, ◌++◌, length, map, get_or, Option, Some, None}
use Rattle.std.specs.Prelude.{Contains, nat_eq, unwrap_or}
use Rattle.std.specs.Ordering.{nat_cmp}
use Rattle.std.specs.List.Sorted.{IsStrictlyIncreasing, IsStrictlySortedBy}
use Rattle.std.specs.Map.{lookup}
use Rattle.indexmap.specs.IndexMap.{insert_entry}
use Rattle.std.proofs.lemmas.Bool.{ne_eqb}
use Rattle.std.proofs.lemmas.List.{append_assoc, map-append, length-map, get_or_at}
use Rattle.std.proofs.lemmas.Map.Keys.{sorted_from_strictly_increasing, below_from_sorted, sorted_tail}
use Rattle.elf_read_spec.specs.Image.{Image}
use Rattle.code_reach_spec.specs.Code.{IsReachable}
use Rattle.decompile_spec.specs.Blocks.{Of, Setting}
use Rattle.decompile_spec.specs.CodeGraph.{AreFirstNodes}
use Rattle.decompile_laws.specs.Layout.{Item, block, AreNumbered, AreItems}
use Rattle.decompile.specs.declared.items.Item.{Item as CodeItem}
use Rattle.decompile.specs.Items.{item_of}
use Rattle.decompile.specs.Answer.{first_in}
use Rattle.decompile.specs.Counts.{further_nodes, numbered}
use Rattle.decompile.specs.declared.numbers.Counting.{Counting}
use Rattle.decompile.proofs.Sizes.{counting_of, block_long}

abbrev pub key : ℕ × ℕ → ℕ
key p = p.0

-- ---- look-ups among keys that rise

head_below : (e : ℕ × ℕ) (front : List (ℕ × ℕ)) (k : ℕ) (rest : List ℕ) → IsStrictlySortedBy nat_cmp (e.0 ∷ (map key front ++ k ∷ rest)) → e.0 < k
head_below e front k rest up =
    let at : get_or (e.0 ∷ (map key front ++ k ∷ rest)) (suc (length front)) 0 ≡ k = get_or_at (map key front) k rest 0 (length front) (length-map front key) in
    let less : get_or (e.0 ∷ (map key front ++ k ∷ rest)) 0 0 < get_or (e.0 ∷ (map key front ++ k ∷ rest)) (suc (length front)) 0 =
    below_from_sorted (e.0 ∷ (map key front ++ k ∷ rest)) 0 (suc (length front)) 0 up (omega arith)
    (omega (arith, longer (map key front) k rest, length-map front key)) in
    omega (arith, less, at)
  where
    longer : (xs : List ℕ) (y : ℕ) (ys : List ℕ) → length xs < length (xs ++ y ∷ ys)
    longer [] y ys = omega arith
    longer (x ∷ xs) y ys = omega (arith, longer xs y ys)

absent_sorted : (front : List (ℕ × ℕ)) (k : ℕ) (rest : List ℕ) → IsStrictlySortedBy nat_cmp (map key front ++ k ∷ rest) → lookup (nat_eq k) front ≡ None
absent_sorted [] k rest up = refl
absent_sorted (e ∷ front) k rest up =
    let less : e.0 < k = head_below e front k rest up in
    rw (ne_eqb k e.0 (λ same. omega arith)) (absent_sorted front k rest (sorted_tail nat_cmp e.0 (map key front ++ k ∷ rest) up))

pub absent : (front : List (ℕ × ℕ)) (k : ℕ) (rest all : List ℕ) → map key front ++ k ∷ rest ≡ all → IsStrictlyIncreasing all → lookup (nat_eq k) front ≡ None
absent front k rest all whole up =
    absent_sorted front k rest (subst (λ (xs : List ℕ). IsStrictlySortedBy nat_cmp xs) (sym whole) (sorted_from_strictly_increasing all up))

there_sorted : (front : List (ℕ × ℕ)) (k v : ℕ) (rest : List (ℕ × ℕ)) → IsStrictlySortedBy nat_cmp (map key front ++ k ∷ map key rest)
    → lookup (nat_eq k) (front ++ (k, v) ∷ rest) ≡ Some v
there_sorted [] k v rest up = rw (eq-eqb k k refl) refl
there_sorted (e ∷ front) k v rest up =
    let less : e.0 < k = head_below e front k (map key rest) up in
    rw (ne_eqb k e.0 (λ same. omega arith)) (there_sorted front k v rest (sorted_tail nat_cmp e.0 (map key front ++ k ∷ map key rest) up))

pub there : (front : List (ℕ × ℕ)) (k v : ℕ) (rest all : List (ℕ × ℕ)) → front ++ (k, v) ∷ rest ≡ all → IsStrictlyIncreasing (map key all) → first_in all k ≡ v
there front k v rest all whole up =
    let up_there : IsStrictlyIncreasing (map key (front ++ (k, v) ∷ rest)) = subst (λ (es : List (ℕ × ℕ)). IsStrictlyIncreasing (map key es)) (sym whole) up in
    let sorted : IsStrictlySortedBy nat_cmp (map key front ++ k ∷ map key rest) =
    subst (λ (xs : List ℕ). IsStrictlySortedBy nat_cmp xs) (map-append key front ((k, v) ∷ rest)) (sorted_from_strictly_increasing (map key (front ++ (k, v) ∷ rest)) up_there) in
    ap (λ (es : List (ℕ × ℕ)). first_in es k) (sym whole) ∙ ap (λ (o : Option ℕ). unwrap_or o 0) (there_sorted front k v rest sorted)

insert_new : (es : List (ℕ × ℕ)) (k v : ℕ) → lookup (nat_eq k) es ≡ None → insert_entry nat_eq es k v ≡ es ++ (k, v) ∷ []
insert_new [] k v none = refl
insert_new (e ∷ es) k v none = at (nat_eq k e.0) none (insert_new es k v)
  where
    at : (b : Bool) → cond b (Some e.1) (lookup (nat_eq k) es) ≡ None → (lookup (nat_eq k) es ≡ None → insert_entry nat_eq es k v ≡ es ++ (k, v) ∷ [])
        → cond b ((e.0, v) ∷ es) (e ∷ insert_entry nat_eq es k v) ≡ e ∷ (es ++ (k, v) ∷ [])
    at true h onward = absurd cc
    at false h onward = ap (λ (xs : List (ℕ × ℕ)). e ∷ xs) (onward h)

-- ---- the numbered instructions

module _ (by : Counting) where
  pub keys-numbered : (n : ℕ) (items : List Item) → map key (numbered by n items) ≡ map (λ (item : Item). item.address) items
  keys-numbered n [] = refl
  keys-numbered n (item ∷ rest) = ap (λ (xs : List ℕ). item.address ∷ xs) (keys-numbered (n + (further_nodes by item + 1)) rest)

  -- each instruction that is numbered, and each number's instruction
  item_of_key : (n : ℕ) (items : List Item) (address number : ℕ) → Contains (numbered by n items) (address, number) → (item : Item) × Contains items item × (item.address ≡ address)
  item_of_key n [] address number (k, below, is) = absurd (omega arith)
  item_of_key n (item ∷ rest) address number (zero, below, is) = (item, (0, omega arith, refl), ap key is)
  item_of_key n (item ∷ rest) address number (suc k, below, is) =
      let found = item_of_key (n + (further_nodes by item + 1)) rest address number (k, omega arith, is) in
      (found.0, (suc found.1.0, omega (arith, found.1.1), found.1.2), found.2)

  key_of_item : (n : ℕ) (items : List Item) (item : Item) → Contains items item → (number : ℕ) × Contains (numbered by n items) (item.address, number)
  key_of_item n [] item (k, below, is) = absurd (omega arith)
  key_of_item n (x ∷ rest) item (zero, below, is) = (n, (0, omega arith, ap (λ (i : Item). (i.address, n)) is))
  key_of_item n (x ∷ rest) item (suc k, below, is) =
      let found = key_of_item (n + (further_nodes by x + 1)) rest item (k, omega arith, is) in
      (found.0, (suc found.1.0, omega (arith, found.1.1), found.1.2))

pub same_keys : (image : Image) (items : List CodeItem) → map (λ (item : Item). item.address) (map (item_of image) items) ≡ map (λ (item : CodeItem). item.address) items
same_keys image [] = refl
same_keys image (item ∷ items) = ap (λ (xs : List ℕ). item.address ∷ xs) (same_keys image items)

-- one instruction more is numbered
pub next_numbered : (by : Counting) (n next further : ℕ) (old new : List (ℕ × ℕ)) (item : Item) (rest all : List Item) → new ≡ insert_entry nat_eq old item.address n
    → further ≡ further_nodes by item → next ≡ n + (further + 1) → old ++ numbered by n (item ∷ rest) ≡ numbered by 1 all
    → IsStrictlyIncreasing (map (λ (item : Item). item.address) all) → new ++ numbered by next rest ≡ numbered by 1 all
next_numbered by n next further old new item rest all inserted further_is next_is whole up =
    let keys : map key old ++ item.address ∷ map key (numbered by (n + (further_nodes by item + 1)) rest) ≡ map (λ (item : Item). item.address) all =
    sym (map-append key old (numbered by n (item ∷ rest))) ∙ ap (map key) whole ∙ keys-numbered by 1 all in
    let none : lookup (nat_eq item.address) old ≡ None =
    absent old item.address (map key (numbered by (n + (further_nodes by item + 1)) rest)) (map (λ (item : Item). item.address) all) keys up in
    let one : new ≡ old ++ (item.address, n) ∷ [] = inserted ∙ insert_new old item.address n none in
    let at : next ≡ n + (further_nodes by item + 1) = next_is ∙ ap (λ k. n + (k + 1)) further_is in
    ap (λ (es : List (ℕ × ℕ)). es ++ numbered by next rest) one
    ∙ ap (λ k. (old ++ (item.address, n) ∷ []) ++ numbered by k rest) at
    ∙ append_assoc old ((item.address, n) ∷ []) (numbered by (n + (further_nodes by item + 1)) rest)
    ∙ whole

-- ---- a layout's numbers

module _ (f : Setting) (firsts : List (ℕ × ℕ)) (up : IsStrictlyIncreasing (map key firsts)) where
  pub are_numbered : (front : List (ℕ × ℕ)) (n : ℕ) (items : List Item) → front ++ numbered (counting_of f) n items ≡ firsts
      → AreNumbered f (first_in firsts) n items
  unfolding AreNumbered
  are_numbered front n [] whole = tt
  are_numbered front n (item ∷ rest) whole =
      let next : ℕ = n + (further_nodes (counting_of f) item + 1) in
      let long : n + (further_nodes (counting_of f) item + 1) ≡ n + length (block f item) =
      ap (λ (k : ℕ). n + k) (sym (block_long f item)) in
      let onward : AreNumbered f (first_in firsts) (n + (further_nodes (counting_of f) item + 1)) rest =
      are_numbered (front ++ (item.address, n) ∷ []) (n + (further_nodes (counting_of f) item + 1)) rest
      (append_assoc front ((item.address, n) ∷ []) (numbered (counting_of f) (n + (further_nodes (counting_of f) item + 1)) rest) ∙ whole) in (
        there front item.address n (numbered (counting_of f) (n + (further_nodes (counting_of f) item + 1)) rest) firsts whole up,
        subst (λ (k : ℕ). AreNumbered f (first_in firsts) k rest) long onward,
      )

-- ---- first nodes

place_of : (es : List (ℕ × ℕ)) (e : ℕ × ℕ) → Contains es e → (front rest : List (ℕ × ℕ)) × (front ++ e ∷ rest ≡ es)
place_of [] e (k, below, is) = absurd (omega arith)
place_of (x ∷ es) e (zero, below, is) = ([], es, ap (λ (y : ℕ × ℕ). y ∷ es) (sym is))
place_of (x ∷ es) e (suc k, below, is) =
    let found = place_of es e (k, omega arith, is) in
    (x ∷ found.0, found.1, ap (λ (ys : List (ℕ × ℕ)). x ∷ ys) found.2)

pub are_first_nodes : (image : Image) (f : Setting) (by : Counting) (items : List Item) (firsts : List (ℕ × ℕ)) → AreItems image f.entry f.size items
    → firsts ≡ numbered by 1 items → ((address index : ℕ) → f.at (Of address index) ≡ first_in firsts address + index) → AreFirstNodes image f firsts
are_first_nodes image f by items firsts are numbers at = record { rising = up; exactly = λ address number. (reached address number, listed address number) }
  where
    keys : map key firsts ≡ map (λ (item : Item). item.address) items
    keys = ap (map key) numbers ∙ keys-numbered by 1 items

    up : IsStrictlyIncreasing (map key firsts)
    up = subst (λ (xs : List ℕ). IsStrictlyIncreasing xs) (sym keys) are.rising

    number_is : (address number : ℕ) → Contains firsts (address, number) → number ≡ f.at (Of address 0)
    number_is address number among =
        let place = place_of firsts (address, number) among in
        omega (arith, at address 0, there place.0 address number place.1 firsts place.2 up)

    reached : (address number : ℕ) → Contains firsts (address, number) → IsReachable image f.entry f.size address × (number ≡ f.at (Of address 0))
    reached address number among =
        let found = item_of_key by 1 items address number (subst (λ (es : List (ℕ × ℕ)). Contains es (address, number)) numbers among) in
        (subst (λ (a : ℕ). IsReachable image f.entry f.size a) found.2 (are.reached found.0 found.1), number_is address number among)

    listed : (address number : ℕ) → IsReachable image f.entry f.size address × (number ≡ f.at (Of address 0)) → Contains firsts (address, number)
    listed address number (there_is, is) =
        let found = are.all address there_is in
        let entry = key_of_item by 1 items found.0 found.1 in
        let among : Contains firsts (address, entry.0) =
        subst (λ (a : ℕ). Contains firsts (a, entry.0)) found.2 (subst (λ (es : List (ℕ × ℕ)). Contains es (found.0.address, entry.0)) (sym numbers) entry.1) in
        subst (λ (n : ℕ). Contains firsts (address, n)) (number_is address entry.0 among ∙ sym is) among
