-- Where the nodes of each instruction are in the layout.
use Rattle.std.proofs.Common.{◌≡◌, ◌∙◌, ◌⊎◌, inl, inr, ℕ, zero, suc, ◌+◌, ◌-◌, ◌<◌, ◌≤◌, refl, sym, ap, subst, arith, List, [], ◌∷◌, ◌++◌, length}
use Rattle.std.specs.Prelude.{slice_get, Contains}
use Rattle.std.proofs.lemmas.Bool.{cases_lt}
use Rattle.std.proofs.lemmas.List.{append_assoc, length-append}
use Rattle.graph_core_spec.specs.Graph.{Node}
use Rattle.decompile_spec.specs.Blocks.{Setting}
use Rattle.decompile_laws.specs.Layout.{Item, block, blocks, AreNumbered}

-- ---- places of lists

pub get_front : (xs ys : List Node) (j : ℕ) → j < length xs → slice_get (xs ++ ys) j ≡ slice_get xs j
get_front [] ys j below = absurd (omega arith)
get_front (x ∷ xs) ys zero below = refl
get_front (x ∷ xs) ys (suc j) below = get_front xs ys j (omega arith)

pub get_after : (xs ys : List Node) (j : ℕ) → slice_get (xs ++ ys) (length xs + j) ≡ slice_get ys j
get_after [] ys j = ap (slice_get ys) {y = j} (omega arith)
get_after (x ∷ xs) ys j = ap (slice_get (x ∷ xs ++ ys)) {x = suc (length xs) + j} {y = suc (length xs + j)} (omega arith) ∙ get_after xs ys j

-- ---- the number at which an item's nodes begin

-- the item is among them, and its nodes begin at m where those of the first begin at n
pub data StartsAt (f : Setting) : (n : ℕ) → List Item → Item → (m : ℕ) → Type 0 where
  at_once : (n : ℕ) (item : Item) (rest : List Item) → StartsAt f n (item ∷ rest) item n
  following : (n m : ℕ) (x item : Item) (rest : List Item) → StartsAt f (n + length (block f x)) rest item m → StartsAt f n (x ∷ rest) item m

pub starts_from : (f : Setting) (n m : ℕ) (items : List Item) (item : Item) → StartsAt f n items item m → n ≤ m
starts_from f n m items item (at_once _ _ rest) = omega arith
starts_from f n m items item (following _ _ x _ rest s) = omega (arith, starts_from f (n + length (block f x)) m rest item s)

pub starts_numbered : (f : Setting) (first : ℕ → ℕ) (n m : ℕ) (items : List Item) (item : Item) → AreNumbered f first n items → StartsAt f n items item m → first item.address ≡ m
unfolding AreNumbered
starts_numbered f first n m items item are (at_once _ _ rest) = are.0
starts_numbered f first n m items item are (following _ _ x _ rest s) = starts_numbered f first (n + length (block f x)) m rest item are.1 s

pub starts_among : (f : Setting) (n : ℕ) (items : List Item) (item : Item) → Contains items item → (m : ℕ) × StartsAt f n items item m
starts_among f n [] item (k, below, is) = absurd (omega arith)
starts_among f n (x ∷ rest) item (zero, below, is) = (n, subst (λ y. StartsAt f n (y ∷ rest) item n) (sym is) (at_once n item rest))
starts_among f n (x ∷ rest) item (suc k, below, is) =
    let found = starts_among f (n + length (block f x)) rest item (k, omega arith, is) in
    (found.0, following n found.0 x item rest found.1)

pub among_starts : (f : Setting) (n m : ℕ) (items : List Item) (item : Item) → StartsAt f n items item m → Contains items item
among_starts f n m items item (at_once _ _ rest) = (0, omega arith, refl)
among_starts f n m items item (following _ _ x _ rest s) =
    let found = among_starts f (n + length (block f x)) m rest item s in
    (suc found.0, omega (arith, found.1), found.2)

-- ---- its nodes

pub node_in : (f : Setting) (before : List Node) (n m : ℕ) (items : List Item) (item : Item) (j : ℕ) → length before ≡ n → StartsAt f n items item m → j < length (block f item)
    → slice_get (before ++ blocks f items) (m + j) ≡ slice_get (block f item) j
node_in f before n m items item j count (at_once _ _ rest) below =
    ap (slice_get (before ++ (block f item ++ blocks f rest))) {x = n + j} {y = length before + j} (omega arith)
    ∙ get_after before (block f item ++ blocks f rest) j ∙ get_front (block f item) (blocks f rest) j below
node_in f before n m items item j count (following _ _ x _ rest s) below =
    ap (λ xs. slice_get xs (m + j)) (sym (append_assoc before (block f x) (blocks f rest)))
    ∙ node_in f (before ++ block f x) (n + length (block f x)) m rest item j (omega (arith, length-append before (block f x))) s below

-- each number is that of a node of one item
pub item_of : (f : Setting) (n : ℕ) (items : List Item) (k : ℕ) → n ≤ k → k < n + length (blocks f items)
    → (item : Item) × (m : ℕ) × (j : ℕ) × StartsAt f n items item m × (j < length (block f item)) × (k ≡ m + j)
item_of f n [] k from below = absurd (omega arith)
item_of f n (x ∷ rest) k from below = elim (cases_lt k (n + length (block f x))) [
  | inl inside ↦ (x, n, k - n, at_once n x rest, omega arith, omega arith)
  | inr past ↦
      let found = item_of f (n + length (block f x)) rest k past (omega (arith, length-append (block f x) (blocks f rest))) in
      (found.0, found.1, found.2, following n found.1 x found.0 rest found.3, found.4, found.5)
]

-- an item is the first, or among the rest
first_or_rest : (f : Setting) (n l : ℕ) (items : List Item) (other : Item) → StartsAt f n items other l → (x : Item) (rest : List Item) → items ≡ x ∷ rest
    → ((x ≡ other) × (l ≡ n)) ⊎ StartsAt f (n + length (block f x)) rest other l
first_or_rest f n l items other (at_once _ _ rest0) x rest e = inl (cc, refl)
first_or_rest f n l items other (following _ _ y _ rest0 s) x rest e =
    let same : y ≡ x = cc in
    let others : rest0 ≡ rest = cc in
    inr (subst (λ (xs : List Item). StartsAt f (n + length (block f x)) xs other l) others (subst (λ (z : Item). StartsAt f (n + length (block f z)) rest0 other l) same s))

-- two items whose nodes share a number are one
pub one_item : (f : Setting) (n m l : ℕ) (items : List Item) (item other : Item) (j k : ℕ) → StartsAt f n items item m → StartsAt f n items other l
    → j < length (block f item) → k < length (block f other) → m + j ≡ l + k → (item ≡ other) × (j ≡ k)
one_item f n m l items item other j k (at_once _ _ rest) t below within same = elim (first_or_rest f n l (item ∷ rest) other t item rest refl) [
  | inl one ↦ (one.0, omega (arith, one.1))
  | inr later ↦ absurd (omega (arith, starts_from f (n + length (block f item)) l rest other later))
]
one_item f n m l items item other j k (following _ _ x _ rest s) t below within same = by (first_or_rest f n l (x ∷ rest) other t x rest refl)
    (λ later. one_item f (n + length (block f x)) m l rest item other j k s later below within same)
  where
    by : ((x ≡ other) × (l ≡ n)) ⊎ StartsAt f (n + length (block f x)) rest other l → (StartsAt f (n + length (block f x)) rest other l → (item ≡ other) × (j ≡ k)) → (item ≡ other) × (j ≡ k)
    by (inl one) again =
        let long : length (block f x) ≡ length (block f other) = ap (λ (z : Item). length (block f z)) one.0 in
        absurd (omega (arith, starts_from f (n + length (block f x)) m rest item s, long, one.1))
    by (inr later) again = again later
