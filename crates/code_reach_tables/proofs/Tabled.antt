-- Tables: their words, the start of a run-up, its bounds and the table that it ends with.
use Rattle.std.proofs.Common.{◌≡◌, ◌≢◌, ◌∙◌, ◌⊎◌, inl, inr, ℕ, zero, suc, ◌+◌, ◌-◌, ◌*◌, ◌%◌, ◌^◌, ◌<◌, ◌≤◌, ◌==◌, ◌&&◌, Bool, true, false, if◌then◌else◌, refl, sym, ap, ap₂, subst, arith, eqb-true, eq-eqb, ne_eqb, length, get_or, reverse, take, List, [], ◌∷◌, ◌++◌, Option, Some, None, IsSome, length-append}
use Rattle.std.specs.Prelude.{is_some, nat_le, slice_get, unwrap_or}
use Rattle.std.specs.Option.{option_or, option_map}
use Rattle.std.proofs.lemmas.Bool.{cases_lt, cases_eq, eqb-false, le-leb, and_from}
use Rattle.std.proofs.lemmas.List.{reverse-append, take_all, take_more}
use Rattle.std.proofs.lemmas.Option.{same_Some}
use Rattle.rv_instr.specs.declared.Instr.{Instr}
use Rattle.elf_read_spec.specs.Image.{Image}
use Rattle.code_reach_spec.specs.RunUp as run_up
use Rattle.code_reach_spec.specs.RunUp.{Symbolic, Table, same, parts_of, shift_of, at_start, bound_on, table_from, table_of_parts, indexed, is_straight}
use Rattle.code_reach_spec.specs.Code as spec
use Rattle.code_reach_spec.specs.Code.{TableJump, most_targets, word_at, words_on, words_from, instr_at, straight_on, straight, jump_with, jump_by, jump_from, jump_after, table_jump}
use Rattle.code_reach_spec.proofs.RunUp.{same-eq, same-itself}
use Rattle.code_reach_tables.specs.declared.nodes.Node.{Node}
use Rattle.code_reach_tables.specs.declared.nodes.Node.TheVariants.{Constant, Initial}
use Rattle.code_reach_tables.specs.declared.straight.Bound.{Bound}
use Rattle.code_reach_tables.specs.Nodes.{tree_at, build, Holds, trees_of, AreShared, Gives}
use Rattle.code_reach_tables.specs.Followed.{AreRegisters, IsTree, IsBound, IsBoundOr, AreBounds}
use Rattle.code_reach_tables.specs.Tables.{target_at, targets_from, jump_seen, IsTableOr, is_straight_or, is_before_jump}
use Rattle.code_reach_tables.proofs.Growth.{held, held-later, tree-held, trees-long, below-held}

-- ---- the words of a table

words-by : (w : Option ℕ) (rest : Option (List ℕ)) → IsSome w → is_some rest ≡ true → is_some (words_on w rest) ≡ true
words-by None rest some more = absurd (cc)
words-by (Some w) None some more = absurd (cc)
words-by (Some w) (Some ws) some more = refl

pub words-fixed : (image : Image) (address count : ℕ) → ((j : ℕ) → j < count → IsSome (word_at image (address + 4 * j))) → is_some (words_from image address count) ≡ true
unfolding words_from
words-fixed image address zero each = refl
words-fixed image address (suc count) each =
    let here : address + 4 * 0 ≡ address = omega arith in
    words-by (word_at image address) (words_from image (address + 4) count) (subst (λ a. IsSome (word_at image a)) here (each 0 (omega arith)))
    (words-fixed image (address + 4) count (λ j below.
    let there : address + 4 * suc j ≡ address + 4 + 4 * j = omega arith in
    subst (λ a. IsSome (word_at image a)) there (each (suc j) (omega (arith, below)))))

words-not : (w : Option ℕ) (rest : Option (List ℕ)) → is_some rest ≡ false → is_some (words_on w rest) ≡ false
words-not None rest none = refl
words-not (Some w) None none = refl
words-not (Some w) (Some ws) none = absurd (cc)

pub words-open : (image : Image) (address count k : ℕ) → k < count → word_at image (address + 4 * k) ≡ None → is_some (words_from image address count) ≡ false
unfolding words_from
words-open image address zero k below none = absurd (omega (arith, below))
words-open image address (suc count) zero below none =
    let here : address ≡ address + 4 * 0 = omega arith in
    ap (λ (w : Option ℕ). is_some (words_on w (words_from image (address + 4) count))) (ap (λ a. word_at image a) here ∙ none)
words-open image address (suc count) (suc k) below none =
    let there : address + 4 + 4 * k ≡ address + 4 * suc k = omega arith in
    words-not (word_at image address) (words_from image (address + 4) count)
    (words-open image (address + 4) count k (omega (arith, below)) (ap (λ a. word_at image a) there ∙ none))

-- so many of them are fixed
AreFixed : Image → (address k : ℕ) → Type 0
AreFixed image address k = (j : ℕ) → j < k → IsSome (word_at image (address + 4 * j))

pub fixed-more : (image : Image) (address k : ℕ) → ((j : ℕ) → j < k → IsSome (word_at image (address + 4 * j))) → IsSome (word_at image (address + 4 * k))
    → (j : ℕ) → j < k + 1 → IsSome (word_at image (address + 4 * j))
fixed-more image address k each last j below = elim (cases_lt j k) [
  | inl before ↦ each j before
  | inr after ↦ (let here : k ≡ j = omega (arith, after, below) in subst (λ i. IsSome (word_at image (address + 4 * i))) here last)
]

-- ---- the start

pub record IsBegun (nodes : List Node) (ids : List ℕ) (r : ℕ) : Type 0 where
  pub shared : AreShared nodes
  pub count : length ids ≡ r
  pub each : (q : ℕ) → q < r → Holds (trees_of nodes) (get_or ids q 0) (at_start q)

pub none-begun : IsBegun [] [] 0
none-begun = record {
  shared = record { ordered = tt; distinct = λ i j t at_i at_j. absurd (cc) };
  count = refl;
  each = λ q below. absurd (omega (arith, below));
}

abbrev pub start_node : ℕ → Node
start_node r = if r == 0 then Constant 0 else Initial r

pub start-zero : (r : ℕ) → r ≡ 0 → Constant 0 ≡ start_node r
start-zero r e = ap (λ (b : Bool). if b then Constant 0 else Initial r) (sym (eq-eqb r 0 e))

pub start-other : (r : ℕ) → r ≢ 0 → Initial r ≡ start_node r
start-other r e = ap (λ (b : Bool). if b then Constant 0 else Initial r) (sym (ne_eqb r 0 e))

start-tree : (ts : List Symbolic) (r : ℕ) → build ts (start_node r) ≡ at_start r
start-tree ts r = by (r == 0)
  where
    by : (b : Bool) → build ts (if b then Constant 0 else Initial r) ≡ (if b then run_up.Constant 0 else run_up.Initial r)
    by true = refl
    by false = refl

get-front : (xs : List ℕ) (x q : ℕ) → q < length xs → get_or (xs ++ x ∷ []) q 0 ≡ get_or xs q 0
get-front [] x q below = absurd (omega (arith, below))
get-front (y ∷ xs) x zero below = refl
get-front (y ∷ xs) x (suc q) below = get-front xs x q (omega (arith, below))

get-last : (xs : List ℕ) (x : ℕ) → get_or (xs ++ x ∷ []) (length xs) 0 ≡ x
get-last [] x = refl
get-last (y ∷ xs) x = get-last xs x

pub one-begun : (old new : List Node) (ids : List ℕ) (r id : ℕ) (node : Node) → node ≡ start_node r → IsBegun old ids r → Gives old new id (build (trees_of old) node)
    → IsBegun new (ids ++ id ∷ []) (r + 1)
one-begun old new ids r id node is begun gives = record {
  shared = gives.shared;
  count = length-append ids (id ∷ []) ∙ omega (arith, begun.count);
  each = each;
}
  where
    each : (q : ℕ) → q < r + 1 → Holds (trees_of new) (get_or (ids ++ id ∷ []) q 0) (at_start q)
    each q below = elim (cases_lt q r) [
      | inl before ↦ subst (λ k. Holds (trees_of new) k (at_start q)) (sym (get-front ids id q (omega (arith, before, begun.count))))
          (held-later (trees_of old) (trees_of new) (get_or ids q 0) (at_start q) gives.extends (begun.each q before))
      | inr after ↦
          let here : q ≡ length ids = omega (arith, after, below, begun.count) in
          let place : get_or (ids ++ id ∷ []) q 0 ≡ id = ap (λ k. get_or (ids ++ id ∷ []) k 0) here ∙ get-last ids id in
          let r_is : r ≡ q = omega (arith, after, below) in
          subst (λ k. Holds (trees_of new) k (at_start q)) (sym place)
          (subst (λ (t : Symbolic). Holds (trees_of new) id t) (ap (λ (n : Node). build (trees_of old) n) is ∙ (start-tree (trees_of old) r ∙ ap (λ k. at_start k) r_is)) gives.holds)
    ]

pub all-begun : (nodes : List Node) (ids : List ℕ) → IsBegun nodes ids 32 → AreRegisters nodes ids at_start
all-begun nodes ids begun = record { count = begun.count; each = begun.each }

-- ---- the bounds

-- the bounds that are left have the last one of what the index is, if there is one
pub record IsLeft (ts : List Symbolic) (bounds : List Bound) (index left : ℕ) : Type 0 where
  pub within : left ≤ length bounds
  pub rest : (cs : List run_up.Bound) (t : Symbolic) → Holds ts index t → AreBounds ts (reverse bounds) cs
      → (more : List run_up.Bound) × AreBounds ts (reverse (take left bounds)) more × (bound_on t cs ≡ bound_on t more)

pub all-left : (ts : List Symbolic) (bounds : List Bound) (index left : ℕ) → left ≡ length bounds → IsLeft ts bounds index left
all-left ts bounds index left all = record {
  within = omega (arith, all);
  rest = λ cs t holds are. (cs, subst (λ (l : List Bound). AreBounds ts (reverse l) cs) (sym (take_all left bounds (omega (arith, all)))) are, refl);
}

module _ (nodes : List Node) (shared : AreShared nodes) (bounds : List Bound) (index left : ℕ) (b : Bound) (is : get_or bounds left b ≡ b) (below : left < length bounds) where
  abbrev ts : List Symbolic
  ts = trees_of nodes

  split : reverse (take (left + 1) bounds) ≡ b ∷ reverse (take left bounds)
  split = ap (λ (l : List Bound). reverse l) (take_more bounds left b below ∙ ap (λ (x : Bound). take left bounds ++ x ∷ []) is) ∙ reverse-append (take left bounds) (b ∷ [])

  -- the last of those that are left
  last-of : (more : List run_up.Bound) → AreBounds ts (b ∷ reverse (take left bounds)) more
      → (c : run_up.Bound) × (others : List run_up.Bound) × (more ≡ c ∷ others) × IsBound ts b c × AreBounds ts (reverse (take left bounds)) others
  last-of [] are = absurd are
  last-of (c ∷ others) are = (c, others, refl, are.0, are.1)

  apart : (t : Symbolic) (c : run_up.Bound) → Holds ts index t → IsBound ts b c → b.index ≢ index → same c.index t ≡ false
  apart t c holds bound other = by (same c.index t) refl
    where
      by : (z : Bool) → same c.index t ≡ z → z ≡ false
      by false e = refl
      by true e = absurd (other (shared.distinct b.index index t (bound.index_is ∙ ap (λ (s : Symbolic). Some s) (same-eq c.index t e)) holds))

  pub one-less : IsLeft ts bounds index (left + 1) → b.index ≢ index → IsLeft ts bounds index left
  one-less before other = record {
    within = omega (arith, below);
    rest = λ cs t holds are.
        let now = before.rest cs t holds are in
        let parts = last-of now.0 (subst (λ (l : List Bound). AreBounds ts l now.0) split now.1) in
        (parts.1, parts.4, now.2 ∙ (ap (λ (m : List run_up.Bound). bound_on t m) parts.2 ∙ ap (λ z. if z then Some parts.0 else bound_on t parts.1) (apart t parts.0 holds parts.3 other)));
  }

  pub found-last : IsLeft ts bounds index (left + 1) → b.index ≡ index → (cs : List run_up.Bound) (t : Symbolic) → Holds ts index t → AreBounds ts (reverse bounds) cs
      → IsBoundOr ts (Some b) (bound_on t cs)
  found-last before here cs t holds are =
      let now = before.rest cs t holds are in
      let parts = last-of now.0 (subst (λ (l : List Bound). AreBounds ts l now.0) split now.1) in
      let own : Holds ts index parts.0.index = subst (λ k. Holds ts k parts.0.index) here parts.3.index_is in
      let equal : parts.0.index ≡ t = same_Some parts.0.index t (sym own ∙ holds) in
      let same_one : same parts.0.index t ≡ true = ap (λ (s : Symbolic). same s t) equal ∙ same-itself t in
      subst (λ (o : Option run_up.Bound). IsBoundOr ts (Some b) o)
      (sym (now.2 ∙ (ap (λ (m : List run_up.Bound). bound_on t m) parts.2 ∙ ap (λ z. if z then Some parts.0 else bound_on t parts.1) same_one))) parts.3

pub none-left : (ts : List Symbolic) (bounds : List Bound) (index : ℕ) → IsLeft ts bounds index 0 → (cs : List run_up.Bound) (t : Symbolic) → Holds ts index t → AreBounds ts (reverse bounds) cs
    → IsBoundOr ts None (bound_on t cs)
none-left ts bounds index before cs t holds are = by now.0 now.1 now.2
  where
    now : (more : List run_up.Bound) × AreBounds ts (reverse (take 0 bounds)) more × (bound_on t cs ≡ bound_on t more)
    now = before.rest cs t holds are

    by : (more : List run_up.Bound) → AreBounds ts [] more → bound_on t cs ≡ bound_on t more → IsBoundOr ts None (bound_on t cs)
    by [] there e = subst (λ (o : Option run_up.Bound). IsBoundOr ts None o) (sym e) tt
    by (c ∷ others) there e = absurd there

-- ---- the table

pub source-below : (nodes : List Node) (o : Option ℕ) (t : Option Symbolic) (id : ℕ) → IsTree (trees_of nodes) o t → o ≡ Some id → id < length nodes
source-below nodes None t id is e = absurd (cc)
source-below nodes (Some i) None id is e = absurd is
source-below nodes (Some i) (Some t) id is e =
    let same_id = same_Some i id e in
    omega (arith, same_id, below-held (trees_of nodes) i t is, trees-long nodes)

source-tree : (ts : List Symbolic) (o : Option ℕ) (t : Option Symbolic) (id : ℕ) → IsTree ts o t → o ≡ Some id → t ≡ Some (tree_at ts id)
source-tree ts None t id is e = absurd (cc)
source-tree ts (Some i) None id is e = absurd is
source-tree ts (Some i) (Some t) id is e = ap (λ (s : Symbolic). Some s) (sym (tree-held ts i t is) ∙ ap (λ k. tree_at ts k) (same_Some i id e))

module _ (ts : List Symbolic) (o : Option ℕ) (t : Option Symbolic) (id : ℕ) (is : IsTree ts o t) (e : o ≡ Some id) where
  pub none-source : (found : Option (ℕ × ℕ)) → found ≡ None → None ≡ parts_of (tree_at ts id) → IsTableOr ts found (table_from t)
  none-source found is_none parts =
      subst (λ (f : Option (ℕ × ℕ)). IsTableOr ts f (table_from t)) (sym is_none)
      (subst (λ (s : Option Symbolic). IsTableOr ts None (table_from s)) (sym (source-tree ts o t id is e))
      (subst (λ (p : Option (Symbolic × ℕ)). IsTableOr ts None (table_of_parts p)) parts tt))

  module _ (scaled first : ℕ) (parts : Some (tree_at ts scaled, first) ≡ parts_of (tree_at ts id)) where
    with-parts : (found : Option (ℕ × ℕ)) → IsTableOr ts found (indexed first (shift_of (tree_at ts scaled))) → IsTableOr ts found (table_from t)
    with-parts found done =
        subst (λ (s : Option Symbolic). IsTableOr ts found (table_from s)) (sym (source-tree ts o t id is e))
        (subst (λ (p : Option (Symbolic × ℕ)). IsTableOr ts found (table_of_parts p)) parts done)

    pub none-shifted : (found : Option (ℕ × ℕ)) → found ≡ None → None ≡ shift_of (tree_at ts scaled) → IsTableOr ts found (table_from t)
    none-shifted found is_none shift = with-parts found
        (subst (λ (f : Option (ℕ × ℕ)). IsTableOr ts f (indexed first (shift_of (tree_at ts scaled)))) (sym is_none)
        (subst (λ (p : Option (Symbolic × ℕ)). IsTableOr ts None (indexed first p)) shift tt))

    pub is-table : (index amount : ℕ) → index < length ts → Some (tree_at ts index, amount) ≡ shift_of (tree_at ts scaled) → amount ≡ 2 → IsTableOr ts (Some (first, index)) (table_from t)
    is-table index amount below shift two = with-parts (Some (first, index))
        (subst (λ (p : Option (Symbolic × ℕ)). IsTableOr ts (Some (first, index)) (indexed first p)) shift
        (subst (λ (b : Bool). IsTableOr ts (Some (first, index)) (if b then Some (record { first = first; index = tree_at ts index }) else None)) (sym (eq-eqb amount 2 two))
        (refl, held ts index below)))

    pub no-table : (index amount : ℕ) → Some (tree_at ts index, amount) ≡ shift_of (tree_at ts scaled) → amount ≢ 2 → IsTableOr ts None (table_from t)
    no-table index amount shift other = with-parts None
        (subst (λ (p : Option (Symbolic × ℕ)). IsTableOr ts None (indexed first p)) shift
        (subst (λ (b : Bool). IsTableOr ts None (if b then Some (record { first = first; index = tree_at ts index }) else None)) (sym (ne_eqb amount 2 other)) tt))

-- ---- its jump

pub targets-are : (image : Image) (address count : ℕ) (words : List ℕ) → words_from image address count ≡ Some words → address + 4 * count ≤ 2 ^ 32 → targets_from image address count ≡ words
unfolding words_from targets_from
targets-are image address zero words e below = same_Some [] words e
targets-are image address (suc count) words e below = by (word_at image address) (words_from image (address + 4) count) refl refl e
    (λ ws is. targets-are image (address + 4) count ws is (omega (arith, below)))
  where
    inside : nat_le (address + 4) (2 ^ 32) ≡ true
    inside = le-leb (address + 4) (2 ^ 32) (omega (arith, below))

    by : (w : Option ℕ) (rest : Option (List ℕ)) → word_at image address ≡ w → words_from image (address + 4) count ≡ rest → words_on w rest ≡ Some words
        → ((ws : List ℕ) → words_from image (address + 4) count ≡ Some ws → targets_from image (address + 4) count ≡ ws)
        → (if nat_le (address + 4) (2 ^ 32) then unwrap_or (word_at image address) 0 else 0) ∷ targets_from image (address + 4) count ≡ words
    by None rest is are h more = absurd (cc)
    by (Some w) None is are h more = absurd (cc)
    by (Some w) (Some ws) is are h more =
        ap₂ (λ (x : ℕ) (l : List ℕ). x ∷ l)
        (ap (λ (b : Bool). if b then unwrap_or (word_at image address) 0 else 0) inside ∙ ap (λ (o : Option ℕ). unwrap_or o 0) is) (more ws are)
        ∙ same_Some (w ∷ ws) words h

pub bounded-is : (image : Image) (before first branch count : ℕ) (other : run_up.Bound) → other.branch ≡ branch → other.count ≡ count → first % 4 ≡ 0 → 1 ≤ count → count ≤ 1024
    → first + 4 * count ≤ 2 ^ 32 → is_some (words_from image first count) ≡ true
    → Some (jump_seen image (record { before = before; branch = branch; first = first; count = count })) ≡ jump_by image before (Some (first, other))
bounded-is image before first branch count other branch_is count_is even some few below fixed =
    by (words_from image first count) refl fixed ∙ (ap (λ (o : Option (List ℕ)). jump_with before other o) refl ∙ sym (ap (λ (b : Bool). if b then jump_with before other (words_from image first other.count) else None) holds ∙ again))
  where
    holds : ((first % 4 == 0) && (nat_le 1 other.count && (nat_le other.count most_targets && nat_le (first + 4 * other.count) (2 ^ 32)))) ≡ true
    holds = and_from (first % 4 == 0) _ (eq-eqb (first % 4) 0 even)
        (and_from (nat_le 1 other.count) _ (le-leb 1 other.count (omega (arith, some, count_is)))
        (and_from (nat_le other.count most_targets) (nat_le (first + 4 * other.count) (2 ^ 32)) (le-leb other.count most_targets (omega (arith, few, count_is)))
        (le-leb (first + 4 * other.count) (2 ^ 32) (omega (arith, below, count_is)))))

    again : jump_with before other (words_from image first other.count) ≡ jump_with before other (words_from image first count)
    again = ap (λ k. jump_with before other (words_from image first k)) count_is

    by : (o : Option (List ℕ)) → words_from image first count ≡ o → is_some o ≡ true
        → Some (record { before = before; branch = branch; targets = targets_from image first count }) ≡ jump_with before other o
    by None is none = absurd (cc)
    by (Some ws) is there = ap₂ (λ (b : ℕ) (l : List ℕ). Some (record { before = before; branch = b; targets = l })) (sym branch_is) (targets-are image first count ws is below)
