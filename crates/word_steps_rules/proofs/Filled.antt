-- Rows that are filled bit by bit, and tables that get one row more.
use Rattle.std.proofs.Common.{false, ◌≡◌, ℕ, zero, suc, ◌+◌, ◌<◌, ◌≤◌, true, ◌⊎◌, inl, inr, List, [], ◌∷◌, ◌++◌, length, get_or, Vec, Some, refl, sym, ap, ◌∙◌, subst, arith, length-append}
use Rattle.std.specs.Prelude.{slice_get}
use Rattle.std.specs.Global.{Global}
use Rattle.std.proofs.lemmas.Bool.{cases_lt}
use Rattle.std.proofs.lemmas.List.{get_or_past, get_or_push, map-append, length-map}
use Rattle.std.proofs.lemmas.List.Elements.{All-nil, All-push, All-same}
use Rattle.std.proofs.lemmas.Option.{get_or_from_slice_get, slice_get_within}
use Rattle.term_core_spec.specs.Term.{Term}
use Rattle.term_core_spec.specs.Sort.{sort_of}
use Rattle.term_core_spec.specs.Subterms.{IsIn}
use Rattle.term_core_spec.proofs.Subterms.{there}
use Rattle.term_bank.specs.declared.node.TermNode.{TermNode}
use Rattle.term_bank.specs.declared.node.TermNode.TheVariants as node
use Rattle.term_bank.specs.Nodes.{IsNode, tree_at, build, AreDistinct}
use Rattle.term_sorts.specs.Order.{terms_of, is_among, IsOrder, Begins, AddsSubterms}
use Rattle.term_sorts.proofs.Orders.{any_is, within_of, no_order}
use Rattle.word_steps_rules.specs.declared.bit.Bit.{Bit}
use Rattle.word_steps_rules.specs.declared.bit.Bit.TheVariants.{Fixed}
use Rattle.word_steps_rules.specs.declared.plan.Plan.{Plan}
use Rattle.word_steps_rules.specs.declared.rows.Rows.{Rows}
use Rattle.word_steps_rules.specs.Bits.{bit_in, bits_in, IsBit, AreIn, IsRow, rows_of, row_in, AreRows, planned, IsPlan}
use Rattle.word_steps_rules.specs.Plans.{node_plan}
use Rattle.word_steps_rules.specs.Tables.{bit_count, AreKnown, IsPlannedRow, IsTable, HasMore}
use Rattle.word_steps_rules.proofs.Placed.{next_has_rows}
use Rattle.word_steps_rules.proofs.Planned.{node_planned}

below : (m n a : ℕ) → a < m → m < n → a < n
below m n a first second = omega (arith, first, second)

get_or-front : {X : Type 0} → (xs ys : List X) (i : ℕ) (d : X) → i < length xs → get_or (xs ++ ys) i d ≡ get_or xs i d
get_or-front [] ys i d less = absurd (omega (arith, less))
get_or-front (x ∷ xs) ys zero d less = refl
get_or-front (x ∷ xs) ys (suc i) d less = get_or-front xs ys i d (omega (arith, less))

-- ---- one bit more

module _ (trees : List Term) (rows : List (List Bit)) (t : Term) (plan : Plan) where
  pub planned_none : (row : List Bit) → row ≡ [] → IsPlannedRow trees rows t plan 0 row
  planned_none row e = record {
    long = ap length e;
    known = All-same (IsBit (length trees)) row [] e (All-nil (IsBit (length trees)));
    each = λ i less. absurd (omega (arith, less));
  }

  pub planned_more : (row new : List Bit) (k : ℕ) (bit : Bit) → IsPlannedRow trees rows t plan k row → new ≡ row ++ bit ∷ [] → IsBit (length trees) bit
      → bit_in trees bit ≡ planned trees rows t plan k → IsPlannedRow trees rows t plan (k + 1) new
  planned_more row new k bit is grows known same =
      let long = is.long in
      record {
        long = ap length grows ∙ length-append row (bit ∷ []) ∙ omega (arith, long);
        known = All-same (IsBit (length trees)) new (row ++ bit ∷ []) grows (All-push (IsBit (length trees)) row bit is.known known);
        each = λ i less. ap (λ l. bits_in trees l i) grows ∙ by i less (cases_lt i k);
      }
    where
      by : (i : ℕ) → i < k + 1 → (i < k) ⊎ (k ≤ i) → bits_in trees (row ++ bit ∷ []) i ≡ planned trees rows t plan i
      by i less (inl before) =
          let long = is.long in
          let inside : i < length row = omega (arith, before, long) in
          ap (bit_in trees) (get_or-front row (bit ∷ []) i (Fixed false) inside) ∙ is.each i before
      by i less (inr from) =
          let at : k ≡ i = omega (arith, less, from) in
          ap (bit_in trees) (get_or_push row bit (Fixed false) i (is.long ∙ at)) ∙ same ∙ ap (planned trees rows t plan) at

-- ---- one row more

-- a row of a word by its plan is the word's
planned_is_row : (trees : List Term) (rows : List (List Bit)) (t : Term) (plan : Plan) (row : List Bit) → IsPlan trees rows t plan
    → IsPlannedRow trees rows t plan (bit_count (sort_of t)) row → IsRow trees t row
planned_is_row trees rows t plan row is made = record {
  long = λ width h. made.long ∙ ap bit_count h;
  each = λ width h i less. made.each i (subst (λ n. i < n) (sym (ap bit_count h)) less) ∙ is width h i less;
}

module _ (trees : List Term) (apart : AreDistinct trees) (ids : List ℕ) (order : IsOrder trees ids) (rows : List (List Bit)) (are : AreRows trees ids rows) (id : ℕ)
    (at : slice_get ids (length rows) ≡ Some id) (shape : TermNode) (before : IsNode id shape) (here : tree_at trees id ≡ build trees shape) (inside : id < length trees) where
  plan_is : IsPlan trees rows (tree_at trees id) (node_plan trees ids rows shape)
  plan_is = subst (λ t. IsPlan trees rows t (node_plan trees ids rows shape)) (sym here)
      (node_planned trees rows ids shape (next_has_rows trees apart ids order rows are id at shape before here inside))

  pub rows_more : (row : List Bit) (new : List (List Bit)) → IsPlannedRow trees rows (tree_at trees id) (node_plan trees ids rows shape) (bit_count (sort_of (tree_at trees id))) row
      → new ≡ rows ++ row ∷ [] → AreRows trees ids new
  rows_more row new made grows = subst (AreRows trees ids) (sym grows) (record { within = within_now; each = each_now; known = known_now })
    where
      long : length (rows ++ row ∷ []) ≡ length rows + 1
      long = length-append rows (row ∷ [])

      within_now : length (rows ++ row ∷ []) ≤ length ids
      within_now = let less = slice_get_within ids (length rows) id at in omega (arith, less, long)

      each_now : (k : ℕ) → k < length (rows ++ row ∷ []) → IsRow trees (tree_at trees (get_or ids k 0)) (row_in (rows ++ row ∷ []) k)
      each_now k less = by (cases_lt k (length rows))
        where
          by : (k < length rows) ⊎ (length rows ≤ k) → IsRow trees (tree_at trees (get_or ids k 0)) (row_in (rows ++ row ∷ []) k)
          by (inl old) = subst (IsRow trees (tree_at trees (get_or ids k 0))) (sym (get_or-front rows (row ∷ []) k [] old)) (are.each k old)
          by (inr from) =
              let last : length rows ≡ k = omega (arith, less, from, long) in
              let is : get_or ids k 0 ≡ id = ap (λ j. get_or ids j 0) (sym last) ∙ get_or_from_slice_get ids (length rows) id 0 at in
              subst (λ j. IsRow trees (tree_at trees j) (row_in (rows ++ row ∷ []) k)) (sym is)
              (subst (IsRow trees (tree_at trees id)) (sym (get_or_push rows row [] k last)) (planned_is_row trees rows (tree_at trees id) (node_plan trees ids rows shape) row plan_is made))

      known_now : AreKnown trees (rows ++ row ∷ [])
      known_now k = by (cases_lt k (length rows)) (cases_lt k (length rows + 1))
        where
          by : (k < length rows) ⊎ (length rows ≤ k) → (k < length rows + 1) ⊎ (length rows + 1 ≤ k) → AreIn (length trees) (row_in (rows ++ row ∷ []) k)
          by (inl old) q = subst (AreIn (length trees)) (sym (get_or-front rows (row ∷ []) k [] old)) (are.known k)
          by (inr from) (inl less) =
              let last : length rows ≡ k = omega (arith, less, from) in
              subst (AreIn (length trees)) (sym (get_or_push rows row [] k last)) made.known
          by (inr from) (inr past) =
              let beyond : length (rows ++ row ∷ []) ≤ k = omega (arith, past, long) in
              subst (AreIn (length trees)) (sym (get_or_past (rows ++ row ∷ []) k [] beyond)) (All-nil (IsBit (length trees)))

-- ---- tables

rows_push : (rows : List (Vec Bit Global)) (row : Vec Bit Global) → rows_of (rows ++ row ∷ []) ≡ rows_of rows ++ row.items ∷ []
rows_push rows row = map-append (λ (r : Vec Bit Global). r.items) rows (row ∷ [])

-- more ids, of which the first are those that were there
pub table_begins : (trees : List Term) (ids more : List ℕ) (rows : List (List Bit)) → Begins ids more → AreRows trees ids rows → AreRows trees more rows
table_begins trees ids more rows begins are = record {
  within = let within = are.within in omega (arith, within, ap length begins.1, length-append ids begins.0);
  each = λ k less.
      let inside : k < length ids = let within = are.within in omega (arith, less, within) in
      subst (λ i. IsRow trees (tree_at trees i) (row_in rows k)) (sym (ap (λ l. get_or l k 0) begins.1 ∙ get_or-front ids begins.0 k 0 inside)) (are.each k less);
  known = are.known;
}

-- a term whose subterms were added is there
pub added_there : (trees : List Term) → AreDistinct trees → (old new : List ℕ) (id : ℕ) → id < length trees → IsOrder trees new → AddsSubterms trees id old new → is_among new id ≡ true
added_there trees apart old new id less order adds =
    any_is trees apart id new less (within_of trees [] new order)
    ∙ subst (IsIn (tree_at trees id)) (sym adds) (there (tree_at trees id) (terms_of trees old))

pub kept_by_ids : (old ids new : List ℕ) → Begins old ids → new ≡ ids → Begins old new
kept_by_ids old ids new begins same = (begins.0, same ∙ begins.1)

-- no term yet
pub no_table : (trees : List Term) (table : Rows) → table.ids.keys ≡ [] → table.rows.items ≡ [] → IsTable trees table
no_table trees table none empty = record {
  order = no_order trees table.ids.keys none;
  rows = subst (λ l. AreRows trees table.ids.keys (rows_of l)) (sym empty) (record {
    within = omega arith;
    each = λ k less. absurd (omega (arith, less));
    known = λ k. All-nil (IsBit (length trees));
  });
}

-- with the subterms of one more term, without rows yet
pub table_grown : (trees : List Term) (old new : Rows) → IsTable trees old → IsOrder trees new.ids.keys → Begins old.ids.keys new.ids.keys → new.rows.items ≡ old.rows.items → IsTable trees new
table_grown trees old new is order begins same =
    record { order = order; rows = subst (λ l. AreRows trees new.ids.keys (rows_of l)) (sym same) (table_begins trees old.ids.keys new.ids.keys (rows_of old.rows.items) begins is.rows) }

-- a node over terms below one that is there
pub node_within : (m n : ℕ) (o : TermNode) → IsNode m o → m < n → IsNode n o
node_within m n (node.Leaf leaf) is less = tt
node_within m n (node.Unary o a) is less = let ha : a < m = is in omega (arith, ha, less)
node_within m n (node.Binary o a b) is less = (below m n a is.0 less, below m n b is.1 less)
node_within m n (node.Ternary o a b c) is less = (below m n a is.0 less, below m n b is.1 less, below m n c is.2 less)
node_within m n (node.Quaternary o a b c d) is less = (below m n a is.0 less, below m n b is.1 less, below m n c is.2 less, below m n d is.3 less)
node_within m n (node.Octonary a b c d e f g h) is less = (
  below m n a is.0 less,
  below m n b is.1 less,
  below m n c is.2 less,
  below m n d is.3 less,
  below m n e is.4 less,
  below m n f is.5 less,
  below m n g is.6 less,
  below m n h is.7 less,
)

-- with the row of the next id
pub table_more : (trees : List Term) → AreDistinct trees → (old new : Rows) (id : ℕ) (made : TermNode) (row : Vec Bit Global) → IsTable trees old
    → slice_get old.ids.keys (length old.rows.items) ≡ Some id → IsNode id made → tree_at trees id ≡ build trees made → id < length trees
    → IsPlannedRow trees (rows_of old.rows.items) (tree_at trees id) (node_plan trees old.ids.keys (rows_of old.rows.items) made) (bit_count (sort_of (tree_at trees id))) row.items
    → new.ids.keys ≡ old.ids.keys → new.rows.items ≡ old.rows.items ++ row ∷ [] → IsTable trees new × HasMore trees old new
table_more trees apart old new id made row is at before here inside filled ids_same items =
    let count : length (rows_of old.rows.items) ≡ length old.rows.items = length-map old.rows.items (λ (r : Vec Bit Global). r.items) in
    let place : slice_get old.ids.keys (length (rows_of old.rows.items)) ≡ Some id = ap (slice_get old.ids.keys) count ∙ at in
    let more = rows_more trees apart old.ids.keys is.order (rows_of old.rows.items) is.rows id place made before here inside row.items (rows_of new.rows.items) filled (ap rows_of items ∙ rows_push old.rows.items row) in (
      record {
        order = subst (IsOrder trees) (sym ids_same) is.order;
        rows = subst (λ ids. AreRows trees ids (rows_of new.rows.items)) (sym ids_same) more;
      },
      record { ids = ids_same; longer = ap length items ∙ length-append old.rows.items (row ∷ []) ∙ omega arith },
    )
