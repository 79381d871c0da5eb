-- Terms whose bits are there, and what the tests on these bits come to.
use Rattle.std.proofs.Common.{◌≡◌, ℕ, zero, suc, ◌<◌, Bool, true, false, cond, List, ◌++◌, length, get_or, Vec, Option, Some, None, refl, sym, ap, ◌∙◌, subst, arith, append_assoc}
use Rattle.std.specs.Prelude.{◌&&◌, ◌||◌, Result, Ok, Err, OnOk}
use Rattle.std.specs.Global.{Global}
use Rattle.std.proofs.lemmas.List.Folds.{list_any-append}
use Rattle.std.proofs.lemmas.List.{length-map}
use Rattle.std.proofs.lemmas.Option.{get_or_from_slice_get}
use Rattle.term_core_spec.specs.declared.Atom.{Atom}
use Rattle.term_core_spec.specs.declared.Atom.TheVariants as atom
use Rattle.term_core_spec.specs.Term.{Term}
use Rattle.term_core_spec.specs.Sort.{bits}
use Rattle.term_norm_spec.specs.Patterns.{width_of}
use Rattle.term_norm_spec.proofs.Keeps.{width_is}
use Rattle.term_bank.specs.Nodes.{tree_at}
use Rattle.term_sorts.specs.Order.{is_among, Begins}
use Rattle.word_steps_spec.specs.Bitwise as spec
use Rattle.word_steps_spec.specs.Bitwise.{unequal_pairs, has_none, has_opposite, are_among, same_by_bits, decided_by_bits}
use Rattle.word_steps_spec.specs.Sides as sides
use Rattle.word_steps_spec.specs.Sides.{are_words}
use Rattle.word_steps_rules.specs.declared.bit.Bit.{Bit}
use Rattle.word_steps_rules.specs.declared.words.Sides.{Sides}
use Rattle.word_steps_rules.specs.declared.rows.Rows.{Rows}
use Rattle.word_steps_rules.specs.Views.{sides_in}
use Rattle.word_steps_rules.specs.Bits.{bits_in, index_among, AreIn, IsRow, rows_of}
use Rattle.word_steps_rules.specs.Pairs.{are_same, have_pairs, have_same, differ}
use Rattle.word_steps_rules.specs.Tables.{IsTable, Covers, CoversBoth, HaveBits, Keeps, row_of}
use Rattle.word_steps_rules.proofs.Placed.{index_there, index_below}
use Rattle.word_steps_rules.proofs.Shifts.{SameBelow, all_same, row_long, row_same}
use Rattle.word_steps_rules.proofs.Equalities.{words_sorted}
use Rattle.word_steps_rules.proofs.Differing.{have_pairs_is, none_is, differ_is}

-- ---- terms that are there

module _ (trees : List Term) (table : Rows) (is : IsTable trees table) (id : ℕ) (covers : Covers table id) where
  inside : index_among table.ids.keys id < length (rows_of table.rows.items)
  inside =
      let below = index_below table.ids.keys id covers.there in
      let whole = covers.whole in
      omega (arith, below, whole, length-map table.rows.items (λ (r : Vec Bit Global). r.items))

  pub covered_row : IsRow trees (tree_at trees id) (row_of table id)
  covered_row =
      let same : get_or table.ids.keys (index_among table.ids.keys id) 0 ≡ id =
      get_or_from_slice_get table.ids.keys (index_among table.ids.keys id) id 0 (index_there table.ids.keys id covers.there) in
      subst (λ i. IsRow trees (tree_at trees i) (row_of table id)) same (is.rows.each (index_among table.ids.keys id) inside)

  pub covered_known : AreIn (length trees) (row_of table id)
  covered_known = is.rows.known (index_among table.ids.keys id)

-- what is there stays there
pub still_there : (old new : List ℕ) (id : ℕ) → Begins old new → is_among old id ≡ true → is_among new id ≡ true
still_there old new id begins h = ap (λ l. is_among l id) begins.1 ∙ list_any-append _ old begins.0 ∙ ap (λ b. b || is_among begins.0 id) h

pub kept_then : (old before table : Rows) → Keeps old before → Keeps before table → Keeps old table
kept_then old before table first second = (
  first.0 ++ second.0,
  second.1 ∙ ap (λ l. l ++ second.0) first.1 ∙ append_assoc old.ids.keys first.0 second.0,
)

pub still_covers : (before table : Rows) (id other : ℕ) → Covers before id → Keeps before table → Covers table other → Covers table id
still_covers before table id other covers begins whole =
    record { there = still_there before.ids.keys table.ids.keys id begins covers.there; whole = whole.whole }

pub still_both : (before table : Rows) (ids others : Sides) → CoversBoth before ids → Keeps before table → CoversBoth table others → CoversBoth table ids
still_both before table ids others covers begins whole = record {
  left = still_covers before table ids.left others.left covers.left begins whole.left;
  right = still_covers before table ids.right others.left covers.right begins whole.left;
}

-- the second of two terms is there now, or memory is out
pub covered_both : {X Y : Type 0} (before table : Rows) (ids : Sides) (result : Result X Y) → Covers before ids.left → OnOk result (Covers table ids.right) → OnOk result (Keeps before table)
    → OnOk result (CoversBoth table ids)
covered_both before table ids (Ok done) left right begins =
    record { left = still_covers before table ids.left ids.right left begins right; right = right }
covered_both before table ids (Err error) left right begins = tt

-- the bits of two terms that are there
pub have_bits : (trees : List Term) (table : Rows) (ids : Sides) → IsTable trees table → CoversBoth table ids → HaveBits trees table ids
have_bits trees table ids is covers = record {
  left = covered_row trees table is ids.left covers.left;
  right = covered_row trees table is ids.right covers.right;
  left_known = covered_known trees table is ids.left covers.left;
  right_known = covered_known trees table is ids.right covers.right;
}

-- ---- tests

module _ (trees : List Term) (table : Rows) (ids : Sides) (have : HaveBits trees table ids) (words : are_words (tree_at trees ids.left) (tree_at trees ids.right) ≡ true) where
  abbrev x : Term
  x = tree_at trees ids.left

  abbrev y : Term
  y = tree_at trees ids.right

  abbrev f : spec.Bits
  f = bits_in trees (row_of table ids.left)

  abbrev g : spec.Bits
  g = bits_in trees (row_of table ids.right)

  pub long : length (row_of table ids.left) ≡ bits (width_of x)
  long = let s = words_sorted x y words in row_long trees s.width x (row_of table ids.left) s.first have.left

  first_same : SameBelow (bits (width_of x)) f (spec.bits_of x)
  first_same = let s = words_sorted x y words in row_same trees s.width x (row_of table ids.left) s.first have.left

  second_same : SameBelow (bits (width_of x)) g (spec.bits_of y)
  second_same =
      let s = words_sorted x y words in
      λ i less. have.right.each s.width s.second i (subst (λ w. i < bits w) (width_is x s.width s.first) less)

  -- of two words
  pub same_is : are_same (length (row_of table ids.left)) f g ≡ are_same (bits (width_of x)) (spec.bits_of x) (spec.bits_of y)
  same_is =
      ap (λ n. are_same n f g) long
      ∙ all_same (bits (width_of x)) (λ i. spec.same_bit (f i) (g i)) (λ i. spec.same_bit (spec.bits_of x i) (spec.bits_of y i))
      (λ i less. ap (λ p. spec.same_bit p (g i)) (first_same i less) ∙ ap (spec.same_bit (spec.bits_of x i)) (second_same i less))

  pub same_words : are_same (length (row_of table ids.left)) f g ≡ spec.have_same_bits x y
  same_words = same_is ∙ sym (ap (λ b. b && are_same (bits (width_of x)) (spec.bits_of x) (spec.bits_of y)) words)

  -- the pairs are those of the words
  pub pairs_are : unequal_pairs (length (row_of table ids.left)) f g ≡ spec.pairs_of (sides_in trees ids)
  unfolding unequal_pairs
  pairs_are = ap (λ n. unequal_pairs n f g) long ∙ pairs_same (bits (width_of x)) (spec.bits_of x) (spec.bits_of y) first_same second_same
    where
      pairs_same : (count : ℕ) (h k : spec.Bits) → SameBelow count f h → SameBelow count g k → unequal_pairs count f g ≡ unequal_pairs count h k
      pairs_same zero h k same_f same_g = refl
      pairs_same (suc i) h k same_f same_g =
          let last_f = same_f i (omega arith) in
          let last_g = same_g i (omega arith) in
          let rest = pairs_same i h k (λ j less. same_f j (omega (arith, less))) (λ j less. same_g j (omega (arith, less))) in
          cc

  -- what they decide
  pub decided_is : cond (are_same (length (row_of table ids.left)) f g) (Some (atom.Truth true)) (cond (differ (length (row_of table ids.left)) f g) (Some (atom.Truth false)) None)
      ≡ spec.decided_by_pairs (Some (sides_in trees ids))
  decided_is =
      ap (λ b. cond b (Some (atom.Truth true)) (cond (differ (length (row_of table ids.left)) f g) (Some (atom.Truth false)) None))
      (sym (none_is (length (row_of table ids.left)) f g) ∙ ap has_none pairs_are)
      ∙ ap (λ b. cond (has_none (spec.pairs_of (sides_in trees ids))) (Some (atom.Truth true)) (cond b (Some (atom.Truth false)) None))
      (sym (differ_is (length (row_of table ids.left)) f g) ∙ ap has_opposite pairs_are)

  -- by the rows themselves
  module _ (a b : List Bit) (first : a ≡ row_of table ids.left) (second : b ≡ row_of table ids.right) where
    abbrev same_now : Bool
    same_now = are_same (length a) (bits_in trees a) (bits_in trees b)

    abbrev differ_now : Bool
    differ_now = differ (length a) (bits_in trees a) (bits_in trees b)

    same_by_rows : same_now ≡ are_same (length (row_of table ids.left)) f g
    same_by_rows = ap (λ l. are_same (length l) (bits_in trees l) (bits_in trees b)) first ∙ ap (λ l. are_same (length (row_of table ids.left)) f (bits_in trees l)) second

    differ_by_rows : differ_now ≡ differ (length (row_of table ids.left)) f g
    differ_by_rows = ap (λ l. differ (length l) (bits_in trees l) (bits_in trees b)) first ∙ ap (λ l. differ (length (row_of table ids.left)) f (bits_in trees l)) second

    pub same_words_by : same_now ≡ spec.have_same_bits x y
    same_words_by = same_by_rows ∙ same_words

    abbrev decision : Bool → Bool → Option Atom
    decision p q = cond p (Some (atom.Truth true)) (cond q (Some (atom.Truth false)) None)

    decision_is : decision same_now differ_now ≡ spec.decided_by_pairs (Some (sides_in trees ids))
    decision_is = ap (λ p. decision p differ_now) same_by_rows ∙ ap (λ q. decision (are_same (length (row_of table ids.left)) f g) q) differ_by_rows ∙ decided_is

    pub decided_true : same_now ≡ true → Some (atom.Truth true) ≡ spec.decided_by_pairs (Some (sides_in trees ids))
    decided_true e = ap (λ p. decision p differ_now) (sym e) ∙ decision_is

    pub decided_false : same_now ≡ false → differ_now ≡ true → Some (atom.Truth false) ≡ spec.decided_by_pairs (Some (sides_in trees ids))
    decided_false e h = ap (decision false) (sym h) ∙ ap (λ p. decision p differ_now) (sym e) ∙ decision_is

    pub undecided : same_now ≡ false → differ_now ≡ false → None ≡ spec.decided_by_pairs (Some (sides_in trees ids))
    undecided e h = ap (decision false) (sym h) ∙ ap (λ p. decision p differ_now) (sym e) ∙ decision_is

-- two `eq` of the same pairs
module _ (trees : List Term) (table : Rows) (some others : Sides) (have : HaveBits trees table some) (have_others : HaveBits trees table others)
    (words : are_words (tree_at trees some.left) (tree_at trees some.right) ≡ true) (words_others : are_words (tree_at trees others.left) (tree_at trees others.right) ≡ true) where
  same_pairs : have_same trees (row_of table some.left) (row_of table some.right) (row_of table others.left) (row_of table others.right)
      ≡ spec.have_same_pairs (sides_in trees some) (sides_in trees others)
  same_pairs =
      let f = bits_in trees (row_of table some.left) in
      let g = bits_in trees (row_of table some.right) in
      let h = bits_in trees (row_of table others.left) in
      let k = bits_in trees (row_of table others.right) in
      let n = length (row_of table some.left) in
      let m = length (row_of table others.left) in
      let first = pairs_are trees table some have words in
      let second = pairs_are trees table others have_others words_others in
      ap (λ b. b && have_pairs m h k n f g) (sym (have_pairs_is n f g m h k) ∙ ap (λ l. are_among l (unequal_pairs m h k)) first ∙ ap (are_among (spec.pairs_of (sides_in trees some))) second)
      ∙ ap (λ b. are_among (spec.pairs_of (sides_in trees some)) (spec.pairs_of (sides_in trees others)) && b)
      (sym (have_pairs_is m h k n f g) ∙ ap (λ l. are_among l (unequal_pairs n f g)) second ∙ ap (are_among (spec.pairs_of (sides_in trees others))) first)

  pub same_pairs_by : (a b c d : List Bit) → a ≡ row_of table some.left → b ≡ row_of table some.right → c ≡ row_of table others.left → d ≡ row_of table others.right
      → have_same trees a b c d ≡ spec.have_same_pairs (sides_in trees some) (sides_in trees others)
  same_pairs_by a b c d is_a is_b is_c is_d =
      ap (λ l. have_same trees l b c d) is_a ∙ ap (λ l. have_same trees (row_of table some.left) l c d) is_b
      ∙ ap (λ l. have_same trees (row_of table some.left) (row_of table some.right) l d) is_c
      ∙ ap (have_same trees (row_of table some.left) (row_of table some.right) (row_of table others.left)) is_d ∙ same_pairs

-- ---- the rule, by what is known of its terms

pub not_words : (x y : Term) → are_words x y ≡ false → false ≡ spec.have_same_bits x y
not_words x y e = sym (ap (λ b. b && are_same (bits (width_of x)) (spec.bits_of x) (spec.bits_of y)) e)

pub by_first : (x y : Term) (s : sides.Sides) → sides.sides_of x ≡ Some s → spec.same_bits_by (Some s) (sides.sides_of y) x y ≡ spec.same_by_bits x y
unfolding same_by_bits
by_first x y s e = sym (ap (λ o. spec.same_bits_by o (sides.sides_of y) x y) e)

pub by_words : (x y : Term) → sides.sides_of x ≡ None → spec.have_same_bits x y ≡ spec.same_by_bits x y
unfolding same_by_bits
by_words x y e = sym (ap (λ o. spec.same_bits_by o (sides.sides_of y) x y) e)

pub by_sides : (x : Term) (o : Option sides.Sides) → sides.sides_of x ≡ o → spec.decided_by_pairs o ≡ spec.decided_by_bits x
unfolding decided_by_bits
by_sides x o e = sym (ap spec.decided_by_pairs e)
