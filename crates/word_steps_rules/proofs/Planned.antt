-- The plan of a node gives the bits of its term, where its arguments have rows.
use Rattle.std.proofs.Common.{◌≡◌, ℕ, ◌+◌, ◌*◌, ◌<◌, Bool, true, false, cond, List, [], ◌∷◌, length, map, Some, refl, sym, ap, ◌∙◌, subst, arith}
use Rattle.std.specs.Prelude.{◌&&◌, nat_lt}
use Rattle.std.proofs.lemmas.Bool.{and_parts, leb-true, ltb-true}
use Rattle.term_core_spec.specs.declared.Width.{Width}
use Rattle.term_core_spec.specs.declared.Width.TheVariants.{W8, W16, W32, W64}
use Rattle.term_core_spec.specs.declared.Sort.{Sort}
use Rattle.term_core_spec.specs.declared.Sort.TheVariants as sort
use Rattle.term_core_spec.specs.declared.Atom.{Atom}
use Rattle.term_core_spec.specs.declared.Atom.TheVariants as atom
use Rattle.term_core_spec.specs.declared.UnaryOperator.{UnaryOperator}
use Rattle.term_core_spec.specs.declared.UnaryOperator.TheVariants as unary
use Rattle.term_core_spec.specs.declared.WordOperator.{WordOperator}
use Rattle.term_core_spec.specs.declared.WordOperator.TheVariants as word
use Rattle.term_core_spec.specs.declared.BinaryOperator.{BinaryOperator}
use Rattle.term_core_spec.specs.declared.BinaryOperator.TheVariants as binary
use Rattle.term_core_spec.specs.declared.TernaryOperator.{TernaryOperator}
use Rattle.term_core_spec.specs.declared.TernaryOperator.TheVariants as ternary
use Rattle.term_core_spec.specs.declared.QuaternaryOperator.{QuaternaryOperator}
use Rattle.term_core_spec.specs.declared.QuaternaryOperator.TheVariants as quaternary
use Rattle.term_core_spec.specs.Term.{Term, Leaf, Unary, Binary, Ternary, Quaternary, Octonary, choose, byte, on_words}
use Rattle.term_core_spec.specs.Sort.{bits, bits_of as bits_of_sort, is_word, is_truth, same_sort, sort_of, sort_of_unary, sort_of_ternary}
use Rattle.term_core_spec.proofs.Sorts.{sort_if-some, with_one-some, with_three-some, same_sort-true, word_width}
use Rattle.term_norm_spec.specs.Patterns.{width_of, width_of_sort, is_constant, number_of}
use Rattle.term_norm_spec.proofs.Cuts.{zero_extend_of, sign_extend_of, low_of, IsJoin, join_two_is, join_four_is, join_eight_is}
use Rattle.term_norm_spec.proofs.Keeps.{width_is}
use Rattle.term_norm_spec.proofs.Words.{words_of}
use Rattle.term_bank.specs.declared.node.TermNode.{TermNode}
use Rattle.term_bank.specs.declared.node.TermNode.TheVariants as node
use Rattle.term_bank.specs.Nodes.{tree_at, build}
use Rattle.term_bank.specs.Subterms.{arguments_of}
use Rattle.word_steps_spec.specs.Bitwise as spec
use Rattle.word_steps_spec.specs.Bitwise.{are_apart, and_bit, or_bit, xor_bit, choose_bit, moved_up, moved_down, moved_with_sign, joined_bits, bits_of_operation, bits_of_unary, bits_of}
use Rattle.word_steps_rules.specs.declared.bit.Bit.{Bit}
use Rattle.word_steps_rules.specs.declared.plan.Shift.{Shift}
use Rattle.word_steps_rules.specs.declared.plan.Shift.TheVariants.{Up, Down, DownSigned}
use Rattle.word_steps_rules.specs.declared.plan.Gate.TheVariants.{Or, Choose}
use Rattle.word_steps_rules.specs.declared.plan.Bytes.{Bytes}
use Rattle.word_steps_rules.specs.declared.plan.Bytes.TheVariants.{Two, Eight}
use Rattle.word_steps_rules.specs.declared.plan.Plan.TheVariants.{Own, Both, Shifted, Joined}
use Rattle.word_steps_rules.specs.Bits.{bit_in, bits_in, IsRow, row_in, index_among, shifted_bit, bytes_of, gate_bit, planned, IsPlan}
use Rattle.word_steps_rules.specs.Plans.{atom_plan, unary_plan, operation_plan, binary_plan, ternary_plan, quaternary_plan, four, node_plan, HaveRows}
use Rattle.word_steps_rules.proofs.Shifts.{SameBelow, apart_same, up_row, down_row, signed_row, inside_row, row_long, row_same, joined_is, AreRowsOf, bytes_same}

module _ (trees : List Term) (rows : List (List Bit)) where
  -- ---- variables and constants

  atom_planned : (leaf : Atom) → IsPlan trees rows (Leaf leaf) (atom_plan leaf)
  unfolding planned bits_of
  atom_planned (atom.Constant width number) w h i less = refl
  atom_planned (atom.Truth value) w h i less = refl
  atom_planned (atom.Open variable) w h i less = refl

  -- ---- operators on one word

  -- the byte is one that the word has
  record IsByte (place : ℕ) (x : Term) (s : Sort) : Type 0 where
    width : Width
    sorted : sort_of x ≡ Some (sort.Word width)
    within : 8 * place < bits width
    gives : s ≡ sort.Word W8

  byte_within : (place : ℕ) (x : Term) (s : Sort) → sort_of (byte place x) ≡ Some s → IsByte place x s
  unfolding sort_of sort_of_unary
  byte_within place x s h =
      let parts = with_one-some (sort_of_unary (unary.Byte place)) (sort_of x) s h in
      let tests = sort_if-some (is_word parts.0 && nat_lt (8 * place) (bits_of_sort parts.0)) (sort.Word W8) s parts.2 in
      let both = and_parts (is_word parts.0) (nat_lt (8 * place) (bits_of_sort parts.0)) tests.0 in
      let width = word_width parts.0 both.0 in
      let test : nat_lt (8 * place) (bits width.0) ≡ true = subst (λ p. nat_lt (8 * place) (bits_of_sort p) ≡ true) width.1 both.1 in
      record { width = width.0; sorted = parts.1 ∙ ap Some width.1; within = ltb-true (8 * place) (bits width.0) test; gives = sym tests.1 }

  whole_byte : (place i : ℕ) (w : Width) → 8 * place < bits w → i < 8 → 8 * place + i < bits w
  whole_byte place i W8 less l = omega arith
  whole_byte place i W16 less l = omega arith
  whole_byte place i W32 less l = omega arith
  whole_byte place i W64 less l = omega arith

  unary_planned : (o : UnaryOperator) (x : Term) (k : ℕ) → IsRow trees x (row_in rows k) → IsPlan trees rows (Unary o x) (unary_plan o k)
  unfolding planned bits_of bits_of_unary
  unary_planned (unary.ZeroExtend to) x k is w h i less =
      let r = zero_extend_of to x (sort.Word w) h in
      down_row trees r.0.from x (row_in rows k) r.0.sorted is 0 i
  unary_planned (unary.SignExtend to) x k is w h i less =
      let r = sign_extend_of to x (sort.Word w) h in
      signed_row trees r.0.from x (row_in rows k) r.0.sorted is 0 i
  unary_planned (unary.Low to) x k is w h i less =
      let r = low_of to x (sort.Word w) h in
      let narrower = leb-true (bits to) (bits r.0.from) r.1 in
      let here : i < bits to = subst (λ v. i < bits v) (ap width_of_sort r.0.gives) less in
      let width = width_is x r.0.from r.0.sorted in
      let none : 0 + i ≡ i = omega arith in
      inside_row trees r.0.from x (row_in rows k) r.0.sorted is 0 i (subst (λ v. 0 + i < bits v) (sym width) (omega (arith, here, narrower))) ∙ ap (bits_of x) none
  unary_planned (unary.Byte place) x k is w h i less =
      let r = byte_within place x (sort.Word w) h in
      let here : i < 8 = subst (λ v. i < bits v) (ap width_of_sort r.gives) less in
      let width = width_is x r.width r.sorted in
      inside_row trees r.width x (row_in rows k) r.sorted is (8 * place) i (subst (λ v. 8 * place + i < bits v) (sym width) (whole_byte place i r.width r.within here))
  unary_planned unary.Not x k is w h i less = refl
  unary_planned unary.Complement x k is w h i less = refl

  -- ---- operations on two words

  -- the bits of both at one place
  both_same : (u : Width) (x y : Term) (j k : ℕ) → sort_of x ≡ Some (sort.Word u) → sort_of y ≡ Some (sort.Word u) → IsRow trees x (row_in rows j) → IsRow trees y (row_in rows k)
      → (f : spec.Bit → spec.Bit → spec.Bit) (i : ℕ) → i < bits u → f (bits_in trees (row_in rows j) i) (bits_in trees (row_in rows k) i) ≡ f (bits_of x i) (bits_of y i)
  both_same u x y j k hx hy is_x is_y f i less =
      ap (λ p. f p (bits_in trees (row_in rows k) i)) (is_x.each u hx i less) ∙ ap (f (bits_of x i)) (is_y.each u hy i less)

  sum_by : (test : Bool) (t : Term) (j k i : ℕ) → planned trees rows t (cond test (Both Or j k) Own) i
      ≡ cond test (or_bit (bits_in trees (row_in rows j) i) (bits_in trees (row_in rows k) i) (spec.Of t i)) (spec.Of t i)
  unfolding planned gate_bit
  sum_by true t j k i = refl
  sum_by false t j k i = refl

  shift_by : (test : Bool) (t : Term) (shift : Shift) (j n i : ℕ) → planned trees rows t (cond test (Shifted shift j n) Own) i
      ≡ cond test (bit_in trees (shifted_bit shift (row_in rows j) n i)) (spec.Of t i)
  unfolding planned
  shift_by true t shift j n i = refl
  shift_by false t shift j n i = refl

  operation_planned : (o : WordOperator) (x y : Term) (j k : ℕ) → IsRow trees x (row_in rows j) → IsRow trees y (row_in rows k)
      → IsPlan trees rows (on_words o x y) (operation_plan trees rows o j k y)
  unfolding planned bits_of bits_of_operation operation_plan gate_bit
  operation_planned word.And x y j k is_x is_y w h i less =
      let r = words_of word.And x y (sort.Word w) h in
      let here : i < bits r.0 = subst (λ v. i < bits v) (ap width_of_sort r.1) less in
      both_same r.0 x y j k r.2 r.3 is_x is_y (λ p q. and_bit p q (spec.Of (on_words word.And x y) i)) i here
  operation_planned word.Or x y j k is_x is_y w h i less =
      let r = words_of word.Or x y (sort.Word w) h in
      let here : i < bits r.0 = subst (λ v. i < bits v) (ap width_of_sort r.1) less in
      both_same r.0 x y j k r.2 r.3 is_x is_y (λ p q. or_bit p q (spec.Of (on_words word.Or x y) i)) i here
  operation_planned word.Xor x y j k is_x is_y w h i less =
      let r = words_of word.Xor x y (sort.Word w) h in
      let here : i < bits r.0 = subst (λ v. i < bits v) (ap width_of_sort r.1) less in
      both_same r.0 x y j k r.2 r.3 is_x is_y (λ p q. xor_bit p q (spec.Of (on_words word.Xor x y) i)) i here
  operation_planned word.Add x y j k is_x is_y w h i less =
      let r = words_of word.Add x y (sort.Word w) h in
      let t = on_words word.Add x y in
      let f = bits_in trees (row_in rows j) in
      let g = bits_in trees (row_in rows k) in
      let here : i < bits r.0 = subst (λ v. i < bits v) (ap width_of_sort r.1) less in
      let same_y : SameBelow (bits (width_of x)) g (bits_of y) = λ a l. is_y.each r.0 r.3 a (subst (λ v. a < bits v) (width_is x r.0 r.2) l) in
      let test : are_apart (length (row_in rows j)) f g ≡ are_apart (bits (width_of x)) (bits_of x) (bits_of y) =
      ap (λ n. are_apart n f g) (row_long trees r.0 x (row_in rows j) r.2 is_x)
      ∙ apart_same (bits (width_of x)) f g (bits_of x) (bits_of y) (row_same trees r.0 x (row_in rows j) r.2 is_x) same_y in
      sum_by (are_apart (length (row_in rows j)) f g) t j k i ∙ ap (λ b. cond b (or_bit (f i) (g i) (spec.Of t i)) (spec.Of t i)) test
      ∙ ap (λ p. cond (are_apart (bits (width_of x)) (bits_of x) (bits_of y)) p (spec.Of t i))
      (both_same r.0 x y j k r.2 r.3 is_x is_y (λ p q. or_bit p q (spec.Of t i)) i here)
  operation_planned word.ShiftLeft x y j k is_x is_y w h i less =
      let r = words_of word.ShiftLeft x y (sort.Word w) h in
      let t = on_words word.ShiftLeft x y in
      let here : i < bits (width_of x) = subst (λ v. i < bits v) (ap width_of_sort r.1 ∙ sym (width_is x r.0 r.2)) less in
      shift_by (is_constant y) t Up j (number_of y) i ∙ ap (λ p. cond (is_constant y) p (spec.Of t i)) (up_row trees r.0 x (row_in rows j) r.2 is_x (number_of y) i here)
  operation_planned word.ShiftRight x y j k is_x is_y w h i less =
      let r = words_of word.ShiftRight x y (sort.Word w) h in
      let t = on_words word.ShiftRight x y in
      shift_by (is_constant y) t Down j (number_of y) i ∙ ap (λ p. cond (is_constant y) p (spec.Of t i)) (down_row trees r.0 x (row_in rows j) r.2 is_x (number_of y) i)
  operation_planned word.ShiftRightSigned x y j k is_x is_y w h i less =
      let r = words_of word.ShiftRightSigned x y (sort.Word w) h in
      let t = on_words word.ShiftRightSigned x y in
      shift_by (is_constant y) t DownSigned j (number_of y) i ∙ ap (λ p. cond (is_constant y) p (spec.Of t i)) (signed_row trees r.0 x (row_in rows j) r.2 is_x (number_of y) i)
  operation_planned word.Multiply x y j k is_x is_y w h i less = refl
  operation_planned word.Subtract x y j k is_x is_y w h i less = refl
  operation_planned word.Divide x y j k is_x is_y w h i less = refl
  operation_planned word.Remainder x y j k is_x is_y w h i less = refl

  -- ---- joins and `ite`

  join_planned : (w : Width) (parts : List Term) (t : Term) (bytes : Bytes) → IsJoin [] w parts t → AreRowsOf trees rows parts (bytes_of bytes)
      → (i : ℕ) → i < bits w → planned trees rows t (Joined bytes) i ≡ joined_bits (map bits_of parts) i
  unfolding planned
  join_planned w parts t bytes join are i less =
      joined_is trees rows (bytes_of bytes) i ∙ bytes_same trees rows parts (bytes_of bytes) join.bytes are i (subst (λ n. i < n) join.full less)

  -- both may be chosen
  record IsChoice (w : Width) (x y : Term) : Type 0 where
    first : sort_of x ≡ Some (sort.Word w)
    second : sort_of y ≡ Some (sort.Word w)

  choice_of : (w : Width) (c x y : Term) → sort_of (choose c x y) ≡ Some (sort.Word w) → IsChoice w x y
  unfolding sort_of sort_of_ternary
  choice_of w c x y h =
      let parts = with_three-some (sort_of_ternary ternary.Choose) (sort_of c) (sort_of x) (sort_of y) (sort.Word w) h in
      let tests = sort_if-some (is_truth parts.0 && same_sort parts.1 parts.2) parts.1 (sort.Word w) parts.6 in
      let both = and_parts (is_truth parts.0) (same_sort parts.1 parts.2) tests.0 in
      record { first = parts.4 ∙ ap Some tests.1; second = parts.5 ∙ ap Some (sym (same_sort-true parts.1 parts.2 both.1) ∙ tests.1) }

  choice_planned : (c x y : Term) (j k : ℕ) → IsRow trees x (row_in rows j) → IsRow trees y (row_in rows k) → IsPlan trees rows (choose c x y) (Both Choose j k)
  unfolding planned bits_of gate_bit
  choice_planned c x y j k is_x is_y w h i less =
      let r = choice_of w c x y h in
      both_same w x y j k r.first r.second is_x is_y (λ p q. choose_bit p q (spec.Of (choose c x y) i)) i less

  -- ---- nodes

  module _ (ids : List ℕ) where
    binary_planned : (o : BinaryOperator) (a b : ℕ) → HaveRows trees ids rows (a ∷ b ∷ []) → IsPlan trees rows (Binary o (tree_at trees a) (tree_at trees b)) (binary_plan trees ids rows o a b)
    unfolding planned bits_of
    binary_planned (binary.Word operator) a b have w h i less =
        operation_planned operator (tree_at trees a) (tree_at trees b) (index_among ids a) (index_among ids b) have.0 have.1.0 w h i less
    binary_planned binary.Join a b have w h i less =
        let join = join_two_is [] (tree_at trees a) (tree_at trees b) (sort.Word w) h in
        join_planned W16 (tree_at trees a ∷ tree_at trees b ∷ []) (Binary binary.Join (tree_at trees a) (tree_at trees b)) (Two (index_among ids a) (index_among ids b)) join.1 have i
        (subst (λ v. i < bits v) (ap width_of_sort join.0) less)
    binary_planned binary.And a b have w h i less = refl
    binary_planned binary.Or a b have w h i less = refl
    binary_planned binary.Equal a b have w h i less = refl
    binary_planned binary.Less a b have w h i less = refl
    binary_planned binary.Load a b have w h i less = refl

    ternary_planned : (o : TernaryOperator) (a b c : ℕ) → HaveRows trees ids rows (a ∷ b ∷ c ∷ [])
        → IsPlan trees rows (Ternary o (tree_at trees a) (tree_at trees b) (tree_at trees c)) (ternary_plan o (index_among ids b) (index_among ids c))
    unfolding planned bits_of
    ternary_planned ternary.Choose a b c have w h i less =
        choice_planned (tree_at trees a) (tree_at trees b) (tree_at trees c) (index_among ids b) (index_among ids c) have.1.0 have.1.1.0 w h i less
    ternary_planned ternary.Store a b c have w h i less = refl

    quaternary_planned : (o : QuaternaryOperator) (a b c d : ℕ) → HaveRows trees ids rows (a ∷ b ∷ c ∷ d ∷ [])
        → IsPlan trees rows (Quaternary o (tree_at trees a) (tree_at trees b) (tree_at trees c) (tree_at trees d)) (quaternary_plan o (four ids a b c d))
    unfolding planned bits_of
    quaternary_planned quaternary.Join a b c d have w h i less =
        let join = join_four_is [] (tree_at trees a) (tree_at trees b) (tree_at trees c) (tree_at trees d) (sort.Word w) h in
        join_planned W32 (tree_at trees a ∷ tree_at trees b ∷ tree_at trees c ∷ tree_at trees d ∷ [])
        (Quaternary quaternary.Join (tree_at trees a) (tree_at trees b) (tree_at trees c) (tree_at trees d)) (four ids a b c d) join.1 have i
        (subst (λ v. i < bits v) (ap width_of_sort join.0) less)
    quaternary_planned quaternary.Over a b c d have w h i less = refl

    pub node_planned : (n : TermNode) → HaveRows trees ids rows (arguments_of n) → IsPlan trees rows (build trees n) (node_plan trees ids rows n)
    unfolding bits_of
    node_planned (node.Leaf leaf) have = atom_planned leaf
    node_planned (node.Unary operator a) have = unary_planned operator (tree_at trees a) (index_among ids a) have.0
    node_planned (node.Binary operator a b) have = binary_planned operator a b have
    node_planned (node.Ternary operator a b c) have = ternary_planned operator a b c have
    node_planned (node.Quaternary operator a b c d) have = quaternary_planned operator a b c d have
    node_planned (node.Octonary a b c d e f g j) have = λ w h i less.
        let join = join_eight_is [] (tree_at trees a) (tree_at trees b) (tree_at trees c) (tree_at trees d) (tree_at trees e) (tree_at trees f) (tree_at trees g) (tree_at trees j) (sort.Word w) h in
        join_planned W64
        (tree_at trees a ∷ tree_at trees b ∷ tree_at trees c ∷ tree_at trees d ∷ tree_at trees e ∷ tree_at trees f ∷ tree_at trees g ∷ tree_at trees j ∷ [])
        (Octonary (tree_at trees a) (tree_at trees b) (tree_at trees c) (tree_at trees d) (tree_at trees e) (tree_at trees f) (tree_at trees g) (tree_at trees j))
        (Eight (index_among ids a) (index_among ids b) (index_among ids c) (index_among ids d) (index_among ids e) (index_among ids f) (index_among ids g) (index_among ids j)) join.1 have i
        (subst (λ v. i < bits v) (ap width_of_sort join.0) less)
