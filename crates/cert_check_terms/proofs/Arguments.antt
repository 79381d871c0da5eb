-- Operators around as many arguments as were taken.
use Rattle.std.proofs.Common.{◌≡◌, ◌≢◌, ◌∙◌, ◌+◌, true, false, if◌then◌else◌, Bool, List, [], ◌∷◌, length, get_or, Option, Some, None, refl, sym, ap, arith}
use Rattle.std.specs.Prelude.{option_and_then}
use Rattle.term_core_spec.specs.declared.Sort.{Sort}
use Rattle.term_core_spec.specs.declared.Sort.TheVariants.{Truth, Word}
use Rattle.term_core_spec.specs.declared.Width.TheVariants.{W64}
use Rattle.term_core_spec.specs.declared.UnaryOperator.{UnaryOperator}
use Rattle.term_core_spec.specs.declared.BinaryOperator.{BinaryOperator}
use Rattle.term_core_spec.specs.declared.TernaryOperator.TheVariants.{Choose}
use Rattle.term_core_spec.specs.declared.QuaternaryOperator.TheVariants.{Join}
use Rattle.term_core_spec.specs.Term.{Term, Unary, Binary, Ternary, Quaternary, Octonary}
use Rattle.term_core_spec.specs.Sort.{sort_if, all_bytes, sort_of_unary, sort_of_binary, sort_of_ternary, sort_of_quaternary}
use Rattle.term_bank.specs.Nodes.{tree_at}
use Rattle.cert_text_spec.specs.declared.Operator.{Operator}
use Rattle.cert_check_terms.specs.Operators.{unary_of, binary_of, is_choose, is_join}
use Rattle.cert_check_terms.specs.Reading.{Sorted, sorted, one, two, three, four, eight, around}
use Rattle.cert_check_terms.specs.declared.reading.Subterm.{Subterm}
use Rattle.cert_check_terms.specs.Views.{subterm_of, taken, arguments_of}

nowhere : Subterm
nowhere = record { id = 0; sort = Truth }

module _ (trees : List Term) where
  one_item : (xs : List Subterm) (d : Subterm) → length xs ≡ 1 → arguments_of trees xs ≡ subterm_of trees (get_or xs 0 d) ∷ []
  unfolding taken
  one_item (a ∷ []) d e = refl
  one_item [] d e = absurd (omega (arith, e))
  one_item (a ∷ b ∷ xs) d e = absurd (omega (arith, e))

  two_items : (xs : List Subterm) (d : Subterm) → length xs ≡ 2 → arguments_of trees xs ≡ subterm_of trees (get_or xs 1 d) ∷ subterm_of trees (get_or xs 0 d) ∷ []
  unfolding taken
  two_items (a ∷ b ∷ []) d e = refl
  two_items [] d e = absurd (omega (arith, e))
  two_items (a ∷ []) d e = absurd (omega (arith, e))
  two_items (a ∷ b ∷ c ∷ xs) d e = absurd (omega (arith, e))

  three_items : (xs : List Subterm) (d : Subterm) → length xs ≡ 3
      → arguments_of trees xs ≡ subterm_of trees (get_or xs 2 d) ∷ subterm_of trees (get_or xs 1 d) ∷ subterm_of trees (get_or xs 0 d) ∷ []
  unfolding taken
  three_items (a ∷ b ∷ c ∷ []) d e = refl
  three_items [] d e = absurd (omega (arith, e))
  three_items (a ∷ []) d e = absurd (omega (arith, e))
  three_items (a ∷ b ∷ []) d e = absurd (omega (arith, e))
  three_items (a ∷ b ∷ c ∷ f ∷ xs) d e = absurd (omega (arith, e))

  four_items : (xs : List Subterm) (d : Subterm) → length xs ≡ 4
      → arguments_of trees xs ≡ subterm_of trees (get_or xs 3 d) ∷ subterm_of trees (get_or xs 2 d) ∷ subterm_of trees (get_or xs 1 d) ∷ subterm_of trees (get_or xs 0 d) ∷ []
  unfolding taken
  four_items (a ∷ b ∷ c ∷ f ∷ []) d e = refl
  four_items [] d e = absurd (omega (arith, e))
  four_items (a ∷ []) d e = absurd (omega (arith, e))
  four_items (a ∷ b ∷ []) d e = absurd (omega (arith, e))
  four_items (a ∷ b ∷ c ∷ []) d e = absurd (omega (arith, e))
  four_items (a ∷ b ∷ c ∷ f ∷ g ∷ xs) d e = absurd (omega (arith, e))

  eight_items : (xs : List Subterm) (d : Subterm) → length xs ≡ 8
      → arguments_of trees xs
      ≡ subterm_of trees (get_or xs 7 d) ∷ subterm_of trees (get_or xs 6 d) ∷ subterm_of trees (get_or xs 5 d) ∷ subterm_of trees (get_or xs 4 d)
      ∷ subterm_of trees (get_or xs 3 d) ∷ subterm_of trees (get_or xs 2 d) ∷ subterm_of trees (get_or xs 1 d) ∷ subterm_of trees (get_or xs 0 d) ∷ []
  unfolding taken
  eight_items (x1 ∷ x2 ∷ x3 ∷ x4 ∷ x5 ∷ x6 ∷ x7 ∷ x8 ∷ []) d e = refl
  eight_items [] d e = absurd (omega (arith, e))
  eight_items (x1 ∷ []) d e = absurd (omega (arith, e))
  eight_items (x1 ∷ x2 ∷ []) d e = absurd (omega (arith, e))
  eight_items (x1 ∷ x2 ∷ x3 ∷ []) d e = absurd (omega (arith, e))
  eight_items (x1 ∷ x2 ∷ x3 ∷ x4 ∷ []) d e = absurd (omega (arith, e))
  eight_items (x1 ∷ x2 ∷ x3 ∷ x4 ∷ x5 ∷ []) d e = absurd (omega (arith, e))
  eight_items (x1 ∷ x2 ∷ x3 ∷ x4 ∷ x5 ∷ x6 ∷ []) d e = absurd (omega (arith, e))
  eight_items (x1 ∷ x2 ∷ x3 ∷ x4 ∷ x5 ∷ x6 ∷ x7 ∷ []) d e = absurd (omega (arith, e))
  eight_items (x1 ∷ x2 ∷ x3 ∷ x4 ∷ x5 ∷ x6 ∷ x7 ∷ x8 ∷ x9 ∷ xs) d e = absurd (omega (arith, e))

  -- ---- each number of arguments

  pub around_one : (o : Operator) (xs : List Subterm) (d : Subterm) (u : UnaryOperator) (t : Option Sort) → length xs ≡ 1 → unary_of o ≡ Some u
      → t ≡ sort_of_unary u (get_or xs 0 d).sort → around o (arguments_of trees xs) ≡ sorted (Unary u (tree_at trees (get_or xs 0 d).id)) t
  around_one o xs d u t count is sort =
      ap (around o) (one_item xs d count)
      ∙ (ap (option_and_then (one (subterm_of trees (get_or xs 0 d)))) is ∙ ap (sorted (Unary u (tree_at trees (get_or xs 0 d).id))) (sym sort))

  pub no_one : (o : Operator) (xs : List Subterm) → length xs ≡ 1 → unary_of o ≡ None → around o (arguments_of trees xs) ≡ None
  no_one o xs count is = ap (around o) (one_item xs nowhere count) ∙ ap (option_and_then (one (subterm_of trees (get_or xs 0 nowhere)))) is

  pub around_two : (o : Operator) (xs : List Subterm) (d : Subterm) (u : BinaryOperator) (t : Option Sort) → length xs ≡ 2 → binary_of o ≡ Some u
      → t ≡ sort_of_binary u (get_or xs 1 d).sort (get_or xs 0 d).sort
      → around o (arguments_of trees xs) ≡ sorted (Binary u (tree_at trees (get_or xs 1 d).id) (tree_at trees (get_or xs 0 d).id)) t
  around_two o xs d u t count is sort =
      ap (around o) (two_items xs d count)
      ∙ (ap (option_and_then (two (subterm_of trees (get_or xs 1 d)) (subterm_of trees (get_or xs 0 d)))) is
      ∙ ap (sorted (Binary u (tree_at trees (get_or xs 1 d).id) (tree_at trees (get_or xs 0 d).id))) (sym sort))

  pub no_two : (o : Operator) (xs : List Subterm) → length xs ≡ 2 → binary_of o ≡ None → around o (arguments_of trees xs) ≡ None
  no_two o xs count is = ap (around o) (two_items xs nowhere count) ∙ ap (option_and_then (two (subterm_of trees (get_or xs 1 nowhere)) (subterm_of trees (get_or xs 0 nowhere)))) is

  pub around_three : (o : Operator) (xs : List Subterm) (d : Subterm) (t : Option Sort) → length xs ≡ 3 → is_choose o ≡ true
      → t ≡ sort_of_ternary Choose (get_or xs 2 d).sort (get_or xs 1 d).sort (get_or xs 0 d).sort
      → around o (arguments_of trees xs)
      ≡ sorted (Ternary Choose (tree_at trees (get_or xs 2 d).id) (tree_at trees (get_or xs 1 d).id) (tree_at trees (get_or xs 0 d).id)) t
  around_three o xs d t count is sort =
      let a = subterm_of trees (get_or xs 2 d) in
      let b = subterm_of trees (get_or xs 1 d) in
      let c = subterm_of trees (get_or xs 0 d) in
      ap (around o) (three_items xs d count)
      ∙ (ap (λ (v : Bool). if v then three a b c else None) is ∙ ap (sorted (Ternary Choose a.term b.term c.term)) (sym sort))

  pub no_three : (o : Operator) (xs : List Subterm) → length xs ≡ 3 → is_choose o ≡ false → around o (arguments_of trees xs) ≡ None
  no_three o xs count is =
      ap (around o) (three_items xs nowhere count)
      ∙ ap (λ (v : Bool). if v then three (subterm_of trees (get_or xs 2 nowhere)) (subterm_of trees (get_or xs 1 nowhere)) (subterm_of trees (get_or xs 0 nowhere)) else None) is

  pub around_four : (o : Operator) (xs : List Subterm) (d : Subterm) (t : Option Sort) → length xs ≡ 4 → is_join o ≡ true
      → t ≡ sort_of_quaternary Join (get_or xs 3 d).sort (get_or xs 2 d).sort (get_or xs 1 d).sort (get_or xs 0 d).sort
      → around o (arguments_of trees xs)
      ≡ sorted (Quaternary Join (tree_at trees (get_or xs 3 d).id) (tree_at trees (get_or xs 2 d).id) (tree_at trees (get_or xs 1 d).id) (tree_at trees (get_or xs 0 d).id)) t
  around_four o xs d t count is sort =
      let a = subterm_of trees (get_or xs 3 d) in
      let b = subterm_of trees (get_or xs 2 d) in
      let c = subterm_of trees (get_or xs 1 d) in
      let f = subterm_of trees (get_or xs 0 d) in
      ap (around o) (four_items xs d count)
      ∙ (ap (λ (v : Bool). if v then four a b c f else None) is ∙ ap (sorted (Quaternary Join a.term b.term c.term f.term)) (sym sort))

  pub no_four : (o : Operator) (xs : List Subterm) → length xs ≡ 4 → is_join o ≡ false → around o (arguments_of trees xs) ≡ None
  no_four o xs count is =
      ap (around o) (four_items xs nowhere count)
      ∙ ap (λ (v : Bool). if v then four (subterm_of trees (get_or xs 3 nowhere)) (subterm_of trees (get_or xs 2 nowhere)) (subterm_of trees (get_or xs 1 nowhere)) (subterm_of trees (get_or xs 0 nowhere)) else None) is

  pub around_eight : (o : Operator) (xs : List Subterm) (d : Subterm) (t : Option Sort) → length xs ≡ 8 → is_join o ≡ true
      → t
      ≡ sort_if
      (all_bytes
      (Some (get_or xs 7 d).sort ∷ Some (get_or xs 6 d).sort ∷ Some (get_or xs 5 d).sort ∷ Some (get_or xs 4 d).sort ∷ Some (get_or xs 3 d).sort ∷ Some (get_or xs 2 d).sort
      ∷ Some (get_or xs 1 d).sort ∷ Some (get_or xs 0 d).sort ∷ []))
      (Word W64)
      → around o (arguments_of trees xs)
      ≡ sorted
      (Octonary (tree_at trees (get_or xs 7 d).id) (tree_at trees (get_or xs 6 d).id) (tree_at trees (get_or xs 5 d).id) (tree_at trees (get_or xs 4 d).id)
      (tree_at trees (get_or xs 3 d).id) (tree_at trees (get_or xs 2 d).id) (tree_at trees (get_or xs 1 d).id) (tree_at trees (get_or xs 0 d).id))
      t
  around_eight o xs d t count is sort =
      let x1 = subterm_of trees (get_or xs 7 d) in
      let x2 = subterm_of trees (get_or xs 6 d) in
      let x3 = subterm_of trees (get_or xs 5 d) in
      let x4 = subterm_of trees (get_or xs 4 d) in
      let x5 = subterm_of trees (get_or xs 3 d) in
      let x6 = subterm_of trees (get_or xs 2 d) in
      let x7 = subterm_of trees (get_or xs 1 d) in
      let x8 = subterm_of trees (get_or xs 0 d) in
      ap (around o) (eight_items xs d count)
      ∙ (ap (λ (v : Bool). if v then eight x1 x2 x3 x4 x5 x6 x7 x8 else None) is
      ∙ ap (sorted (Octonary x1.term x2.term x3.term x4.term x5.term x6.term x7.term x8.term)) (sym sort))

  pub no_eight : (o : Operator) (xs : List Subterm) → length xs ≡ 8 → is_join o ≡ false → around o (arguments_of trees xs) ≡ None
  no_eight o xs count is =
      ap (around o) (eight_items xs nowhere count)
      ∙ ap
      (λ (v : Bool).
      if v
      then eight (subterm_of trees (get_or xs 7 nowhere)) (subterm_of trees (get_or xs 6 nowhere)) (subterm_of trees (get_or xs 5 nowhere)) (subterm_of trees (get_or xs 4 nowhere))
      (subterm_of trees (get_or xs 3 nowhere)) (subterm_of trees (get_or xs 2 nowhere)) (subterm_of trees (get_or xs 1 nowhere)) (subterm_of trees (get_or xs 0 nowhere))
      else None)
      is

  -- ---- any other number

  length_taken : (later : List Sorted) (xs : List Subterm) → length (taken trees later xs) ≡ length later + length xs
  unfolding taken
  length_taken later [] = omega arith
  length_taken later (x ∷ xs) = omega (arith, length_taken (subterm_of trees x ∷ later) xs)

  other_count : (o : Operator) (ys : List Sorted) → length ys ≢ 1 → length ys ≢ 2 → length ys ≢ 3 → length ys ≢ 4 → length ys ≢ 8 → around o ys ≡ None
  other_count o [] n1 n2 n3 n4 n8 = refl
  other_count o (x1 ∷ []) n1 n2 n3 n4 n8 = absurd (n1 refl)
  other_count o (x1 ∷ x2 ∷ []) n1 n2 n3 n4 n8 = absurd (n2 refl)
  other_count o (x1 ∷ x2 ∷ x3 ∷ []) n1 n2 n3 n4 n8 = absurd (n3 refl)
  other_count o (x1 ∷ x2 ∷ x3 ∷ x4 ∷ []) n1 n2 n3 n4 n8 = absurd (n4 refl)
  other_count o (x1 ∷ x2 ∷ x3 ∷ x4 ∷ x5 ∷ []) n1 n2 n3 n4 n8 = refl
  other_count o (x1 ∷ x2 ∷ x3 ∷ x4 ∷ x5 ∷ x6 ∷ []) n1 n2 n3 n4 n8 = refl
  other_count o (x1 ∷ x2 ∷ x3 ∷ x4 ∷ x5 ∷ x6 ∷ x7 ∷ []) n1 n2 n3 n4 n8 = refl
  other_count o (x1 ∷ x2 ∷ x3 ∷ x4 ∷ x5 ∷ x6 ∷ x7 ∷ x8 ∷ []) n1 n2 n3 n4 n8 = absurd (n8 refl)
  other_count o (x1 ∷ x2 ∷ x3 ∷ x4 ∷ x5 ∷ x6 ∷ x7 ∷ x8 ∷ x9 ∷ ys) n1 n2 n3 n4 n8 = refl

  pub around_other : (o : Operator) (xs : List Subterm) → length xs ≢ 1 → length xs ≢ 2 → length xs ≢ 3 → length xs ≢ 4 → length xs ≢ 8
      → around o (arguments_of trees xs) ≡ None
  around_other o xs n1 n2 n3 n4 n8 =
      let same = length_taken [] xs in
      other_count o (arguments_of trees xs) (λ h. n1 (omega (arith, same, h))) (λ h. n2 (omega (arith, same, h))) (λ h. n3 (omega (arith, same, h)))
      (λ h. n4 (omega (arith, same, h))) (λ h. n8 (omega (arith, same, h)))
