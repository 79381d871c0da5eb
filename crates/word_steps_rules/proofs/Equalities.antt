-- Words of one width by their sorts, and the sides of an `eq`.
use Rattle.std.proofs.Common.{◌≡◌, ℕ, ◌<◌, Bool, true, false, cond, List, Option, Some, None, refl, sym, ap, ◌∙◌, arith}
use Rattle.std.specs.Prelude.{◌&&◌, ◌==◌}
use Rattle.term_core_spec.specs.declared.Width.{Width}
use Rattle.term_core_spec.specs.declared.Sort.{Sort}
use Rattle.term_core_spec.specs.declared.Sort.TheVariants as sort
use Rattle.term_core_spec.specs.declared.BinaryOperator.{BinaryOperator}
use Rattle.term_core_spec.specs.declared.BinaryOperator.TheVariants as binary
use Rattle.term_core_spec.specs.Term.{Term, Binary}
use Rattle.term_core_spec.specs.Sort.{bits, same_sort, sort_of, sort_of_binary}
use Rattle.term_core_spec.proofs.Sorts.{same_sort-true}
use Rattle.term_norm_spec.specs.Patterns.{width_of}
use Rattle.term_norm_spec.proofs.Keeps.{width_is}
use Rattle.term_bank.specs.declared.node.TermNode.{TermNode}
use Rattle.term_bank.specs.declared.node.TermNode.TheVariants as node
use Rattle.term_bank.specs.Nodes.{IsNode, tree_at, build}
use Rattle.word_steps_spec.specs.Numbers.{has_sort, are_alike}
use Rattle.word_steps_spec.specs.Sides.{are_words, sides_of}
use Rattle.word_steps_rules.specs.declared.words.Sides.{Sides}
use Rattle.word_steps_rules.specs.Views.{sides_in}
use Rattle.word_steps_rules.specs.Sides.{is_word_sort, are_alike_sorts, sides_by, sides_of_node, IsEqualityOf, IsEquality, AreSidesOf}

word_is : (t : Term) (o : Option Sort) → sort_of t ≡ o → is_word_sort o ≡ has_sort o (sort.Word (width_of t))
word_is t (Some (sort.Word width)) e = sym (ap (λ w. bits width == bits w) (width_is t width e) ∙ (search arith))
word_is t (Some sort.Truth) e = refl
word_is t (Some sort.Memory) e = refl
word_is t None e = refl

pub words_by_sorts : (t u : Term) → (is_word_sort (sort_of t) && are_alike_sorts (sort_of t) (sort_of u)) ≡ are_words t u
unfolding sort_of
words_by_sorts t u = ap (λ b. b && are_alike t u) (word_is t (sort_of t) refl)

-- two words of one width
pub record AreSorted (t u : Term) : Type 0 where
  pub width : Width
  pub first : sort_of t ≡ Some (sort.Word width)
  pub second : sort_of u ≡ Some (sort.Word width)

pub words_sorted : (t u : Term) → are_words t u ≡ true → AreSorted t u
unfolding sort_of_binary
words_sorted t u h = by (sort_of t) (sort_of u) refl refl (words_by_sorts t u ∙ h)
  where
    one_width : (w : Width) (s : Sort) (test : Bool) → same_sort (sort.Word w) s ≡ test → has_sort (cond test (Some sort.Truth) None) sort.Truth ≡ true → s ≡ sort.Word w
    one_width w s true e f = sym (same_sort-true (sort.Word w) s e)
    one_width w s false e f = absurd (cc)

    by : (o p : Option Sort) → sort_of t ≡ o → sort_of u ≡ p → (is_word_sort o && are_alike_sorts o p) ≡ true → AreSorted t u
    by (Some (sort.Word w)) (Some s) e f g =
        record { width = w; first = e; second = f ∙ ap Some (one_width w s (same_sort (sort.Word w) s) refl g) }
    by (Some (sort.Word w)) None e f g = absurd (cc)
    by (Some sort.Truth) p e f g = absurd (cc)
    by (Some sort.Memory) p e f g = absurd (cc)
    by None p e f g = absurd (cc)

-- ---- the sides of an `eq`

equality_by : (trees : List Term) (id : ℕ) (o : BinaryOperator) (a b : ℕ) → a < id → b < id → tree_at trees id ≡ Binary o (tree_at trees a) (tree_at trees b)
    → IsEquality trees id (sides_by o a b)
unfolding sides_of
equality_by trees id binary.Equal a b in_a in_b e = record { is = e; left = in_a; right = in_b }
equality_by trees id binary.And a b in_a in_b e = ap sides_of e
equality_by trees id binary.Or a b in_a in_b e = ap sides_of e
equality_by trees id binary.Less a b in_a in_b e = ap sides_of e
equality_by trees id binary.Load a b in_a in_b e = ap sides_of e
equality_by trees id binary.Join a b in_a in_b e = ap sides_of e
equality_by trees id (binary.Word operator) a b in_a in_b e = ap sides_of e

pub equality_found : (trees : List Term) (id : ℕ) (n : TermNode) → IsNode id n → tree_at trees id ≡ build trees n → IsEquality trees id (sides_of_node n)
unfolding sides_of
equality_found trees id (node.Binary operator a b) is e = equality_by trees id operator a b is.0 is.1 e
equality_found trees id (node.Leaf leaf) is e = ap sides_of e
equality_found trees id (node.Unary operator a) is e = ap sides_of e
equality_found trees id (node.Ternary operator a b c) is e = ap sides_of e
equality_found trees id (node.Quaternary operator a b c d) is e = ap sides_of e
equality_found trees id (node.Octonary a b c d f g h i) is e = ap sides_of e

module _ (trees : List Term) (id : ℕ) (s : Sides) (is : IsEqualityOf trees id s) where
  sides_are : sides_of (tree_at trees id) ≡ cond (are_words (tree_at trees s.left) (tree_at trees s.right)) (Some (sides_in trees s)) None
  unfolding sides_of
  sides_are = ap sides_of is.is

  pub sides_found : are_words (tree_at trees s.left) (tree_at trees s.right) ≡ true → AreSidesOf trees id s
  sides_found e = record { is = sides_are ∙ ap (λ test. cond test (Some (sides_in trees s)) None) e; words = e; left = is.left; right = is.right }

  pub no_sides : are_words (tree_at trees s.left) (tree_at trees s.right) ≡ false → sides_of (tree_at trees id) ≡ None
  no_sides e = sides_are ∙ ap (λ test. cond test (Some (sides_in trees s)) None) e
