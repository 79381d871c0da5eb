-- Arguments that are taken apart, one id after the other.
use Rattle.std.proofs.Common.{◌≡◌, ℕ, zero, suc, ◌+◌, ◌<◌, ◌≤◌, Bool, true, false, cond, List, [], ◌∷◌, ◌++◌, length, take, drop, get_or, set, Option, Some, None, refl, sym, ap, ◌∙◌, arith, append_assoc, append-nil, length-append}
use Rattle.std.specs.Prelude.{◌&&◌, ◌||◌, nat_eq, nat_le, option_map, slice_get}
use Rattle.std.specs.List.{insert}
use Rattle.std.proofs.lemmas.Grind.{flat_map-append}
use Rattle.std.proofs.lemmas.List.{take_more, map-append, length-map}
use Rattle.std.proofs.lemmas.List.Elements.{All-cons, All-head, All-tail, All-same}
use Rattle.std.proofs.lemmas.Bool.{le-leb, lt-leb, leb-true, leb-false}
use Rattle.std.proofs.lemmas.Option.{same_Some, slice_get_within, get_or_from_slice_get}
use Rattle.term_core_spec.specs.declared.BinaryOperator.{BinaryOperator}
use Rattle.term_core_spec.specs.contracts.BinaryOperatorPartialEq.TheImpl as binary_test
use Rattle.term_core_spec.specs.Term.{Term, Leaf, Unary, Binary, Ternary, Quaternary, Octonary}
use Rattle.term_core_spec.specs.Same.{same_term}
use Rattle.term_core_spec.proofs.Same.{binary-same}
use Rattle.term_bank.specs.declared.node.TermNode.{TermNode}
use Rattle.term_bank.specs.declared.node.TermNode.TheVariants as node
use Rattle.term_bank.specs.Nodes.{IsNode, tree_at, build, AreDistinct}
use Rattle.term_sorts.specs.Order.{terms_of}
use Rattle.term_sorts.proofs.Orders.{AreWithin, same_ids as same_id}
use Rattle.word_steps_spec.specs.Polynomial.{same_atoms, without, holds_of}
use Rattle.word_steps_spec.specs.Sides.{Sides}
use Rattle.word_steps_spec.specs.Commuting.{ARGUMENTS, is_commutative, is_nested, arguments_under, are_arguments_of_both, same_up_to_order}
use Rattle.word_steps_rules.specs.Monomials.{same_ids}
use Rattle.word_steps_rules.specs.declared.commuting.Operation.{Operation}
use Rattle.word_steps_rules.specs.Views.{AreAtoms, sides_in, OnTwo, operation_of, operation_in, operation_of_node, IsOperationOf, are_alike, are_turned}
use Rattle.word_steps_rules.specs.Arguments.{sides_under, all_under, Expands, Expanding, IsExpanded, ArgumentsOf}
use Rattle.word_steps_rules.proofs.Often.{same_is}

-- ---- a term and its sides

abbrev parts : BinaryOperator → Term → Option Sides → List Term
parts operator t (Some s) = arguments_under operator s.left ++ arguments_under operator s.right
parts operator t None = t ∷ []

pub parts_are : (operator : BinaryOperator) (t : Term) → arguments_under operator t ≡ parts operator t (sides_under operator t)
unfolding arguments_under sides_under
parts_are operator (Binary inner x y) = by (is_nested operator inner x)
  where
    by : (test : Bool) → cond test (arguments_under operator x ++ arguments_under operator y) (Binary inner x y ∷ [])
        ≡ parts operator (Binary inner x y) (cond test (Some (record { left = x; right = y })) None)
    by true = refl
    by false = refl
parts_are operator (Leaf a) = refl
parts_are operator (Unary o x) = refl
parts_are operator (Ternary o x y z) = refl
parts_are operator (Quaternary o x y z w) = refl
parts_are operator (Octonary a b c d e f g h) = refl

some_argument : (operator : BinaryOperator) (t : Term) → 0 < length (arguments_under operator t)
unfolding arguments_under
some_argument operator (Binary inner x y) = by (is_nested operator inner x) (some_argument operator x)
  where
    by : (test : Bool) → 0 < length (arguments_under operator x) → 0 < length (cond test (arguments_under operator x ++ arguments_under operator y) (Binary inner x y ∷ []))
    by true h = omega (arith, h, length-append (arguments_under operator x) (arguments_under operator y))
    by false h = omega arith
some_argument operator (Leaf a) = omega arith
some_argument operator (Unary o x) = omega arith
some_argument operator (Ternary o x y z) = omega arith
some_argument operator (Quaternary o x y z w) = omega arith
some_argument operator (Octonary a b c d e f g h) = omega arith

-- ---- the sides in place of an id

unfoldable parted : ℕ → (x y : ℕ) → List ℕ → List ℕ
parted i x y [] = []
parted zero x y (t ∷ rest) = x ∷ y ∷ rest
parted (suc i) x y (t ∷ rest) = t ∷ parted i x y rest

take_none : (xs : List ℕ) → take 0 xs ≡ []
take_none [] = refl
take_none (x ∷ xs) = refl

drop_none : (xs : List ℕ) → drop 0 xs ≡ xs
drop_none [] = refl
drop_none (x ∷ xs) = refl

insert_is : (i x y : ℕ) (ts : List ℕ) → i < length ts → insert (set ts i x) (suc i) y ≡ parted i x y ts
unfolding parted
insert_is i x y [] less = absurd (omega (arith, less))
insert_is zero x y (t ∷ rest) less = ap (λ l. x ∷ l ++ y ∷ drop 0 rest) (take_none rest) ∙ ap (λ l. x ∷ y ∷ l) (drop_none rest)
insert_is (suc i) x y (t ∷ rest) less = ap (λ l. t ∷ l) (insert_is i x y rest (omega (arith, less)))

parted_length : (i x y : ℕ) (ts : List ℕ) → i < length ts → length (parted i x y ts) ≡ suc (length ts)
unfolding parted
parted_length i x y [] less = absurd (omega (arith, less))
parted_length zero x y (t ∷ rest) less = refl
parted_length (suc i) x y (t ∷ rest) less = ap suc (parted_length i x y rest (omega (arith, less)))

parted_front : (i x y : ℕ) (ts : List ℕ) → i < length ts → take i (parted i x y ts) ≡ take i ts
unfolding parted
parted_front i x y [] less = absurd (omega (arith, less))
parted_front zero x y (t ∷ rest) less = refl
parted_front (suc i) x y (t ∷ rest) less = ap (λ l. t ∷ l) (parted_front i x y rest (omega (arith, less)))

parted_within : (bound i x y : ℕ) (ts : List ℕ) → x < bound → y < bound → AreAtoms bound ts → AreAtoms bound (parted i x y ts)
unfolding parted
parted_within bound i x y [] in_x in_y h = h
parted_within bound zero x y (t ∷ rest) in_x in_y h =
    All-cons (λ id. id < bound) x (y ∷ rest) in_x (All-cons (λ id. id < bound) y rest in_y (All-tail (λ id. id < bound) t rest h))
parted_within bound (suc i) x y (t ∷ rest) in_x in_y h =
    All-cons (λ id. id < bound) t (parted i x y rest) (All-head (λ id. id < bound) t rest h) (parted_within bound i x y rest in_x in_y (All-tail (λ id. id < bound) t rest h))

module _ (trees : List Term) (operator : BinaryOperator) where
  abbrev of_id : ℕ → List Term
  of_id id = arguments_under operator (tree_at trees id)

  parted_same : (i x y d : ℕ) (ts : List ℕ) → i < length ts → of_id (get_or ts i d) ≡ of_id x ++ of_id y → all_under trees operator (parted i x y ts) ≡ all_under trees operator ts
  unfolding parted
  parted_same i x y d [] less e = absurd (omega (arith, less))
  parted_same zero x y d (t ∷ rest) less e = sym (append_assoc (of_id x) (of_id y) (all_under trees operator rest)) ∙ ap (λ l. l ++ all_under trees operator rest) (sym e)
  parted_same (suc i) x y d (t ∷ rest) less e = ap (λ l. of_id t ++ l) (parted_same i x y d rest (omega (arith, less)) e)

  -- each id has an argument at least
  pub many : (ts : List ℕ) → length ts ≤ length (all_under trees operator ts)
  many [] = omega arith
  many (t ∷ rest) = omega (arith, many rest, some_argument operator (tree_at trees t), length-append (of_id t) (all_under trees operator rest))

  module _ (bound : ℕ) (old : List ℕ) where
    pub expand_start : AreAtoms bound old → Expanding trees operator bound old old 0
    expand_start h = record {
      same = refl;
      plain = ap (all_under trees operator) (take_none old) ∙ sym (ap (terms_of trees) (take_none old));
      within = h;
      reached = omega arith;
    }

    pub expand_plain : (now : List ℕ) (at d : ℕ) → Expanding trees operator bound old now at → at < length now
        → sides_under operator (tree_at trees (get_or now at d)) ≡ None → Expanding trees operator bound old now (at + 1)
    expand_plain now at d h less none =
        let t = get_or now at d in
        let here : of_id t ≡ tree_at trees t ∷ [] = parts_are operator (tree_at trees t) ∙ ap (parts operator (tree_at trees t)) none in
        let more : take (at + 1) now ≡ take at now ++ t ∷ [] = take_more now at d less in
        record {
          same = h.same;
          plain = ap (all_under trees operator) more ∙ flat_map-append of_id (take at now) (t ∷ []) ∙ ap (λ l. l ++ all_under trees operator (t ∷ [])) h.plain
              ∙ ap (λ l. terms_of trees (take at now) ++ l) (append-nil (of_id t) ∙ here)
              ∙ sym (ap (terms_of trees) more ∙ map-append (tree_at trees) (take at now) (t ∷ []));
          within = h.within;
          reached = omega (arith, less);
        }

    pub expand_sides : (now new : List ℕ) (at x y d : ℕ) → Expanding trees operator bound old now at → at < length now
        → sides_under operator (tree_at trees (get_or now at d)) ≡ Some (record { left = tree_at trees x; right = tree_at trees y })
        → x < bound → y < bound → new ≡ insert (set now at x) (at + 1) y → Expanding trees operator bound old new at
    expand_sides now new at x y d h less some in_x in_y e =
        let one : at + 1 ≡ suc at = omega arith in
        let is : new ≡ parted at x y now = e ∙ ap (λ k. insert (set now at x) k y) one ∙ insert_is at x y now less in
        let t = get_or now at d in
        record {
          same = ap (all_under trees operator) is ∙ parted_same at x y d now less (parts_are operator (tree_at trees t) ∙ ap (parts operator (tree_at trees t)) some) ∙ h.same;
          plain = ap (λ l. all_under trees operator (take at l)) is ∙ ap (all_under trees operator) (parted_front at x y now less) ∙ h.plain
              ∙ sym (ap (λ l. terms_of trees (take at l)) is ∙ ap (terms_of trees) (parted_front at x y now less));
          within = All-same (λ id. id < bound) new (parted at x y now) is (parted_within bound at x y now in_x in_y h.within);
          reached = let reached = h.reached in omega (arith, reached, ap length is, parted_length at x y now less);
        }

    -- one step
    pub step_plain : (now : List ℕ) (at id : ℕ) → slice_get now at ≡ Some id → sides_under operator (tree_at trees id) ≡ None → Expanding trees operator bound old now at
        → IsExpanded trees operator bound old now now at (at + 1)
    step_plain now at id here none h =
        let less = slice_get_within now at id here in
        let is = get_or_from_slice_get now at id 0 here in
        record {
          on = expand_plain now at 0 h less (ap (λ k. sides_under operator (tree_at trees k)) is ∙ none);
          less = λ few. omega (arith, less, few);
        }

    pub step_sides : (now new : List ℕ) (at id x y : ℕ) → slice_get now at ≡ Some id → sides_under operator (tree_at trees id) ≡ Some (record { left = tree_at trees x; right = tree_at trees y })
        → x < bound → y < bound → new ≡ insert (set now at x) (at + 1) y → Expanding trees operator bound old now at → IsExpanded trees operator bound old now new at at
    step_sides now new at id x y here some in_x in_y e h =
        let less = slice_get_within now at id here in
        let is = get_or_from_slice_get now at id 0 here in
        let one : at + 1 ≡ suc at = omega arith in
        let longer : length new ≡ suc (length now) = ap length e ∙ ap (λ k. length (insert (set now at x) k y)) one ∙ ap length (insert_is at x y now less) ∙ parted_length at x y now less in
        record {
          on = expand_sides now new at x y 0 h less (ap (λ k. sides_under operator (tree_at trees k)) is ∙ some) in_x in_y e;
          less = λ few. omega (arith, less, few, longer);
        }

    take_whole : (xs : List ℕ) (n : ℕ) → length xs ≤ n → take n xs ≡ xs
    take_whole [] zero le = refl
    take_whole [] (suc n) le = refl
    take_whole (x ∷ xs) zero le = absurd (omega (arith, le))
    take_whole (x ∷ xs) (suc n) le = ap (λ l. x ∷ l) (take_whole xs n (omega (arith, le)))

    -- all are taken apart; they may be too many
    pub expand_end : (now : List ℕ) (at : ℕ) → Expanding trees operator bound old now at → length now ≤ at → Expands trees operator bound old now (nat_le (length now) ARGUMENTS)
    expand_end now at h le = by (nat_le (length now) ARGUMENTS) refl
      where
        whole : take at now ≡ now
        whole = take_whole now at le

        by : (test : Bool) → nat_le (length now) ARGUMENTS ≡ test → Expands trees operator bound old now test
        by true e = (
          sym (ap (terms_of trees) whole) ∙ sym h.plain ∙ ap (all_under trees operator) whole ∙ h.same,
          leb-true (length now) ARGUMENTS e,
          h.within,
        )
        by false e = let same = h.same in omega (arith, leb-false (length now) ARGUMENTS e, many now, ap length same)

    -- there are too many on the way
    pub expand_stop : (now : List ℕ) (at : ℕ) → Expanding trees operator bound old now at → ARGUMENTS < length now → Expands trees operator bound old now false
    expand_stop now at h more = let same = h.same in omega (arith, more, many now, ap length same)

  -- of one term
  pub of_one : (bound id : ℕ) (ids : List ℕ) (found : Bool) → Expands trees operator bound (id ∷ []) ids found → ArgumentsOf trees operator bound (tree_at trees id) ids found
  of_one bound id ids true h = (h.0 ∙ append-nil (of_id id), h.1, h.2)
  of_one bound id ids false h = let more = h in omega (arith, more, ap length (append-nil (of_id id)))

-- ---- the arguments of two terms

within_from_all : (bound n : ℕ) (ids : List ℕ) → bound ≤ n → AreAtoms bound ids → AreWithin n ids
unfolding AreWithin
within_from_all bound n [] le h = tt
within_from_all bound n (id ∷ rest) le h =
    let here : id < bound = All-head (λ k. k < bound) id rest h in
    (omega (arith, here, le), within_from_all bound n rest le (All-tail (λ k. k < bound) id rest h))

taken_length : (t : Term) (us rest : List Term) → without t us ≡ Some rest → length us ≡ suc (length rest)
unfolding without
taken_length t [] rest e = absurd (cc)
taken_length t (u ∷ us) rest e = by (same_term t u) (without t us) refl e (taken_length t us)
  where
    by : (test : Bool) (o : Option (List Term)) → without t us ≡ o → cond test (Some us) (option_map (λ others. u ∷ others) o) ≡ Some rest
        → ((r : List Term) → without t us ≡ Some r → length us ≡ suc (length r)) → length (u ∷ us) ≡ suc (length rest)
    by true o f g later = ap (λ l. suc (length l)) (same_Some us rest g)
    by false (Some others) f g later = ap suc (later others f) ∙ ap (λ l. suc (length l)) (same_Some (u ∷ others) rest g)
    by false None f g later = absurd (cc)

same_length : (ts us : List Term) → same_atoms ts us ≡ true → length ts ≡ length us
unfolding same_atoms
same_length [] [] e = refl
same_length [] (u ∷ us) e = absurd (cc)
same_length (t ∷ ts) us e = by (without t us) refl e (same_length ts)
  where
    by : (o : Option (List Term)) → without t us ≡ o → holds_of (same_atoms ts) o ≡ true → ((rest : List Term) → same_atoms ts rest ≡ true → length ts ≡ length rest)
        → length (t ∷ ts) ≡ length us
    by (Some rest) is g later = ap suc (later rest g) ∙ sym (taken_length t us rest is)
    by None is g later = absurd (cc)

module _ (trees : List Term) (apart : AreDistinct trees) (operator : BinaryOperator) (bound : ℕ) (le : bound ≤ length trees) (t u : Term) (first second : List ℕ) where
  abbrev of_t : List Term
  of_t = arguments_under operator t

  abbrev of_u : List Term
  of_u = arguments_under operator u

  pub both_are : ArgumentsOf trees operator bound t first true → ArgumentsOf trees operator bound u second true
      → same_ids first second ≡ are_arguments_of_both of_t of_u
  both_are h k =
      let few : length of_t ≤ ARGUMENTS = let small = h.1 in omega (arith, small, ap length h.0, length-map first (tree_at trees)) in
      sym
      (ap (λ b. b && same_atoms of_t of_u) (le-leb (length of_t) ARGUMENTS few)
      ∙ ap (λ l. same_atoms l of_u) (sym h.0) ∙ ap (same_atoms (terms_of trees first)) (sym k.0)
      ∙ same_is trees apart first second (within_from_all bound (length trees) first le h.2) (within_from_all bound (length trees) second le k.2))

  pub too_many_first : ArgumentsOf trees operator bound t first false → false ≡ are_arguments_of_both of_t of_u
  too_many_first h = sym (ap (λ b. b && same_atoms of_t of_u) (lt-leb (length of_t) ARGUMENTS h))

  pub too_many_second : ArgumentsOf trees operator bound u second false → false ≡ are_arguments_of_both of_t of_u
  too_many_second h = sym (by (nat_le (length of_t) ARGUMENTS) (same_atoms of_t of_u) refl refl)
    where
      by : (p q : Bool) → nat_le (length of_t) ARGUMENTS ≡ p → same_atoms of_t of_u ≡ q → (p && q) ≡ false
      by false q e f = refl
      by true false e f = refl
      by true true e f =
          let few : length of_t ≤ ARGUMENTS = leb-true (length of_t) ARGUMENTS e in
          let more : ARGUMENTS < length of_u = h in
          absurd (omega (arith, few, more, same_length of_t of_u f))

-- ---- one operator over two terms

-- what the test says of two operators
abbrev pub same_by : Term → Term → Option OnTwo → Option OnTwo → Bool
same_by t u (Some o) (Some p) =
    is_commutative o.operator && (binary_test.ghosts.eq o.operator p.operator
    && ((same_term o.sides.left p.sides.right && same_term o.sides.right p.sides.left)
    || are_arguments_of_both (arguments_under o.operator t) (arguments_under o.operator u)))
same_by t u (Some o) None = false
same_by t u None p = false

pub same_is_by : (t u : Term) → same_up_to_order t u ≡ same_by t u (operation_of t) (operation_of u)
unfolding same_up_to_order operation_of
same_is_by (Binary operator x y) (Binary other v w) = by (binary_test.ghosts.eq operator other) refl
  where
    turned : Bool
    turned = same_term x w && same_term y v

    of_both : BinaryOperator → Bool
    of_both o = are_arguments_of_both (arguments_under operator (Binary operator x y)) (arguments_under operator (Binary o v w))

    by : (test : Bool) → binary_test.ghosts.eq operator other ≡ test
        → (is_commutative operator && (test && (turned || of_both operator))) ≡ (is_commutative operator && (test && (turned || of_both other)))
    by true e = ap (λ o. is_commutative operator && (turned || of_both o)) (binary-same operator other e)
    by false e = refl
same_is_by (Binary operator x y) (Leaf a) = refl
same_is_by (Binary operator x y) (Unary o v) = refl
same_is_by (Binary operator x y) (Ternary o v w z) = refl
same_is_by (Binary operator x y) (Quaternary o v w z q) = refl
same_is_by (Binary operator x y) (Octonary a b c d e f g h) = refl
same_is_by (Leaf a) u = refl
same_is_by (Unary o x) u = refl
same_is_by (Ternary o x y z) u = refl
same_is_by (Quaternary o x y z w) u = refl
same_is_by (Octonary a b c d e f g h) u = refl

-- a node's operator is that of its tree
pub operation_built : (trees : List Term) (n : TermNode) → option_map (operation_in trees) (operation_of_node n) ≡ operation_of (build trees n)
unfolding operation_of
operation_built trees (node.Binary operator x y) = refl
operation_built trees (node.Leaf leaf) = refl
operation_built trees (node.Unary operator x) = refl
operation_built trees (node.Ternary operator x y z) = refl
operation_built trees (node.Quaternary operator x y z w) = refl
operation_built trees (node.Octonary a b c d e f g h) = refl

-- its arguments are before it
pub operation_found : (trees : List Term) (id : ℕ) (n : TermNode) → IsNode id n → tree_at trees id ≡ build trees n → IsOperationOf trees id (operation_of_node n)
operation_found trees id (node.Binary operator x y) is e =
    record { is = ap operation_of e ∙ sym (operation_built trees (node.Binary operator x y)); left = is.0; right = is.1 }
operation_found trees id (node.Leaf leaf) is e = ap operation_of e ∙ sym (operation_built trees (node.Leaf leaf))
operation_found trees id (node.Unary operator x) is e = ap operation_of e ∙ sym (operation_built trees (node.Unary operator x))
operation_found trees id (node.Ternary operator x y z) is e = ap operation_of e ∙ sym (operation_built trees (node.Ternary operator x y z))
operation_found trees id (node.Quaternary operator x y z w) is e = ap operation_of e ∙ sym (operation_built trees (node.Quaternary operator x y z w))
operation_found trees id (node.Octonary a b c d f g h i) is e = ap operation_of e ∙ sym (operation_built trees (node.Octonary a b c d f g h i))

-- the ids of both sides are the same the other way round where the trees are
pub turned_is : (trees : List Term) → AreDistinct trees → (a b c d : ℕ) → a < length trees → b < length trees → c < length trees → d < length trees
    → (nat_eq a d && nat_eq b c) ≡ (same_term (tree_at trees a) (tree_at trees d) && same_term (tree_at trees b) (tree_at trees c))
turned_is trees apart a b c d in_a in_b in_c in_d =
    ap (λ p. p && nat_eq b c) (same_id trees apart a d in_a in_d) ∙ ap (λ p. same_term (tree_at trees a) (tree_at trees d) && p) (same_id trees apart b c in_b in_c)

module _ (trees : List Term) (t u : Term) where
  pub no_first : operation_of t ≡ None → false ≡ same_up_to_order t u
  no_first e = sym (same_is_by t u ∙ ap (λ o. same_by t u o (operation_of u)) e)

  module _ (o : Operation) (e : operation_of t ≡ Some (operation_in trees o)) where
    pub no_second : operation_of u ≡ None → false ≡ same_up_to_order t u
    no_second f = sym (same_is_by t u ∙ ap (λ q. same_by t u q (operation_of u)) e ∙ ap (same_by t u (Some (operation_in trees o))) f)

    module _ (p : Operation) (f : operation_of u ≡ Some (operation_in trees p)) where
      abbrev of_both : Bool
      of_both = are_arguments_of_both (arguments_under o.operator t) (arguments_under o.operator u)

      abbrev turn : Bool
      turn = are_turned (sides_in trees o.sides) (sides_in trees p.sides)

      commuted_is : same_up_to_order t u ≡ (is_commutative o.operator && (binary_test.ghosts.eq o.operator p.operator && (turn || of_both)))
      commuted_is = same_is_by t u ∙ ap (λ q. same_by t u q (operation_of u)) e ∙ ap (same_by t u (Some (operation_in trees o))) f

      tests : (a b c : Bool) → (a && (b && c)) ≡ cond (a && b) c false
      tests true true c = refl
      tests true false c = refl
      tests false b c = refl

      commuted_by : same_up_to_order t u ≡ cond (are_alike o p) (turn || of_both) false
      commuted_by = commuted_is ∙ tests (is_commutative o.operator) (binary_test.ghosts.eq o.operator p.operator) (turn || of_both)

      pub not_alike : are_alike o p ≡ false → false ≡ same_up_to_order t u
      not_alike g = sym (commuted_by ∙ ap (λ test. cond test (turn || of_both) false) g)

      pub by_turning : are_alike o p ≡ true → turn ≡ true → true ≡ same_up_to_order t u
      by_turning g h = sym (commuted_by ∙ ap (λ test. cond test (turn || of_both) false) g ∙ ap (λ test. test || of_both) h)

      pub by_arguments : are_alike o p ≡ true → turn ≡ false → of_both ≡ same_up_to_order t u
      by_arguments g h = sym (commuted_by ∙ ap (λ test. cond test (turn || of_both) false) g ∙ ap (λ test. test || of_both) h)
