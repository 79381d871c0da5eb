-- Merges.
use Rattle.std.proofs.Common.{◌≡◌, ℕ, suc, ◌-◌, ◌<◌, Bool, true, false, cond, List, [], ◌∷◌, length, Option, Some, None, refl, sym, ap, ◌∙◌, arith}
use Rattle.std.specs.Prelude.{Result, Ok, Err, ◌==◌, ◌&&◌, ◌||◌, nat_eq, nat_lt, is_some}
use Rattle.std.proofs.lemmas.Bool.{lt-ltb}
use Rattle.std.proofs.lemmas.List.{get_or-map, length-map}
use Rattle.std.proofs.lemmas.Option.{get_or_from_slice_get}
use Rattle.term_core_spec.specs.declared.Atom.TheVariants as atom
use Rattle.term_core_spec.specs.declared.Sort.TheVariants as sort
use Rattle.term_core_spec.specs.declared.BinaryOperator.TheVariants as binary
use Rattle.term_core_spec.specs.Term as tree
use Rattle.term_core_spec.specs.Term.{Term, equal, truth}
use Rattle.term_core_spec.specs.Sort.{sort_of, sort_of_binary, with_two}
use Rattle.term_core_spec.specs.contracts.BinaryOperatorPartialEq.TheImpl as binary_test
use Rattle.term_core_spec.specs.Same.{same_term}
use Rattle.memory_spec.specs.Runs.{Run}
use Rattle.term_bank.specs.declared.node.TermNode.{TermNode}
use Rattle.term_bank.specs.declared.node.TermNode.TheVariants.{Leaf, Unary, Binary, Ternary, Quaternary, Octonary}
use Rattle.term_bank.specs.Nodes.{IsNode, tree_at, build, Holds, Extends, AreDistinct}
use Rattle.term_sorts.proofs.Orders.{same_ids}
use Rattle.word_steps_spec.specs.Numbers as spec
use Rattle.word_steps_spec.specs.Numbers.{State, renew, reading, is_number, is_fact, are_facts, are_alike, term_at}
use Rattle.word_steps_spec.specs.Lines as lines
use Rattle.word_steps.specs.declared.number.Reading.{Reading}
use Rattle.attempt.specs.declared.refusal.Refusal.{Refusal}
use Rattle.attempt.specs.declared.refusal.Refusal.TheVariants.{Fault, NoMemory}
use Rattle.word_steps.specs.declared.block.WordFault.{WordFault}
use Rattle.word_steps.specs.declared.block.WordFault.TheVariants.{Word}
use Rattle.word_steps.specs.declared.merging.Pair.{Pair}
use Rattle.word_steps.specs.declared.block.Block.{Block}
use Rattle.word_steps.specs.Views.{is_truth_node, are_both, is_equality_node, merged_if_fact, index_below, number_in, no_number, sort_in, count_of, numbers_of, number_of, sort_of_number, are_alike_sorts, reading_of, fact_of, merged_by_fact}
use Rattle.word_steps.specs.Shows.{IsBlock, Shows}
use Rattle.word_steps.specs.Outcomes.{Becomes, BecomesSome, IsRefused, IsFactIndex, ArePaired, are_pair, TriesOne, Takes}
use Rattle.word_steps.proofs.Operators.{is_number_below, node_wider}
use Rattle.word_steps.proofs.Later.{stays, shows_later, number_at_is}

-- ---- an `eq` of two terms, and truth values

module _ (trees : List Term) (apart : AreDistinct trees) (x y : ℕ) (in_x : x < length trees) (in_y : y < length trees) where
  abbrev is_either : Term → Bool
  is_either t = same_term t (equal (tree_at trees x) (tree_at trees y)) || same_term t (equal (tree_at trees y) (tree_at trees x))

  sides_same : (a b u v : ℕ) → a < length trees → b < length trees → u < length trees → v < length trees
      → (same_term (tree_at trees a) (tree_at trees u) && same_term (tree_at trees b) (tree_at trees v)) ≡ (nat_eq a u && nat_eq b v)
  sides_same a b u v in_a in_b in_u in_v =
      ap (λ p. p && same_term (tree_at trees b) (tree_at trees v)) (sym (same_ids trees apart a u in_a in_u))
      ∙ ap (λ p. nat_eq a u && p) (sym (same_ids trees apart b v in_b in_v))

  node_is : (n : TermNode) → IsNode (length trees) n → is_equality_node n x y ≡ is_either (build trees n)
  unfolding is_equality_node same_term
  node_is (Leaf leaf) h = refl
  node_is (Unary o a) h = refl
  node_is (Binary o a b) h =
      by (binary_test.ghosts.eq o binary.Equal)
      ∙ sym
      (ap (λ p. (binary_test.ghosts.eq o binary.Equal && p) || (binary_test.ghosts.eq o binary.Equal && (same_term (tree_at trees a) (tree_at trees y) && same_term (tree_at trees b) (tree_at trees x))))
      (sides_same a b x y h.0 h.1 in_x in_y)
      ∙ ap (λ p. (binary_test.ghosts.eq o binary.Equal && (nat_eq a x && nat_eq b y)) || (binary_test.ghosts.eq o binary.Equal && p)) (sides_same a b y x h.0 h.1 in_y in_x))
    where
      by : (test : Bool) → (test && are_both a b x y) ≡ ((test && (nat_eq a x && nat_eq b y)) || (test && (nat_eq a y && nat_eq b x)))
      by true = refl
      by false = refl
  node_is (Ternary o a b c) h = refl
  node_is (Quaternary o a b c d) h = refl
  node_is (Octonary a b c d e f g i) h = refl

  -- the node of a fact
  pub equality_at : (fact : ℕ) (n : TermNode) → fact < length trees → IsNode fact n → Holds trees fact (build trees n)
      → is_equality_node n x y ≡ lines.is_equality (tree_at trees fact ∷ []) (tree_at trees x) (tree_at trees y)
  equality_at fact n less is holds =
      node_is n (node_wider fact (length trees) n (omega (arith, less)) is)
      ∙ sym (ap is_either (get_or_from_slice_get trees fact (build trees n) (tree.Leaf (atom.Truth false)) holds))

pub truth_at : (trees : List Term) (id : ℕ) (n : TermNode) (value : Bool) → Holds trees id (build trees n) → is_truth_node n value ≡ same_term (tree_at trees id) (truth value)
unfolding is_truth_node same_term
truth_at trees id n value holds = node_truth n ∙ sym (ap (λ t. same_term t (truth value)) (get_or_from_slice_get trees id (build trees n) (tree.Leaf (atom.Truth false)) holds))
  where
    node_truth : (m : TermNode) → is_truth_node m value ≡ same_term (build trees m) (truth value)
    node_truth (Leaf leaf) = refl
    node_truth (Unary o a) = refl
    node_truth (Binary o a b) = refl
    node_truth (Ternary o a b c) = refl
    node_truth (Quaternary o a b c d) = refl
    node_truth (Octonary a b c d e f g i) = refl

and_false : (p : Bool) → (p && false) ≡ false
and_false true = refl
and_false false = refl

-- the index of a number that is there
pub index_there : (count i : ℕ) → i < count → Some i ≡ index_below count (suc i)
index_there count i less =
    let above : (suc i == 0) ≡ false = search arith in
    let is : suc i - 1 ≡ i = omega arith in
    sym
    (ap (λ b. cond b None (cond (nat_lt (suc i - 1) count) (Some (suc i - 1)) None)) above
    ∙ ap (λ j. cond (nat_lt j count) (Some j) None) is ∙ ap (λ b. cond b (Some i) None) (lt-ltb i count less))

-- ---- two numbers that are alike

module _ (b : Block) (first second : ℕ) where
  sorts_are : (trees : List Term) (s : State) → IsBlock trees b → Shows trees b s → (i : ℕ) → i < count_of b → sort_of (term_at s.numbers (suc i)) ≡ sort_in b.sorts.items i
  sorts_are trees s is h i less =
      ap (λ (ns : List spec.Number). sort_of (term_at ns (suc i))) h.numbers ∙ ap (λ (m : spec.Number). sort_of m.term) (number_at_is trees b.numbers.items i less)
      ∙ sym (ap (λ l. sort_in l i) is.sorts ∙ get_or-map (sort_of_number trees) b.numbers.items i no_number None less)

  alike_is : (trees : List Term) (s : State) → IsBlock trees b → Shows trees b s → (i j : ℕ) → i < count_of b → j < count_of b
      → are_alike (term_at s.numbers (suc i)) (term_at s.numbers (suc j)) ≡ are_alike_sorts (sort_in b.sorts.items i) (sort_in b.sorts.items j)
  unfolding sort_of
  alike_is trees s is h i j in_i in_j =
      ap (λ o. spec.has_sort (with_two (sort_of_binary binary.Equal) o (sort_of (term_at s.numbers (suc j)))) sort.Truth) (sorts_are trees s is h i in_i)
      ∙ ap (λ o. spec.has_sort (with_two (sort_of_binary binary.Equal) (sort_in b.sorts.items i) o) sort.Truth) (sorts_are trees s is h j in_j)

  there_is : (trees : List Term) (s : State) → Shows trees b s → (k : ℕ) → is_number s.numbers k ≡ is_some (index_below (count_of b) k)
  there_is trees s h k = is_number_below s.numbers k ∙ ap (λ n. is_some (index_below n k)) (ap length h.numbers ∙ length-map b.numbers.items (number_of trees))

  pub no_first : None ≡ index_below (count_of b) first → ArePaired b first second None
  no_first e = λ trees s is h. ap (λ p. p && (is_number s.numbers second && are_alike (term_at s.numbers first) (term_at s.numbers second))) (there_is trees s h first ∙ ap is_some (sym e))

  pub no_second : None ≡ index_below (count_of b) second → ArePaired b first second None
  no_second e = λ trees s is h.
      ap (λ p. is_number s.numbers first && (p && are_alike (term_at s.numbers first) (term_at s.numbers second))) (there_is trees s h second ∙ ap is_some (sym e))
      ∙ and_false (is_number s.numbers first)

  module _ (i j : ℕ) (is_first : first ≡ suc i) (is_second : second ≡ suc j) (in_i : i < count_of b) (in_j : j < count_of b)
      (at_first : Some i ≡ index_below (count_of b) first) (at_second : Some j ≡ index_below (count_of b) second) where
    pair_is : (trees : List Term) (s : State) → IsBlock trees b → Shows trees b s → are_pair s first second ≡ are_alike_sorts (sort_in b.sorts.items i) (sort_in b.sorts.items j)
    pair_is trees s is h =
        ap (λ p. p && (is_number s.numbers second && are_alike (term_at s.numbers first) (term_at s.numbers second))) (there_is trees s h first ∙ ap is_some (sym at_first))
        ∙ ap (λ p. p && are_alike (term_at s.numbers first) (term_at s.numbers second)) (there_is trees s h second ∙ ap is_some (sym at_second))
        ∙ ap (λ k. are_alike (term_at s.numbers k) (term_at s.numbers second)) is_first ∙ ap (λ k. are_alike (term_at s.numbers (suc i)) (term_at s.numbers k)) is_second
        ∙ alike_is trees s is h i j in_i in_j

    pub a_pair : are_alike_sorts (sort_in b.sorts.items i) (sort_in b.sorts.items j) ≡ true → ArePaired b first second (Some (record { first = i; second = j }))
    a_pair e = (is_first, is_second, in_i, in_j, λ trees s is h. pair_is trees s is h ∙ e)

    pub no_pair : are_alike_sorts (sort_in b.sorts.items i) (sort_in b.sorts.items j) ≡ false → ArePaired b first second None
    no_pair e = λ trees s is h. pair_is trees s is h ∙ e

-- ---- the line `same`

module _ (runs : List Run) (old : List Term) (b : Block) (is : IsBlock old b) (first second : ℕ) (fact : Reading) where
  abbrev next : State → Option State
  next s = lines.applied runs s (lines.MergeBy lines.Same first second (reading_of fact ∷ []))

  abbrev result : State → (p q r : Bool) → (x y : ℕ) → Option State
  result s p q r x y = cond (p && (q && (r && (is_fact s.facts (fact_of fact.fact) && true)))) (lines.merged runs lines.Same x y (reading_of fact ∷ []) (renew runs x s)) None

  next_is : (s : State) → next s ≡ result s (is_number s.numbers first) (is_number s.numbers second) (are_alike (term_at s.numbers first) (term_at s.numbers second)) first second
  unfolding lines.applied are_facts
  next_is s = refl

  pub unpaired : ArePaired b first second None → IsRefused old b next
  unpaired isnt s h =
      next_is s ∙ by (is_number s.numbers first) (is_number s.numbers second) (are_alike (term_at s.numbers first) (term_at s.numbers second)) (is_fact s.facts (fact_of fact.fact) && true) (isnt old s is h)
    where
      by : (p q r f : Bool) → (p && (q && r)) ≡ false → cond (p && (q && (r && f))) (lines.merged runs lines.Same first second (reading_of fact ∷ []) (renew runs first s)) None ≡ None
      by false q r f e = refl
      by true false r f e = refl
      by true true false f e = refl
      by true true true f e = absurd (cc)

  -- where they are alike, the fact decides
  pub pair_goes : (pair : Pair) → ArePaired b first second (Some pair) → (s : State) → Shows old b s → merged_if_fact runs pair.first pair.second fact s ≡ next s
  pair_goes pair paired s h =
      sym
      (next_is s ∙ by (is_number s.numbers first) (is_number s.numbers second) (are_alike (term_at s.numbers first) (term_at s.numbers second)) (is_fact s.facts (fact_of fact.fact)) (paired.4 old s is h)
      ∙ ap (λ k. cond (is_fact s.facts (fact_of fact.fact)) (lines.merged runs lines.Same k second (reading_of fact ∷ []) (renew runs k s)) None) paired.0
      ∙ ap (λ k. cond (is_fact s.facts (fact_of fact.fact)) (lines.merged runs lines.Same (suc pair.first) k (reading_of fact ∷ []) (renew runs (suc pair.first) s)) None) paired.1)
    where
      by : (p q r f : Bool) → (p && (q && r)) ≡ true
          → cond (p && (q && (r && (f && true)))) (lines.merged runs lines.Same first second (reading_of fact ∷ []) (renew runs first s)) None
          ≡ cond f (lines.merged runs lines.Same first second (reading_of fact ∷ []) (renew runs first s)) None
      by true true true true e = refl
      by true true true false e = refl
      by true true false f e = absurd (cc)
      by true false r f e = absurd (cc)
      by false q r f e = absurd (cc)

-- ---- whether the fact is there

module _ (runs : List Run) (old new : List Term) (b after : Block) (first second : ℕ) (fact : Reading) where
  abbrev line : State → Option State
  line s = merged_if_fact runs first second fact s

  pub no_fact : IsFactIndex b fact.fact None → IsRefused old b line
  no_fact isnt s h = ap (λ f. cond f (merged_by_fact runs first second fact s) None) (isnt old s h)

  module _ (index : ℕ) (there : IsFactIndex b fact.fact (Some index)) where
    line_is : (s : State) → Shows old b s → line s ≡ merged_by_fact runs first second fact s
    line_is s h = ap (λ f. cond f (merged_by_fact runs first second fact s) None) (there.2 old s h)

    pub is_taken : TriesOne old new b after (merged_by_fact runs first second fact) true → BecomesSome old new b after line
    is_taken h = record {
      block = h.block;
      shows = λ s shown. let then = h.shows s shown in record { state = then.state; is = line_is s shown ∙ then.is; shows = then.shows };
    }

    pub is_refused : TriesOne old new b after (merged_by_fact runs first second fact) false → IsRefused old b line
    is_refused h s shown = line_is s shown ∙ h s shown

-- the same line by another name
pub takes_as : (g h : State → Option State) (old new : List Term) (b after : Block) (result : Result (Unit {0}) (Refusal WordFault)) → ((s : State) → Shows old b s → g s ≡ h s)
    → Takes g old new b after result → Takes h old new b after result
takes_as g h old new b after (Ok done) same t = record {
  block = t.block;
  shows = λ s shown. let then = t.shows s shown in record { state = then.state; is = sym (same s shown) ∙ then.is; shows = then.shows };
}
takes_as g h old new b after (Err (Fault Word)) same t = λ s shown. sym (same s shown) ∙ t s shown
takes_as g h old new b after (Err NoMemory) same t = tt

-- ---- a number that is renewed and merged

module _ (runs : List Run) (old mid read_trees : List Term) (b renewed : Block) (x y : ℕ) (fact : Reading) (in_x : x < count_of renewed) (in_y : y < count_of renewed) (id : ℕ)
    (becomes : Becomes old mid b renewed (renew runs (suc x))) (grows : Extends mid read_trees)
    (read_is : tree_at read_trees id ≡ reading runs (numbers_of mid renewed.numbers.items) (reading_of fact)) where
  now_is : (i : ℕ) → i < count_of renewed → tree_at read_trees (number_in renewed.numbers.items i).now ≡ spec.now_at (numbers_of mid renewed.numbers.items) (suc i)
  now_is i less =
      stays mid read_trees (number_in renewed.numbers.items i).now grows ((becomes.block.numbers i no_number less).now)
      ∙ sym (ap (λ (m : spec.Number). m.now) (number_at_is mid renewed.numbers.items i less))

  abbrev test : Bool
  test = lines.is_equality (tree_at read_trees id ∷ []) (tree_at read_trees (number_in renewed.numbers.items x).now) (tree_at read_trees (number_in renewed.numbers.items y).now)

  abbrev choose : Bool → State → Option State
  choose p s = cond p (Some (lines.with_merge runs (suc x) (spec.Numbered (suc y)) (renew runs (suc x) s))) None

  merged_is : (s : State) → Shows old b s → merged_by_fact runs x y fact s ≡ choose test s
  unfolding lines.merges_by
  merged_is s h =
      let shown = becomes.shows s h in
      ap (λ (ns : List spec.Number). choose (lines.is_equality (reading runs ns (reading_of fact) ∷ []) (spec.now_at ns (suc x)) (spec.now_at ns (suc y))) s) shown.numbers
      ∙ ap (λ t. choose (lines.is_equality (t ∷ []) (spec.now_at (numbers_of mid renewed.numbers.items) (suc x)) (spec.now_at (numbers_of mid renewed.numbers.items) (suc y))) s) (sym read_is)
      ∙ ap (λ t. choose (lines.is_equality (tree_at read_trees id ∷ []) t (spec.now_at (numbers_of mid renewed.numbers.items) (suc y))) s) (sym (now_is x in_x))
      ∙ ap (λ t. choose (lines.is_equality (tree_at read_trees id ∷ []) (tree_at read_trees (number_in renewed.numbers.items x).now) t) s) (sym (now_is y in_y))

  pub not_merged : (new : List Term) (after : Block) → test ≡ false → TriesOne old new b after (merged_by_fact runs x y fact) false
  not_merged new after e s h = merged_is s h ∙ ap (λ p. choose p s) e

  pub now_merged : (new : List Term) (after : Block) → test ≡ true → Becomes read_trees new renewed after (lines.with_merge runs (suc x) (spec.Numbered (suc y)))
      → TriesOne old new b after (merged_by_fact runs x y fact) true
  now_merged new after e h = record {
    block = h.block;
    shows = λ s shown.
        record {
          state = lines.with_merge runs (suc x) (spec.Numbered (suc y)) (renew runs (suc x) s);
          is = merged_is s shown ∙ ap (λ p. choose p s) e;
          shows = h.shows (renew runs (suc x) s) (shows_later mid read_trees renewed (renew runs (suc x) s) grows becomes.block (becomes.shows s shown));
        };
  }
