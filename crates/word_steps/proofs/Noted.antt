-- Facts, merges and numbers that are noted, before anything is renewed.
use Rattle.std.proofs.Common.{◌≡◌, ◌≢◌, ℕ, zero, suc, ◌<◌, ◌≤◌, Bool, true, false, cond, List, [], ◌∷◌, ◌++◌, ◌⊎◌, inl, inr, length, map, set, Option, Some, None, refl, sym, ap, ◌∙◌, subst, arith}
use Rattle.std.specs.Prelude.{◌==◌, ◌&&◌, ◌||◌, All}
use Rattle.std.proofs.lemmas.Bool.{cases_eq, eq-eqb, ne_eqb}
use Rattle.std.proofs.lemmas.List.{length-set, map-set, set-get_or, get_or-map}
use Rattle.std.proofs.lemmas.List.Elements.{All-set, All-same}
use Rattle.term_core_spec.specs.Term.{Term}
use Rattle.term_core_spec.specs.Sort.{sort_of}
use Rattle.term_bank.specs.declared.node.TermNode.{TermNode}
use Rattle.term_bank.specs.declared.node.TermNode.TheVariants.{Leaf, Unary, Binary, Ternary, Quaternary, Octonary}
use Rattle.term_bank.specs.Nodes.{IsNode, tree_at, build}
use Rattle.term_sorts.specs.Sorts.{sort_at, sort_of_node}
use Rattle.word_steps_spec.specs.Numbers as spec
use Rattle.word_steps_spec.specs.Numbers.{State, known_truth, is_fact, merged_with, same_sign}
use Rattle.word_steps.specs.declared.number.Other.{Other}
use Rattle.word_steps.specs.declared.number.Other.TheVariants.{Index, Constant}
use Rattle.word_steps.specs.declared.number.Marks.{Marks}
use Rattle.word_steps.specs.declared.number.Number.{Number}
use Rattle.word_steps.specs.declared.block.Block.{Block}
use Rattle.word_steps.specs.Views.{node_over, no_number, number_in, term_in, count_of, marks_at, unmarked, has_fact, number_of, numbers_of, sort_of_number, other_of, fact_at, with_truth, with_other, noted_fact, noted_merge}
use Rattle.word_steps.specs.Shows.{IsOther, IsNumber, IsBlock, IsMarked, Shows}
use Rattle.word_steps.specs.Outcomes.{Becomes}
use Rattle.word_steps.proofs.Operators.{node_wider}
use Rattle.word_steps.proofs.Renewals.{marks-set_same, marks-set_other}

-- ---- marks with one more fact, and with one more merge

or_true : (x : Bool) → (x || true) ≡ true
or_true true = refl
or_true false = refl

or_false : (x : Bool) → (x || false) ≡ x
or_false true = refl
or_false false = refl

module _ (s : State) (k : ℕ) (m : Marks) (h : IsMarked s k m) where
  fact_here : (number : ℕ) (holds : Bool) → (number == k) ≡ true → IsMarked (noted_fact (record { number = number; holds = holds }) s) k (with_truth m holds)
  unfolding known_truth is_fact
  fact_here number holds here = record {
    known = ap (λ b. cond b (Some holds) (known_truth s.facts k)) here;
    facts = λ other. ap (λ b. cond (b && same_sign holds other) true (is_fact s.facts (record { number = k; holds = other }))) here ∙ by holds other;
    merged = h.merged;
  }
    where
      by : (p q : Bool) → cond (true && same_sign p q) true (is_fact s.facts (record { number = k; holds = q })) ≡ has_fact (with_truth m p) q
      by true true = sym (or_true m.is_true)
      by true false = h.facts false ∙ sym (or_false m.is_false)
      by false true = h.facts true ∙ sym (or_false m.is_true)
      by false false = sym (or_true m.is_false)

  fact_other : (number : ℕ) (holds : Bool) → (number == k) ≡ false → IsMarked (noted_fact (record { number = number; holds = holds }) s) k m
  unfolding known_truth is_fact
  fact_other number holds apart = record {
    known = ap (λ b. cond b (Some holds) (known_truth s.facts k)) apart ∙ h.known;
    facts = λ other. ap (λ b. cond (b && same_sign holds other) true (is_fact s.facts (record { number = k; holds = other }))) apart ∙ h.facts other;
    merged = h.merged;
  }

  merge_here : (index : ℕ) (other : Other) → (suc index == k) ≡ true → IsMarked (noted_merge index other s) k (with_other m other)
  unfolding merged_with
  merge_here index other here = record {
    known = h.known;
    facts = h.facts;
    merged = ap (λ b. cond b (Some (other_of other)) (merged_with s.merges k)) here;
  }

  merge_other : (index : ℕ) (other : Other) → (suc index == k) ≡ false → IsMarked (noted_merge index other s) k m
  unfolding merged_with
  merge_other index other apart = record {
    known = h.known;
    facts = h.facts;
    merged = ap (λ b. cond b (Some (other_of other)) (merged_with s.merges k)) apart ∙ h.merged;
  }

-- ---- a number with other marks

module _ (trees : List Term) (b after : Block) (index : ℕ) (is : IsBlock trees b) (less : index < count_of b) (marks : Marks) (fits : IsOther (count_of b) marks.merged) where
  abbrev items : List Number
  items = b.numbers.items

  abbrev was : Number
  was = number_in items index

  abbrev becomes : Number
  becomes = record { operation = was.operation; term = was.term; now = was.now; marks = marks }

  is_becomes : IsNumber (length trees) (count_of b) becomes
  is_becomes = let h = is.numbers index no_number less in record { operation = h.operation; term = h.term; now = h.now; merged = fits }

  module _ (items_are : after.numbers.items ≡ set items index becomes) (sorts_are : after.sorts.items ≡ b.sorts.items) where
    count_is : count_of after ≡ count_of b
    count_is = ap length items_are ∙ length-set items index becomes

    pub marked_block : IsBlock trees after
    marked_block = record {
      numbers = subst (λ c. All (IsNumber (length trees) c) after.numbers.items) (sym count_is)
          (All-same (IsNumber (length trees) (count_of b)) after.numbers.items (set items index becomes) items_are
          (All-set (IsNumber (length trees) (count_of b)) items index becomes is_becomes is.numbers));
      sorts = sorts_are ∙ is.sorts
          ∙ sym
          (ap (map (sort_of_number trees)) items_are ∙ map-set (sort_of_number trees) items index becomes
          ∙ ap (set (map (sort_of_number trees) items) index) (sym (get_or-map (sort_of_number trees) items index no_number None less))
          ∙ set-get_or (map (sort_of_number trees) items) index None);
    }

    pub marked_numbers : numbers_of trees after.numbers.items ≡ numbers_of trees items
    marked_numbers =
        ap (numbers_of trees) items_are ∙ map-set (number_of trees) items index becomes
        ∙ ap (set (numbers_of trees items) index) (sym (get_or-map (number_of trees) items index no_number spec.missing less))
        ∙ set-get_or (numbers_of trees items) index spec.missing

-- the number at an index is a fact, or its opposite
pub fact_becomes : (trees : List Term) (b after : Block) (index : ℕ) (holds : Bool) → index < count_of b
    → after.numbers.items ≡ set b.numbers.items index (record (number_in b.numbers.items index) { marks = with_truth (number_in b.numbers.items index).marks holds })
    → after.sorts.items ≡ b.sorts.items → after.changes ≡ b.changes → after.sweeps ≡ b.sweeps
    → IsBlock trees b → Becomes trees trees b after (noted_fact (fact_at index holds))
unfolding marks_at
fact_becomes trees b after index holds less items_are sorts_are changes_are sweeps_are is =
    record {
      block = marked_block trees b after index is less marks fits items_are sorts_are;
      shows = λ s h.
          record {
            numbers = h.numbers ∙ sym (marked_numbers trees b after index is less marks fits items_are sorts_are);
            marked = λ k. subst (IsMarked (noted_fact (fact_at index holds) s) k) (sym (ap (λ l. marks_at l k) items_are)) (by s h k (cases_eq k (suc index)));
            changes = h.changes ∙ sym changes_are;
            sweeps = h.sweeps ∙ sym sweeps_are;
          };
    }
  where
    items : List Number
    items = b.numbers.items

    marks : Marks
    marks = with_truth (number_in items index).marks holds

    n : Number
    n = record (number_in items index) { marks = marks }

    fits : IsOther (count_of b) marks.merged
    fits = (is.numbers index no_number less).merged

    by : (s : State) → Shows trees b s → (k : ℕ) → (k ≡ suc index) ⊎ (k ≢ suc index) → IsMarked (noted_fact (fact_at index holds) s) k (marks_at (set items index n) k)
    by s h k (inl e) =
        subst (λ j. IsMarked (noted_fact (fact_at index holds) s) j (marks_at (set items index n) j)) (sym e)
        (subst (IsMarked (noted_fact (fact_at index holds) s) (suc index)) (sym (marks-set_same items index n less))
        (fact_here s (suc index) (number_in items index).marks (h.marked (suc index)) (suc index) holds (eq-eqb (suc index) (suc index) refl)))
    by s h k (inr other) =
        subst (IsMarked (noted_fact (fact_at index holds) s) k) (sym (marks-set_other items index k n other))
        (fact_other s k (marks_at items k) (h.marked k) (suc index) holds (ne_eqb (suc index) k (λ e. other (sym e))))

-- the number at an index is merged
pub merge_becomes : (trees : List Term) (b after : Block) (index : ℕ) (other : Other) → index < count_of b → IsOther (count_of b) (Some other)
    → after.numbers.items ≡ set b.numbers.items index (record (number_in b.numbers.items index) { marks = with_other (number_in b.numbers.items index).marks other })
    → after.sorts.items ≡ b.sorts.items → after.changes ≡ b.changes → after.sweeps ≡ b.sweeps
    → IsBlock trees b → Becomes trees trees b after (noted_merge index other)
unfolding marks_at
merge_becomes trees b after index other less fits items_are sorts_are changes_are sweeps_are is =
    record {
      block = marked_block trees b after index is less marks fits items_are sorts_are;
      shows = λ s h.
          record {
            numbers = h.numbers ∙ sym (marked_numbers trees b after index is less marks fits items_are sorts_are);
            marked = λ k. subst (IsMarked (noted_merge index other s) k) (sym (ap (λ l. marks_at l k) items_are)) (by s h k (cases_eq k (suc index)));
            changes = h.changes ∙ sym changes_are;
            sweeps = h.sweeps ∙ sym sweeps_are;
          };
    }
  where
    items : List Number
    items = b.numbers.items

    marks : Marks
    marks = with_other (number_in items index).marks other

    n : Number
    n = record (number_in items index) { marks = marks }

    by : (s : State) → Shows trees b s → (k : ℕ) → (k ≡ suc index) ⊎ (k ≢ suc index) → IsMarked (noted_merge index other s) k (marks_at (set items index n) k)
    by s h k (inl e) =
        subst (λ j. IsMarked (noted_merge index other s) j (marks_at (set items index n) j)) (sym e)
        (subst (IsMarked (noted_merge index other s) (suc index)) (sym (marks-set_same items index n less))
        (merge_here s (suc index) (number_in items index).marks (h.marked (suc index)) index other (eq-eqb (suc index) (suc index) refl)))
    by s h k (inr apart) =
        subst (IsMarked (noted_merge index other s) k) (sym (marks-set_other items index k n apart))
        (merge_other s k (marks_at items k) (h.marked k) index other (ne_eqb (suc index) k (λ e. apart (sym e))))

-- ---- one more number

other_wider : (m n : ℕ) → m ≤ n → (o : Option Other) → IsOther m o → IsOther n o
other_wider m n le (Some (Index i)) h = let less : i < m = h in omega (arith, less, le)
other_wider m n le (Some (Constant c)) h = tt
other_wider m n le None h = tt

pub number_among_more : (n count more : ℕ) → count ≤ more → (x : Number) → IsNumber n count x → IsNumber n more x
number_among_more n count more le x is = record {
  operation = node_wider count more x.operation le is.operation;
  term = is.term;
  now = is.now;
  merged = other_wider count more le x.marks.merged is.merged;
}

-- a number without marks leaves the marks as they are
pub marks-push : (xs : List Number) (n : Number) (k : ℕ) → n.marks ≡ unmarked → marks_at (xs ++ n ∷ []) k ≡ marks_at xs k
unfolding marks_at
marks-push xs n zero e = refl
marks-push xs n (suc i) e = by xs i
  where
    by : (ys : List Number) (j : ℕ) → (number_in (ys ++ n ∷ []) j).marks ≡ (number_in ys j).marks
    by [] zero = e
    by [] (suc j) = refl
    by (y ∷ ys) zero = refl
    by (y ∷ ys) (suc j) = by ys j

-- the sort of an operator over terms, by those of its arguments
pub sort_of_over : (trees : List Term) (xs : List Number) (node : TermNode) → IsNode (length xs) node
    → sort_of_node (map (sort_of_number trees) xs) node ≡ sort_of (build trees (node_over (term_in xs) node))
unfolding sort_of node_over
sort_of_over trees xs node is = by node is
  where
    at : (a : ℕ) → a < length xs → sort_at (map (sort_of_number trees) xs) a ≡ sort_of (tree_at trees (number_in xs a).term)
    at a less = get_or-map (sort_of_number trees) xs a no_number None less

    by : (n : TermNode) → IsNode (length xs) n → sort_of_node (map (sort_of_number trees) xs) n ≡ sort_of (build trees (node_over (term_in xs) n))
    by (Leaf leaf) h = refl
    by (Unary o a) h = let ea = at a h in cc
    by (Binary o a b) h =
        let ea = at a h.0 in
        let eb = at b h.1 in
        cc
    by (Ternary o a b c) h =
        let ea = at a h.0 in
        let eb = at b h.1 in
        let ec = at c h.2 in
        cc
    by (Quaternary o a b c d) h =
        let ea = at a h.0 in
        let eb = at b h.1 in
        let ec = at c h.2 in
        let ed = at d h.3 in
        cc
    by (Octonary a b c d e f g j) h =
        rw (at a h.0, at b h.1, at c h.2, at d h.3, at e h.4, at f h.5, at g h.6, at j h.7) refl
