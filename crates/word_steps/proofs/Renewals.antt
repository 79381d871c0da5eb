-- Renewing a number.
use Rattle.std.proofs.Common.{◌≡◌, ◌≢◌, ℕ, zero, suc, ◌+◌, ◌<◌, Bool, true, false, cond, List, length, map, get_or, set, Option, Some, None, refl, sym, ap, ◌∙◌, subst, ⊎_elim, arith}
use Rattle.std.specs.Prelude.{◌==◌, All, option_map}
use Rattle.std.proofs.lemmas.Bool.{cases_eq}
use Rattle.std.proofs.lemmas.List.{length-set, get_or-set_same, get_or-set_other, map-set, set-get_or, get_or-map}
use Rattle.std.proofs.lemmas.List.Elements.{All-set, All-same}
use Rattle.std.proofs.lemmas.Option.{slice_get_within, get_or_from_slice_get}
use Rattle.term_core_spec.specs.declared.Atom.TheVariants as atom
use Rattle.term_core_spec.specs.Term as tree
use Rattle.term_core_spec.specs.Term.{Term, truth}
use Rattle.memory_spec.specs.Runs.{Run}
use Rattle.term_norm_spec.specs.Normal.{normal}
use Rattle.term_bank.specs.Nodes.{IsNode, tree_at, Holds, Extends, AreDistinct}
use Rattle.term_bank.proofs.Growth.{held}
use Rattle.term_sorts.proofs.Orders.{same_ids}
use Rattle.word_steps_spec.specs.Numbers as spec
use Rattle.word_steps_spec.specs.Numbers.{State, renew, renewed, rebuilt, with_now, at_places, made}
use Rattle.word_steps.specs.declared.number.Other.{Other}
use Rattle.word_steps.specs.declared.number.Other.TheVariants.{Index}
use Rattle.word_steps.specs.declared.number.Number.{Number}
use Rattle.word_steps.specs.declared.block.Block.{Block}
use Rattle.word_steps.specs.Views.{node_over, operation_of, no_number, number_in, now_in, count_of, marks_at, number_of, numbers_of, sort_of_number, other_of, other_in, form_with, merged_in, renewed_in}
use Rattle.word_steps.specs.Shows.{IsOther, IsNumber, IsBlock, IsMarked, Shows}
use Rattle.word_steps.specs.Outcomes.{Becomes}
use Rattle.word_steps.proofs.Operators.{build_over, over_within, nothing_at_0}
use Rattle.word_steps.proofs.Later.{longer, stays, all_of, numbers_later, sorts_later, number_wider, number_at_is}

-- ---- what is merged

pub held_other : (trees : List Term) (b : Block) → IsBlock trees b → (other : ℕ) → other < count_of b
    → Holds trees (number_in b.numbers.items other).now (other_in trees b.numbers.items (Index other))
held_other trees b is other below =
    held trees (number_in b.numbers.items other).now ((is.numbers other no_number below).now)
    ∙ ap Some (sym (ap (λ (m : spec.Number). m.now) (number_at_is trees b.numbers.items other below)))

-- ---- forms

module _ (runs : List Run) (trees : List Term) (b : Block) (is : IsBlock trees b) (index : ℕ) (less : index < count_of b) where
  abbrev xs : List Number
  xs = b.numbers.items

  abbrev n : Number
  n = number_in xs index

  pub is_number : IsNumber (length trees) (count_of b) n
  is_number = is.numbers index no_number less

  pub operation_at_is : spec.operation_at (numbers_of trees xs) (suc index) ≡ operation_of n.operation
  operation_at_is = ap (λ (m : spec.Number). m.operation) (number_at_is trees xs index less)

  -- what stands for an argument is a term of the bank
  pub nows_within : (at id : ℕ) → id < length trees → IsNode (length trees) (node_over (now_in xs at id) n.operation)
  nows_within at id below = over_within (now_in xs at id) (count_of b) (length trees) n.operation is_number.operation (λ i x here. by (i == at) x here)
    where
      by : (test : Bool) (x : ℕ) → x < count_of b → cond test id (number_in xs x).now < length trees
      by true x here = below
      by false x here = (is.numbers x no_number here).now

  -- the form is that of the operator over what its arguments are now, with a term at one place
  pub form_is : (at id : ℕ) → form_with runs trees xs index at id
      ≡ normal runs (made (at_places (λ i x. cond (i == at) (tree_at trees id) (spec.now_at (numbers_of trees xs) x)) (spec.operation_at (numbers_of trees xs) (suc index))))
  form_is at id =
      ap (normal runs)
      (build_over trees (λ i x. cond (i == at) (tree_at trees id) (spec.now_at (numbers_of trees xs) x)) (now_in xs at id) (count_of b) n.operation is_number.operation
      (λ i x here. by (i == at) x here)
      ∙ ap (λ o. made (at_places (λ i x. cond (i == at) (tree_at trees id) (spec.now_at (numbers_of trees xs) x)) o)) (sym operation_at_is))
    where
      by : (test : Bool) (x : ℕ) → x < count_of b → tree_at trees (cond test id (number_in xs x).now) ≡ cond test (tree_at trees id) (spec.now_at (numbers_of trees xs) (suc x))
      by true x here = refl
      by false x here = sym (ap (λ (m : spec.Number). m.now) (number_at_is trees xs x here))

  -- with nothing put in it is the number rebuilt
  pub rebuilt_is : (id : ℕ) → form_with runs trees xs index 0 id ≡ rebuilt runs (numbers_of trees xs) (suc index)
  rebuilt_is id =
      form_is 0 id
      ∙ ap (λ o. normal runs (made o)) (nothing_at_0 (tree_at trees id) (spec.now_at (numbers_of trees xs)) (spec.operation_at (numbers_of trees xs) (suc index)))

  -- ---- what it becomes, by what is known of it

  pub renewed_known : (holds : Bool) → n.marks.known ≡ Some holds → renewed_in runs trees xs index ≡ truth holds
  renewed_known holds e = ap (λ o. spec.truth_or o (merged_in runs trees xs index)) e

  pub renewed_unknown : n.marks.known ≡ None → renewed_in runs trees xs index ≡ merged_in runs trees xs index
  renewed_unknown e = ap (λ o. spec.truth_or o (merged_in runs trees xs index)) e

  abbrev merged_by : Option Other → Term
  merged_by o = spec.other_or (numbers_of trees xs) (option_map other_of o) (rebuilt runs (numbers_of trees xs) (suc index))

  -- what it was merged with is what it becomes
  pub merged_other : (other : Other) → n.marks.merged ≡ Some other → other_in trees xs other ≡ merged_in runs trees xs index
  merged_other other e = sym (ap merged_by e)

  pub is_other : (other : Other) → n.marks.merged ≡ Some other → IsOther (count_of b) (Some other)
  is_other other e = subst (IsOther (count_of b)) e is_number.merged

  pub merged_rebuilt : (id : ℕ) → n.marks.merged ≡ None → form_with runs trees xs index 0 id ≡ merged_in runs trees xs index
  merged_rebuilt id e = rebuilt_is id ∙ sym (ap merged_by e)

-- ---- marks

pub marks-set_same : (xs : List Number) (i : ℕ) (n : Number) → i < length xs → marks_at (set xs i n) (suc i) ≡ n.marks
unfolding marks_at
marks-set_same xs i n less = ap (λ (m : Number). m.marks) (get_or-set_same xs i n no_number less)

pub marks-set_other : (xs : List Number) (i k : ℕ) (n : Number) → k ≢ suc i → marks_at (set xs i n) k ≡ marks_at xs k
unfolding marks_at
marks-set_other xs i zero n other = refl
marks-set_other xs i (suc k) n other = ap (λ (m : Number). m.marks) (get_or-set_other xs i k n no_number (λ e. other (ap suc e)))

-- the marks stay where the number's do
pub marks-set_alike : (xs : List Number) (i k : ℕ) (n : Number) → i < length xs → n.marks ≡ (number_in xs i).marks → marks_at (set xs i n) k ≡ marks_at xs k
unfolding marks_at
marks-set_alike xs i k n less alike =
    ⊎_elim (λ (e : k ≡ suc i). subst (λ j. marks_at (set xs i n) j ≡ marks_at xs j) (sym e) (marks-set_same xs i n less ∙ alike)) (λ (other : k ≢ suc i). marks-set_other xs i k n other) (cases_eq k (suc i))

-- ---- a renewed number

module _ (runs : List Run) (old new : List Term) (b after : Block) (index id : ℕ) (is : IsBlock old b) (less : index < count_of b) (grows : Extends old new) (apart : AreDistinct new)
    (holds : Holds new id (renewed_in runs old b.numbers.items index)) where
  abbrev items : List Number
  items = b.numbers.items

  abbrev was : Number
  was = number_in items index

  abbrev becomes : Number
  becomes = record { operation = was.operation; term = was.term; now = id; marks = was.marks }

  is_was : IsNumber (length old) (count_of b) was
  is_was = is.numbers index no_number less

  id_within : id < length new
  id_within = slice_get_within new id (renewed_in runs old items index) holds

  id_is : tree_at new id ≡ renewed_in runs old items index
  id_is = get_or_from_slice_get new id (renewed_in runs old items index) (tree.Leaf (atom.Truth false)) holds

  is_becomes : IsNumber (length new) (count_of b) becomes
  is_becomes =
      let wider = number_wider (length old) (length new) (count_of b) (longer old new grows) was is_was in
      record { operation = wider.operation; term = wider.term; now = id_within; merged = wider.merged }

  module _ (items_are : after.numbers.items ≡ set items index becomes) (sorts_are : after.sorts.items ≡ b.sorts.items)
      (changes_are : after.changes ≡ b.changes + cond (was.now == id) 0 1) (sweeps_are : after.sweeps ≡ b.sweeps) where
    count_is : count_of after ≡ count_of b
    count_is = ap length items_are ∙ length-set items index becomes

    numbers_then : All (IsNumber (length new) (count_of b)) (set items index becomes)
    numbers_then =
        All-set (IsNumber (length new) (count_of b)) items index becomes is_becomes
        (all_of (IsNumber (length old) (count_of b)) (IsNumber (length new) (count_of b)) items (number_wider (length old) (length new) (count_of b) (longer old new grows)) is.numbers)

    same_sorts : map (sort_of_number new) (set items index becomes) ≡ map (sort_of_number new) items
    same_sorts =
        map-set (sort_of_number new) items index becomes
        ∙ ap (set (map (sort_of_number new) items) index) (sym (get_or-map (sort_of_number new) items index no_number None less))
        ∙ set-get_or (map (sort_of_number new) items) index None

    block_then : IsBlock new after
    block_then = record {
      numbers = subst (λ c. All (IsNumber (length new) c) after.numbers.items) (sym count_is)
          (All-same (IsNumber (length new) (count_of b)) after.numbers.items (set items index becomes) items_are numbers_then);
      sorts = sorts_are ∙ is.sorts ∙ sym (ap (map (sort_of_number new)) items_are ∙ same_sorts ∙ sorts_later old new (count_of b) items grows is.numbers);
    }

    module _ (s : State) (shown : Shows old b s) where
      abbrev t : Term
      t = renewed runs s (suc index)

      marks_are : IsMarked s (suc index) was.marks
      unfolding marks_at
      marks_are = shown.marked (suc index)

      t_is : t ≡ renewed_in runs old items index
      t_is =
          ap (λ o. spec.truth_or o (spec.other_or s.numbers (spec.merged_with s.merges (suc index)) (rebuilt runs s.numbers (suc index)))) marks_are.known
          ∙ ap (λ o. spec.truth_or was.marks.known (spec.other_or s.numbers o (rebuilt runs s.numbers (suc index)))) marks_are.merged
          ∙ ap (λ ns. spec.truth_or was.marks.known (spec.other_or ns (option_map other_of was.marks.merged) (rebuilt runs ns (suc index)))) shown.numbers

      t_here : tree_at new id ≡ t
      t_here = id_is ∙ sym t_is

      before_is : get_or s.numbers index spec.missing ≡ number_of old was
      before_is = ap (λ ns. get_or ns index spec.missing) shown.numbers ∙ get_or-map (number_of old) items index no_number spec.missing less

      abbrev now_as : spec.Number → Term → spec.Number
      now_as m u = record m { now = u }

      number_then : now_as (get_or s.numbers index spec.missing) t ≡ number_of new becomes
      number_then =
          ap (λ m. now_as m t) before_is ∙ ap (now_as (number_of old was)) (sym t_here)
          ∙ ap (λ u. made_of (operation_of was.operation) u (tree_at new id)) (sym (stays old new was.term grows is_was.term))
        where
          made_of : spec.Operation ℕ → Term → Term → spec.Number
          made_of o u v = record { operation = o; term = u; now = v }

      numbers_shown : with_now s.numbers (suc index) t ≡ numbers_of new after.numbers.items
      unfolding with_now
      numbers_shown =
          ap (set s.numbers index) number_then
          ∙ ap (λ ns. set ns index (number_of new becomes)) (shown.numbers ∙ sym (numbers_later old new (count_of b) items grows is.numbers))
          ∙ sym (map-set (number_of new) items index becomes) ∙ sym (ap (numbers_of new) items_are)

      now_was : spec.now_at s.numbers (suc index) ≡ tree_at new was.now
      now_was =
          ap (λ ns. spec.now_at ns (suc index)) shown.numbers ∙ ap (λ (m : spec.Number). m.now) (number_at_is old items index less)
          ∙ sym (stays old new was.now grows is_was.now)

      now_within : was.now < length new
      now_within = let below = is_was.now in omega (arith, below, longer old new grows)

      change_is : spec.change (spec.now_at s.numbers (suc index)) t ≡ cond (was.now == id) 0 1
      change_is =
          ap (λ u. spec.change u t) now_was ∙ ap (spec.change (tree_at new was.now)) (sym t_here)
          ∙ ap (λ test. cond test 0 1) (sym (same_ids new apart was.now id now_within id_within))

      changes_shown : s.changes + spec.change (spec.now_at s.numbers (suc index)) t ≡ after.changes
      changes_shown = ap (λ c. c + spec.change (spec.now_at s.numbers (suc index)) t) shown.changes ∙ ap (λ c. b.changes + c) change_is ∙ sym changes_are

      marks_then : (k : ℕ) → marks_at after.numbers.items k ≡ marks_at items k
      marks_then k = ap (λ l. marks_at l k) items_are ∙ marks-set_alike items index k becomes less refl

      marked_then : (k : ℕ) → IsMarked (renew runs (suc index) s) k (marks_at after.numbers.items k)
      unfolding renew
      marked_then k =
          let h = shown.marked k in
          subst (IsMarked (renew runs (suc index) s) k) (sym (marks_then k)) (record { known = h.known; facts = h.facts; merged = h.merged })

      shown_then : Shows new after (renew runs (suc index) s)
      unfolding renew
      shown_then = record { numbers = numbers_shown; marked = marked_then; changes = changes_shown; sweeps = shown.sweeps ∙ sym sweeps_are }

    pub renewed_becomes : Becomes old new b after (renew runs (suc index))
    renewed_becomes = record { block = block_then; shows = shown_then }
