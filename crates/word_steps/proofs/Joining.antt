-- The goals that are left.
use Rattle.std.proofs.Common.{◌≡◌, ℕ, zero, suc, ◌+◌, ◌<◌, ◌≤◌, Bool, true, false, cond, List, [], ◌∷◌, ◌++◌, length, map, take, Option, Some, None, refl, sym, ap, ◌∙◌, arith, append-nil}
use Rattle.std.specs.Prelude.{◌&&◌, option_map, is_some, slice_get}
use Rattle.std.proofs.lemmas.Bool.{and_left}
use Rattle.std.proofs.lemmas.List.Elements.{All-nil, All-cons}
use Rattle.std.proofs.lemmas.Option.{get_or_from_slice_get, slice_get_within, same_Some}
use Rattle.term_core_spec.specs.declared.Atom.TheVariants as atom
use Rattle.term_core_spec.specs.declared.Sort.TheVariants as sort
use Rattle.term_core_spec.specs.Term as tree
use Rattle.term_core_spec.specs.Term.{Term, truth, not_term, and_term}
use Rattle.memory_spec.specs.Runs.{Run}
use Rattle.term_bank.specs.Nodes.{tree_at, Holds, Extends}
use Rattle.word_steps_spec.specs.Numbers as spec
use Rattle.word_steps_spec.specs.Numbers.{State, is_fact, are_facts, signed, reading, rebuilt, is_number, is_bool, term_at}
use Rattle.word_steps_spec.specs.Lines.{and_all, not_all, kept_goal, left, Keep, Case}
use Rattle.word_steps.specs.declared.number.Reading.{Reading}
use Rattle.word_steps.specs.declared.block.Block.{Block}
use Rattle.word_steps.specs.Views.{index_below, sort_in, count_of, numbers_of, reading_of, fact_of, and_with, joined, not_joined, IsIdBelow}
use Rattle.word_steps.specs.Shows.{IsBlock, Shows}
use Rattle.word_steps.specs.Outcomes.{IsFactIndex, AreFacts, IsConjunction, IsCase, is_case, AreCaseGoals}
use Rattle.word_steps.proofs.Later.{stays, longer, numbers_later}
use Rattle.word_steps.proofs.Arguing.{index_is_below, bool_is}
use Rattle.word_steps.proofs.Taken.{number_there}

-- ---- some facts

pub no_facts : (b : Block) → AreFacts b [] true
unfolding are_facts
no_facts b = (All-nil (λ (r : Reading). (0 < r.fact.number) × (r.fact.number ≤ count_of b)), λ trees s h. refl)

pub first_isnt : (b : Block) (r : Reading) (rest : List Reading) → IsFactIndex b r.fact None → AreFacts b (r ∷ rest) false
unfolding are_facts
first_isnt b r rest none = λ trees s h. and_left (is_fact s.facts (fact_of r.fact)) (are_facts s.facts (map reading_of rest)) (none trees s h)

pub first_is : (b : Block) (r : Reading) (rest : List Reading) (index : ℕ) (more : Bool) → IsFactIndex b r.fact (Some index) → AreFacts b rest more → AreFacts b (r ∷ rest) more
unfolding are_facts
first_is b r rest index true some others = (
  All-cons (λ (q : Reading). (0 < q.fact.number) × (q.fact.number ≤ count_of b)) r rest
      (let e = some.0 in let less : index < count_of b = some.1 in (omega (arith, e), omega (arith, e, less))) others.0,
  λ trees s h. ap (λ p. p && are_facts s.facts (map reading_of rest)) (some.2 trees s h) ∙ others.1 trees s h,
)
first_is b r rest index false some others = λ trees s h. ap (λ p. p && are_facts s.facts (map reading_of rest)) (some.2 trees s h) ∙ others trees s h

-- the same, of an index that may be there
pub first_some : (b : Block) (r : Reading) (rest : List Reading) (more : Bool) (o : Option ℕ) → is_some o ≡ true → IsFactIndex b r.fact o → AreFacts b rest more → AreFacts b (r ∷ rest) more
first_some b r rest more (Some i) e is others = first_is b r rest i more is others
first_some b r rest more None e is others = absurd (cc)

pub first_none : (b : Block) (r : Reading) (rest : List Reading) (o : Option ℕ) → is_some o ≡ false → IsFactIndex b r.fact o → AreFacts b (r ∷ rest) false
first_none b r rest (Some i) e is = absurd (cc)
first_none b r rest None e is = first_isnt b r rest is

-- ---- a number that is a truth value

pub no_case_number : (b : Block) (x : ℕ) → None ≡ index_below (count_of b) x → IsCase b x None
no_case_number b x e = λ trees s is h. ap (λ p. p && is_bool (term_at s.numbers x)) (number_there trees b s x h ∙ ap is_some (sym e))

module _ (b : Block) (x index : ℕ) (at : Some index ≡ index_below (count_of b) x) where
  case_number : (trees : List Term) (s : State) → IsBlock trees b → Shows trees b s → is_case s x ≡ spec.has_sort (sort_in b.sorts.items index) sort.Truth
  case_number trees s is h =
      let found = index_is_below (count_of b) x index at in
      ap (λ p. p && is_bool (term_at s.numbers x)) (number_there trees b s x h ∙ ap is_some (sym at))
      ∙ ap (λ k. is_bool (term_at s.numbers k)) found.0 ∙ ap (λ (ns : List spec.Number). is_bool (term_at ns (suc index))) h.numbers
      ∙ sym (bool_is [] trees b is index found.1 true index found.1)

  pub a_case : spec.has_sort (sort_in b.sorts.items index) sort.Truth ≡ true → IsCase b x (Some index)
  a_case e = let found = index_is_below (count_of b) x index at in (found.0, found.1, λ trees s is h. case_number trees s is h ∙ e)

  pub isnt_case : spec.has_sort (sort_in b.sorts.items index) sort.Truth ≡ false → IsCase b x None
  isnt_case e = λ trees s is h. case_number trees s is h ∙ e

-- ---- terms joined by `and`

and_all-push : (t u : Term) (rest : List Term) → and_all t (rest ++ u ∷ []) ≡ and_term (and_all t rest) u
unfolding and_all
and_all-push t u [] = refl
and_all-push t u (v ∷ rest) = and_all-push (and_term t v) u rest

pub joined-push : (ts : List Term) (u : Term) → joined (ts ++ u ∷ []) ≡ Some (and_with (joined ts) u)
unfolding and_all
joined-push [] u = refl
joined-push (t ∷ rest) u = ap Some (and_all-push t u rest)

pub not_joined-is : (runs : List Run) (ts : List Term) → not_joined runs (joined ts) ≡ not_all runs ts
not_joined-is runs [] = refl
not_joined-is runs (t ∷ rest) = refl

-- ---- ids of joined terms

pub id_below : (trees : List Term) (id : ℕ) (t : Term) → Holds trees id t → id < length trees
id_below trees id t h = slice_get_within trees id t h

pub id_is : (trees : List Term) (id : ℕ) (t : Term) → Holds trees id t → tree_at trees id ≡ t
id_is trees id t h = get_or_from_slice_get trees id t (tree.Leaf (atom.Truth false)) h

pub below_later : (old new : List Term) (o : Option ℕ) → Extends old new → IsIdBelow (length old) o → IsIdBelow (length new) o
below_later old new (Some id) e h = let less : id < length old = h in omega (arith, less, longer old new e)
below_later old new None e h = tt

pub same_later : (old new : List Term) (o : Option ℕ) → Extends old new → IsIdBelow (length old) o → option_map (tree_at new) o ≡ option_map (tree_at old) o
same_later old new (Some id) e h = ap Some (stays old new id e h)
same_later old new None e h = refl

pub conjunction_later : (old new : List Term) (ts : List Term) (all : Option ℕ) → Extends old new → IsConjunction old ts all → IsConjunction new ts all
conjunction_later old new ts all e h = record { within = below_later old new all e h.within; is = same_later old new all e h.within ∙ h.is }

-- with one more term
pub conjunction_more : (mid new : List Term) (ts : List Term) (all : Option ℕ) (u : Term) (id more : ℕ) → IsConjunction mid ts all → tree_at mid id ≡ u
    → Holds new more (and_with (option_map (tree_at mid) all) (tree_at mid id)) → IsConjunction new (ts ++ u ∷ []) (Some more)
conjunction_more mid new ts all u id more h is made =
    record {
      within = id_below new more _ made;
      is = ap Some (id_is new more _ made ∙ ap (λ o. and_with o (tree_at mid id)) h.is ∙ ap (and_with (joined ts)) is) ∙ sym (joined-push ts u);
    }

-- with the next fact of some
pub conjunction_next : (runs : List Run) (first old new : List Term) (b : Block) (kept : List Reading) (i : ℕ) (all : Option ℕ) (id : ℕ) (r : Reading) → Extends first old → IsBlock first b
    → IsConjunction old (map (reading runs (numbers_of first b.numbers.items)) (map reading_of (take i kept))) all → slice_get kept i ≡ Some r
    → Holds new id (and_with (option_map (tree_at old) all) (reading runs (numbers_of old b.numbers.items) (reading_of r)))
    → IsConjunction new (map (reading runs (numbers_of first b.numbers.items)) (map reading_of (take (i + 1) kept))) (Some id)
conjunction_next runs first old new b kept i all id r grown is h at made =
    record {
      within = id_below new id _ made;
      is = ap Some
          (id_is new id _ made ∙ ap (λ o. and_with o (read (numbers_of old b.numbers.items) r)) h.is
          ∙ ap (λ (ns : List spec.Number). and_with (joined (terms (take i kept))) (read ns r)) (numbers_later first old (count_of b) b.numbers.items grown is.numbers))
          ∙ sym (ap joined next ∙ joined-push (terms (take i kept)) (read (numbers_of first b.numbers.items) r));
    }
  where
    read : List spec.Number → Reading → Term
    read ns q = reading runs ns (reading_of q)

    terms : List Reading → List Term
    terms rs = map (reading runs (numbers_of first b.numbers.items)) (map reading_of rs)

    taken : (xs : List Reading) (k : ℕ) → slice_get xs k ≡ Some r → take (suc k) xs ≡ take k xs ++ r ∷ []
    taken [] k e = absurd (cc)
    taken (x ∷ xs) zero e = ap (λ z. z ∷ []) (same_Some x r e)
    taken (x ∷ xs) (suc k) e = ap (λ l. x ∷ l) (taken xs k e)

    pushed : (xs : List Reading) → terms (xs ++ r ∷ []) ≡ terms xs ++ read (numbers_of first b.numbers.items) r ∷ []
    pushed [] = refl
    pushed (x ∷ xs) = ap (λ l. read (numbers_of first b.numbers.items) x ∷ l) (pushed xs)

    next : terms (take (i + 1) kept) ≡ terms (take i kept) ++ read (numbers_of first b.numbers.items) r ∷ []
    next =
        let one : i + 1 ≡ suc i = omega arith in
        ap (λ n. terms (take n kept)) one ∙ ap terms (taken kept i at) ∙ pushed (take i kept)

-- the goal that they are not all true
pub goal_is : (runs : List Run) (old new : List Term) (ts : List Term) (all : Option ℕ) (id : ℕ) → IsConjunction old ts all
    → Holds new id (not_joined runs (option_map (tree_at old) all)) → tree_at new id ≡ not_all runs ts
goal_is runs old new ts all id h made = id_is new id _ made ∙ ap (not_joined runs) h.is ∙ not_joined-is runs ts

-- with a case
pub case_is : (runs : List Run) (old new : List Term) (ts : List Term) (all : Option ℕ) (id : ℕ) (u : Term) → IsConjunction old ts all
    → Holds new id (not_joined runs (Some (and_with (option_map (tree_at old) all) u))) → Holds new id (not_all runs (ts ++ u ∷ []))
case_is runs old new ts all id u h made =
    made ∙ ap Some (ap (λ o. not_joined runs (Some (and_with o u))) h.is ∙ ap (not_joined runs) (sym (joined-push ts u)) ∙ not_joined-is runs (ts ++ u ∷ []))

-- ---- what is left

module _ (runs : List Run) (old new : List Term) (b : Block) (kept : List Reading) where
  abbrev readings : State → List Term
  readings s = map (reading runs s.numbers) (map reading_of kept)

  pub nothing_kept : AreFacts b kept false → (s : State) → Shows old b s → left runs s (Keep (map reading_of kept)) ≡ None
  unfolding left
  nothing_kept isnt s h = ap (λ p. cond p (Some (kept_goal runs s (map reading_of kept) [] ∷ [])) None) (isnt old s h)

  pub one_left : (id : ℕ) → AreFacts b kept true → tree_at new id ≡ not_all runs (map (reading runs (numbers_of old b.numbers.items)) (map reading_of kept))
      → (s : State) → Shows old b s → left runs s (Keep (map reading_of kept)) ≡ Some (tree_at new id ∷ [])
  unfolding left
  one_left id are is s h =
      ap (λ p. cond p (Some (kept_goal runs s (map reading_of kept) [] ∷ [])) None) (are.1 old s h)
      ∙ ap (λ t. Some (t ∷ []))
      (ap (not_all runs) (append-nil (readings s)) ∙ ap (λ (ns : List spec.Number). not_all runs (map (reading runs ns) (map reading_of kept))) h.numbers ∙ sym is)

  -- of a case
  abbrev outcome : State → ℕ → (p q : Bool) → Option (List Term)
  outcome s x p q =
      cond (p && q)
      (Some (kept_goal runs s (map reading_of kept) (signed true (rebuilt runs s.numbers x) ∷ [])
      ∷ kept_goal runs s (map reading_of kept) (signed false (rebuilt runs s.numbers x) ∷ []) ∷ []))
      None

  case_left : (s : State) (x : ℕ) → left runs s (Case (map reading_of kept) x) ≡ outcome s x (are_facts s.facts (map reading_of kept)) (is_case s x)
  unfolding left
  case_left s x = refl

  pub no_case : (x : ℕ) → IsBlock old b → IsCase b x None → (s : State) → Shows old b s → left runs s (Case (map reading_of kept) x) ≡ None
  no_case x is isnt s h = case_left s x ∙ ap (outcome s x (are_facts s.facts (map reading_of kept))) (isnt old s is h) ∙ by (are_facts s.facts (map reading_of kept))
    where
      by : (p : Bool) → outcome s x p false ≡ None
      by true = refl
      by false = refl

  pub no_facts_case : (x : ℕ) → AreFacts b kept false → (s : State) → Shows old b s → left runs s (Case (map reading_of kept) x) ≡ None
  no_facts_case x isnt s h = case_left s x ∙ ap (λ p. outcome s x p (is_case s x)) (isnt old s h)

  pub two_left : (x index first second : ℕ) → IsBlock old b → AreFacts b kept true → IsCase b x (Some index)
      → AreCaseGoals runs new (numbers_of old b.numbers.items) (map reading_of kept) (suc index) first second
      → (s : State) → Shows old b s → left runs s (Case (map reading_of kept) x) ≡ Some (tree_at new first ∷ tree_at new second ∷ [])
  two_left x index first second is are at goals s h =
      case_left s x ∙ ap (λ p. outcome s x p (is_case s x)) (are.1 old s h) ∙ ap (outcome s x true) (at.2 old s is h)
      ∙ ap (λ (ns : List spec.Number). of_numbers ns x) h.numbers ∙ ap (of_numbers (numbers_of old b.numbers.items)) at.0
      ∙ ap (λ t. Some (t ∷ ending (signed false (rebuilt runs (numbers_of old b.numbers.items) (suc index))) ∷ [])) (sym (id_is new first _ goals.first_holds))
      ∙ ap (λ t. Some (tree_at new first ∷ t ∷ [])) (sym (id_is new second _ goals.second_holds))
    where
      of_numbers : List spec.Number → ℕ → Option (List Term)
      of_numbers ns k =
          Some
          (not_all runs (map (reading runs ns) (map reading_of kept) ++ signed true (rebuilt runs ns k) ∷ [])
          ∷ not_all runs (map (reading runs ns) (map reading_of kept) ++ signed false (rebuilt runs ns k) ∷ []) ∷ [])

      ending : Term → Term
      ending u = not_all runs (map (reading runs (numbers_of old b.numbers.items)) (map reading_of kept) ++ u ∷ [])
