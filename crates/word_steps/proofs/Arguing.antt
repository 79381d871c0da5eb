-- What a fact says of its arguments.
use Rattle.std.proofs.Common.{◌≡◌, ℕ, zero, suc, ◌-◌, ◌<◌, ◌≤◌, Bool, true, false, cond, List, [], ◌∷◌, length, get_or, Option, Some, None, refl, sym, ap, ◌∙◌, subst, arith, append-nil}
use Rattle.std.proofs.lemmas.Bool.{eqb-false, ltb-true, ltb-false}
use Rattle.std.specs.Prelude.{◌==◌, ◌||◌, nat_lt, option_map, option_and_then, unwrap_or}
use Rattle.term_core_spec.specs.declared.Sort.TheVariants as sort
use Rattle.term_core_spec.specs.Term.{Term, truth}
use Rattle.term_core_spec.specs.Sort.{sort_of}
use Rattle.memory_spec.specs.Runs.{Run}
use Rattle.term_norm_spec.specs.Normal.{normal}
use Rattle.term_bank.specs.Nodes.{tree_at, Extends}
use Rattle.term_bank.specs.Subterms.{arguments_of}
use Rattle.word_steps_spec.specs.Numbers as spec
use Rattle.word_steps_spec.specs.Numbers.{State, is_bool, has_sort, operand_at, operands, at_places, made, is_fact}
use Rattle.word_steps_spec.specs.Lines as lines
use Rattle.word_steps.specs.declared.number.Fact.{Fact}
use Rattle.word_steps.specs.declared.number.Number.{Number}
use Rattle.word_steps.specs.declared.block.Block.{Block}
use Rattle.word_steps.specs.Views.{number_in, no_number, count_of, marks_at, unmarked, has_fact, numbers_of, sort_in, sort_of_number, index_below, place_of, form_with, fact_at, with_said, with_all_places}
use Rattle.word_steps.specs.Shows.{IsBlock, Shows}
use Rattle.word_steps.specs.Outcomes.{Becomes, Tries, IsFactIndex}
use Rattle.word_steps.proofs.Operators.{operand_is, operand_count, argument_within}
use Rattle.word_steps.proofs.Later.{numbers_later, block_later, shows_later, becomes_same, becomes_then, number_at_is}
use Rattle.word_steps.proofs.Renewals.{form_is, operation_at_is, is_number}
use Rattle.std.proofs.lemmas.List.{get_or-map}
use Rattle.std.proofs.lemmas.Option.{same_Some}

-- ---- a fact that a line names

pub marked_at : (trees : List Term) (b : Block) (s : State) (k : ℕ) (holds : Bool) → Shows trees b s → is_fact s.facts (record { number = k; holds = holds }) ≡ has_fact (marks_at b.numbers.items k) holds
marked_at trees b s k holds h = (h.marked k).facts holds

pub fact_index_some : (b : Block) (f : Fact) (index : ℕ) → f.number ≡ suc index → index < count_of b → has_fact (number_in b.numbers.items index).marks f.holds ≡ true
    → IsFactIndex b f (Some index)
unfolding marks_at
fact_index_some b f index e less here =
    (e, less, λ trees s h. subst (λ k. is_fact s.facts (record { number = k; holds = f.holds }) ≡ true) (sym e) (marked_at trees b s (suc index) f.holds h ∙ here))

nothing_holds : (holds : Bool) → has_fact unmarked holds ≡ false
nothing_holds true = refl
nothing_holds false = refl

pub fact_index_not : (b : Block) (f : Fact) (index : ℕ) → f.number ≡ suc index → has_fact (number_in b.numbers.items index).marks f.holds ≡ false → IsFactIndex b f None
unfolding marks_at
fact_index_not b f index e here =
    λ trees s h. subst (λ k. is_fact s.facts (record { number = k; holds = f.holds }) ≡ false) (sym e) (marked_at trees b s (suc index) f.holds h ∙ here)

-- beyond the numbers nothing is marked
beyond : (xs : List Number) (k : ℕ) → index_below (length xs) k ≡ None → marks_at xs k ≡ unmarked
unfolding marks_at
beyond xs zero e = refl
beyond xs (suc i) e = ap (λ (n : Number). n.marks) (none xs i (by (nat_lt (suc i - 1) (length xs)) refl (ap (λ b. cond b None (cond (nat_lt (suc i - 1) (length xs)) (Some (suc i - 1)) None)) (sym above) ∙ e)))
  where
    above : (suc i == 0) ≡ false
    above = search arith

    by : (test : Bool) → nat_lt (suc i - 1) (length xs) ≡ test → cond test (Some (suc i - 1)) None ≡ None → length xs ≤ i
    by true f g = absurd (cc)
    by false f g = omega (arith, ltb-false (suc i - 1) (length xs) f)

    none : (ys : List Number) (j : ℕ) → length ys ≤ j → get_or ys j no_number ≡ no_number
    none [] zero le = refl
    none [] (suc j) le = refl
    none (y ∷ ys) zero le = absurd (omega (arith, le))
    none (y ∷ ys) (suc j) le = none ys j (omega (arith, le))

pub fact_index_none : (b : Block) (f : Fact) → index_below (count_of b) f.number ≡ None → IsFactIndex b f None
fact_index_none b f e =
    λ trees s h. marked_at trees b s f.number f.holds h ∙ ap (λ m. has_fact m f.holds) (beyond b.numbers.items f.number e) ∙ nothing_holds f.holds

-- an index that is found
pub index_is_below : (count number index : ℕ) → Some index ≡ index_below count number → (number ≡ suc index) × (index < count)
index_is_below count number index e = by (number == 0) (nat_lt (number - 1) count) refl refl e
  where
    by : (p q : Bool) → (number == 0) ≡ p → nat_lt (number - 1) count ≡ q → Some index ≡ cond p None (cond q (Some (number - 1)) None) → (number ≡ suc index) × (index < count)
    by true q f g h = absurd (cc)
    by false false f g h = absurd (cc)
    by false true f g h =
        let is : index ≡ number - 1 = same_Some index (number - 1) h in
        (omega (arith, is, eqb-false number 0 f), omega (arith, is, ltb-true (number - 1) count g))

-- ---- what a fact says of one argument

module _ (runs : List Run) (trees : List Term) (b : Block) (is : IsBlock trees b) (index : ℕ) (less : index < count_of b) (holds : Bool) where
  abbrev ns : List spec.Number
  ns = numbers_of trees b.numbers.items

  abbrev n : Number
  n = number_in b.numbers.items index

  -- the test of an argument's value, over a bank that has grown
  pub refuted_is : (grown : List Term) (place id : ℕ) (value : Bool) → Extends trees grown → tree_at grown id ≡ truth value
      → form_with runs grown b.numbers.items index place id ≡ lines.with_truth_at runs ns (suc index) place value
  refuted_is grown place id value e here =
      form_is runs grown b (block_later trees grown b e is) index less place id
      ∙ ap (λ (ms : List spec.Number). normal runs (made (at_places (λ i x. cond (i == place) (tree_at grown id) (spec.now_at ms x)) (spec.operation_at ms (suc index)))))
      (numbers_later trees grown (count_of b) b.numbers.items e is.numbers)
      ∙ ap (λ t. normal runs (made (at_places (λ i x. cond (i == place) t (spec.now_at ns x)) (spec.operation_at ns (suc index))))) here

  -- whether an argument is a truth value
  pub bool_is : (other : ℕ) → other < count_of b → has_sort (sort_in b.sorts.items other) sort.Truth ≡ is_bool (spec.term_at ns (suc other))
  bool_is other below =
      ap (λ o. has_sort o sort.Truth)
      (ap (λ l. sort_in l other) is.sorts ∙ get_or-map (sort_of_number trees) b.numbers.items other no_number None below
      ∙ ap (λ (m : spec.Number). sort_of m.term) (sym (number_at_is trees b.numbers.items other below)))

  module _ (place other : ℕ) where
    abbrev says : Option spec.Fact
    says = lines.argument_fact runs ns (fact_at index holds) place (suc other)

    abbrev tests : (p q r : Bool) → Option spec.Fact
    tests p q r = cond p (cond q (Some (fact_at other false)) (cond r (Some (fact_at other true)) None)) None

    abbrev is_p : Bool
    is_p = is_bool (spec.term_at ns (suc other))

    abbrev is_q : Bool
    is_q = lines.is_refuted_by runs ns (fact_at index holds) place true

    abbrev is_r : Bool
    is_r = lines.is_refuted_by runs ns (fact_at index holds) place false

    pub says_no_bool : is_p ≡ false → option_map (fact_at other) None ≡ says
    says_no_bool e = sym (ap (λ p. tests p is_q is_r) e)

    pub says_false : is_p ≡ true → is_q ≡ true → option_map (fact_at other) (Some false) ≡ says
    says_false e f = sym (ap (λ p. tests p is_q is_r) e ∙ ap (λ q. tests true q is_r) f)

    pub says_true : is_p ≡ true → is_q ≡ false → is_r ≡ true → option_map (fact_at other) (Some true) ≡ says
    says_true e f g = sym (ap (λ p. tests p is_q is_r) e ∙ ap (λ q. tests true q is_r) f ∙ ap (tests true false) g)

    pub says_nothing : is_p ≡ true → is_q ≡ false → is_r ≡ false → option_map (fact_at other) None ≡ says
    says_nothing e f g = sym (ap (λ p. tests p is_q is_r) e ∙ ap (λ q. tests true q is_r) f ∙ ap (tests true false) g)

  -- ---- a step by one argument

  module _ (place : ℕ) where
    abbrev next : State → Option State
    next = lines.with_argument_fact runs (fact_at index holds) place

    abbrev from : State → Option ℕ → Option State
    from s o = option_and_then (λ x. option_and_then (λ g. Some (lines.with_fact runs g s)) (lines.argument_fact runs ns (fact_at index holds) place x)) o

    next_is : (s : State) → Shows trees b s → next s ≡ from s (option_map suc (place_of (arguments_of n.operation) place))
    next_is s h =
        ap
        (λ (ms : List spec.Number). option_and_then (λ x. option_and_then (λ g. Some (lines.with_fact runs g s)) (lines.argument_fact runs ms (fact_at index holds) place x)) (operand_at place (spec.operation_at ms (suc index))))
        h.numbers
        ∙ ap (from s) (ap (operand_at place) (operation_at_is runs trees b is index less) ∙ operand_is n.operation place)

    pub no_argument : (grown : List Term) → Extends trees grown → None ≡ place_of (arguments_of n.operation) place → Tries trees grown b b next false
    no_argument grown e none = ((λ s h. next_is s h ∙ ap (λ o. from s (option_map suc o)) (sym none)), becomes_same trees grown b e is)

    module _ (other : ℕ) (at : Some other ≡ place_of (arguments_of n.operation) place) where
      pub other_within : other < count_of b
      other_within = argument_within (count_of b) n.operation place other (is_number runs trees b is index less).operation (sym at)

      -- the same of the argument that is found
      pub said_is : (s : State) → Shows trees b s → with_said runs ns (fact_at index holds) place (suc other) s ≡ next s
      said_is s h = sym (next_is s h ∙ ap (λ o. from s (option_map suc o)) (sym at))

  -- what is said of one argument
  module _ (place other : ℕ) where
    abbrev said : State → Option State
    said = with_said runs ns (fact_at index holds) place (suc other)

    pub no_value : (grown : List Term) → Extends trees grown → option_map (fact_at other) None ≡ lines.argument_fact runs ns (fact_at index holds) place (suc other)
        → Tries trees grown b b said false
    no_value grown e none = ((λ s h. ap (λ o. option_and_then (λ g. Some (lines.with_fact runs g s)) o) (sym none)), becomes_same trees grown b e is)

    pub a_value : (grown later : List Term) (after : Block) (value : Bool) → Extends trees grown
        → option_map (fact_at other) (Some value) ≡ lines.argument_fact runs ns (fact_at index holds) place (suc other)
        → Becomes grown later b after (lines.with_fact runs (fact_at other value)) → Tries trees later b after said true
    a_value grown later after value e some becomes = record {
      block = becomes.block;
      shows = λ s h.
          record {
            state = lines.with_fact runs (fact_at other value) s;
            is = ap (λ o. option_and_then (λ g. Some (lines.with_fact runs g s)) o) (sym some);
            shows = becomes.shows s (shows_later trees grown b s e is h);
          };
    }

-- ---- all arguments

module _ (runs : List Run) (f : spec.Fact) where
  -- what the places up to one give
  abbrev up_to : ℕ → State → Option State
  up_to i s = lines.with_places runs f i s

  abbrev one : ℕ → State → Option State
  one i s = lines.with_argument_fact runs f i s

  pub nothing_yet : (trees : List Term) (b : Block) → IsBlock trees b → Tries trees trees b b (up_to 0) false
  unfolding lines.with_places
  nothing_yet trees b is = ((λ s h. refl), becomes_same trees trees b (no_more trees) is)
    where
      no_more : (ts : List Term) → Extends ts ts
      no_more ts = ([], sym (append-nil ts))

  abbrev next_of : ℕ → State → Option State → Option State
  next_of i s o = lines.with_next_place runs f (suc i) s o

  module _ (first old new : List Term) (before mid after : Block) (i : ℕ) where
    neither : Tries first old before mid (up_to i) false → Tries old new mid after (one (suc i)) false → Tries first new before after (up_to (suc i)) false
    unfolding lines.with_places
    neither h k =
        ((λ s shown. ap (next_of i s) (h.0 s shown) ∙ k.0 s (h.1.shows s shown)), becomes_then first old new before mid after (λ s. s) (λ s. s) h.1 k.1)

    only_second : Tries first old before mid (up_to i) false → Tries old new mid after (one (suc i)) true → Tries first new before after (up_to (suc i)) true
    unfolding lines.with_places
    only_second h k = record {
      block = k.block;
      shows = λ s shown. let then = k.shows s (h.1.shows s shown) in record { state = then.state; is = ap (next_of i s) (h.0 s shown) ∙ then.is; shows = then.shows };
    }

    only_first : Tries first old before mid (up_to i) true → Tries old new mid after (one (suc i)) false → Tries first new before after (up_to (suc i)) true
    unfolding lines.with_places
    only_first h k = record {
      block = k.1.block;
      shows = λ s shown.
          let then = h.shows s shown in
          record {
            state = then.state;
            is = ap (next_of i s) then.is ∙ ap (λ o. Some (unwrap_or o then.state)) (k.0 then.state then.shows);
            shows = k.1.shows then.state then.shows;
          };
    }

    both : Tries first old before mid (up_to i) true → Tries old new mid after (one (suc i)) true → Tries first new before after (up_to (suc i)) true
    unfolding lines.with_places
    both h k = record {
      block = k.block;
      shows = λ s shown.
          let then = h.shows s shown in
          let last = k.shows then.state then.shows in
          record { state = last.state; is = ap (next_of i s) then.is ∙ ap (λ o. Some (unwrap_or o then.state)) last.is; shows = last.shows };
    }

    pub one_more : (found more : Bool) → Tries first old before mid (up_to i) found → Tries old new mid after (one (suc i)) more
        → Tries first new before after (up_to (suc i)) (found || more)
    one_more false false h k = neither h k
    one_more false true h k = only_second h k
    one_more true false h k = only_first h k
    one_more true true h k = both h k

-- the same step by another name
pub tries_as : (old new : List Term) (b after : Block) (g h : State → Option State) (found : Bool) → ((s : State) → Shows old b s → g s ≡ h s)
    → Tries old new b after g found → Tries old new b after h found
tries_as old new b after g h true same t = record {
  block = t.block;
  shows = λ s shown. let then = t.shows s shown in record { state = then.state; is = sym (same s shown) ∙ then.is; shows = then.shows };
}
tries_as old new b after g h false same t = ((λ s shown. sym (same s shown) ∙ t.0 s shown), t.1)

pub tries_block : (old new : List Term) (b after : Block) (g : State → Option State) (found : Bool) → Tries old new b after g found → IsBlock new after
tries_block old new b after g true t = t.block
tries_block old new b after g false t = t.1.block

-- all places of an operator
pub all_places : (runs : List Run) (trees : List Term) (b : Block) (index : ℕ) (holds : Bool) (count : ℕ) → IsBlock trees b → index < count_of b
    → count ≡ length (arguments_of (number_in b.numbers.items index).operation) → (s : State) → Shows trees b s
    → lines.with_places runs (fact_at index holds) count s ≡ with_all_places runs (fact_at index holds) s
all_places runs trees b index holds count is less e s h =
    ap (λ k. lines.with_places runs (fact_at index holds) k s)
    (e ∙ sym (operand_count (number_in b.numbers.items index).operation) ∙ ap (λ o. length (operands o)) (sym (operation_at_is runs trees b is index less))
    ∙ ap (λ (ns : List spec.Number). length (operands (spec.operation_at ns (suc index)))) (sym h.numbers))
