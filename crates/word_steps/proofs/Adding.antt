-- One more number.
use Rattle.std.proofs.Common.{◌≡◌, ℕ, suc, ◌+◌, ◌<◌, Bool, true, false, cond, List, [], ◌∷◌, ◌++◌, length, map, Option, Some, None, refl, sym, ap, ◌∙◌, subst, arith, length-append}
use Rattle.std.specs.Prelude.{◌&&◌, not, All}
use Rattle.std.proofs.lemmas.List.{map-append, length-map}
use Rattle.std.proofs.lemmas.List.Elements.{All-push, All-same}
use Rattle.std.proofs.lemmas.Option.{get_or_from_slice_get, slice_get_within}
use Rattle.term_core_spec.specs.declared.Atom.TheVariants as atom
use Rattle.term_core_spec.specs.declared.Width.{Width}
use Rattle.term_core_spec.specs.declared.Width.TheVariants.{W8, W16, W32, W64}
use Rattle.term_core_spec.specs.declared.BinaryOperator.TheVariants as binary
use Rattle.term_core_spec.specs.declared.Sort.{Sort}
use Rattle.term_core_spec.specs.declared.Sort.TheVariants as sort
use Rattle.term_core_spec.specs.Term as tree
use Rattle.term_core_spec.specs.Term.{Term}
use Rattle.term_core_spec.specs.Sort.{sort_of, sort_of_binary, with_two}
use Rattle.memory_spec.specs.Runs.{Run}
use Rattle.term_bank.specs.declared.node.TermNode.{TermNode}
use Rattle.term_bank.specs.Nodes.{IsNode, tree_at, build, Holds, Extends}
use Rattle.term_bank.specs.Subterms.{arguments_of}
use Rattle.term_sorts.specs.Sorts.{sort_of_node}
use Rattle.word_steps_spec.specs.Numbers as spec
use Rattle.word_steps_spec.specs.Numbers.{State, Operation, renew, term_over, at_places, made, operands, is_bool}
use Rattle.word_steps_spec.specs.Lines as lines
use Rattle.word_steps.specs.declared.number.Number.{Number}
use Rattle.word_steps.specs.declared.block.Block.{Block}
use Rattle.word_steps.specs.Views.{node_over, named, operation_of, before, no_number, term_in, count_of, new_number, are_below, numbers_of, number_of, sort_of_number, is_value_sort, marks_at}
use Rattle.word_steps.specs.Shows.{IsNumber, IsBlock, IsMarked, Shows}
use Rattle.word_steps.specs.Outcomes.{Becomes, BecomesSome, IsRefused, IsPushed}
use Rattle.word_steps.proofs.Operators.{build_over, over_within, node_wider, indices_within, indices_named, named_there}
use Rattle.word_steps.proofs.Later.{longer, all_of, numbers_later, sorts_later, number_wider, number_at_is}
use Rattle.word_steps.proofs.Noted.{number_among_more, marks-push, sort_of_over}

module _ (trees : List Term) (b : Block) (is : IsBlock trees b) (node : TermNode) (fits : IsNode (count_of b) node) where
  abbrev items : List Number
  items = b.numbers.items

  pub terms_within : IsNode (length trees) (node_over (term_in items) node)
  terms_within = over_within (term_in items) (count_of b) (length trees) node fits (λ i x less. (is.numbers x no_number less).term)

  -- its term is that of the operator over the terms of its arguments
  term_is : build trees (node_over (term_in items) node) ≡ term_over (numbers_of trees items) (operation_of node)
  term_is =
      build_over trees (λ i x. spec.term_at (numbers_of trees items) x) (term_in items) (count_of b) node fits
      (λ i x less. sym (ap (λ (m : spec.Number). m.term) (number_at_is trees items x less)))

  pub sort_is : sort_of_node b.sorts.items node ≡ sort_of (term_over (numbers_of trees items) (operation_of node))
  sort_is = ap (λ l. sort_of_node l node) is.sorts ∙ sort_of_over trees items node fits ∙ ap sort_of term_is

  module _ (grown : List Term) (after : Block) (term : ℕ) (s : Option Sort) (grows : Extends trees grown) (holds : Holds grown term (build trees (node_over (term_in items) node)))
      (sorted : s ≡ sort_of_node b.sorts.items node) (pushed : IsPushed b after (new_number node term) s) where
    abbrev n : Number
    n = new_number node term

    term_here : tree_at grown term ≡ term_over (numbers_of trees items) (operation_of node)
    term_here = get_or_from_slice_get grown term _ (tree.Leaf (atom.Truth false)) holds ∙ term_is

    count_then : count_of after ≡ count_of b + 1
    count_then = omega (arith, ap length pushed.numbers, length-append items (n ∷ []))

    wider : (x : Number) → IsNumber (length trees) (count_of b) x → IsNumber (length grown) (count_of b + 1) x
    wider x h = number_among_more (length grown) (count_of b) (count_of b + 1) (omega arith) x (number_wider (length trees) (length grown) (count_of b) (longer trees grown grows) x h)

    is_n : IsNumber (length grown) (count_of b + 1) n
    is_n =
        let within = slice_get_within grown term _ holds in
        record { operation = node_wider (count_of b) (count_of b + 1) node (omega arith) fits; term = within; now = within; merged = tt }

    block_then : IsBlock grown after
    block_then = record {
      numbers = subst (λ c. All (IsNumber (length grown) c) after.numbers.items) (sym count_then)
          (All-same (IsNumber (length grown) (count_of b + 1)) after.numbers.items (items ++ n ∷ []) pushed.numbers
          (All-push (IsNumber (length grown) (count_of b + 1)) items n (all_of (IsNumber (length trees) (count_of b)) (IsNumber (length grown) (count_of b + 1)) items wider is.numbers) is_n));
      sorts = pushed.sorts ∙ ap (λ l. l ++ s ∷ []) (is.sorts ∙ sym (sorts_later trees grown (count_of b) items grows is.numbers))
          ∙ ap (λ t. map (sort_of_number grown) items ++ t ∷ []) (sorted ∙ sort_is ∙ ap sort_of (sym term_here))
          ∙ sym (map-append (sort_of_number grown) items (n ∷ [])) ∙ sym (ap (map (sort_of_number grown)) pushed.numbers);
    }

    -- a state with the number, which isn't renewed yet
    abbrev pub with_new : Operation ℕ → State → State
    with_new operation st = record st { numbers = st.numbers ++ lines.new_number st.numbers operation ∷ [] }

    module _ (st : State) (h : Shows trees b st) where
      new_is : lines.new_number st.numbers (operation_of node) ≡ number_of grown n
      new_is =
          ap (λ (ms : List spec.Number). lines.new_number ms (operation_of node)) h.numbers
          ∙ ap of_term (sym term_here)
        where
          of_term : Term → spec.Number
          of_term t = record { operation = operation_of node; term = t; now = t }

      shown_then : Shows grown after (with_new (operation_of node) st)
      shown_then = record {
        numbers = ap (λ m. st.numbers ++ m ∷ []) new_is
            ∙ ap (λ ms. ms ++ number_of grown n ∷ []) (h.numbers ∙ sym (numbers_later trees grown (count_of b) items grows is.numbers))
            ∙ sym (map-append (number_of grown) items (n ∷ [])) ∙ sym (ap (numbers_of grown) pushed.numbers);
        marked = λ k.
            subst (IsMarked (with_new (operation_of node) st) k) (sym (ap (λ l. marks_at l k) pushed.numbers ∙ marks-push items n k refl))
            (let m = h.marked k in record { known = m.known; facts = m.facts; merged = m.merged });
        changes = h.changes ∙ sym pushed.changes;
        sweeps = h.sweeps ∙ sym pushed.sweeps;
      }

      count_shown : length st.numbers ≡ count_of b
      count_shown = ap length h.numbers ∙ length-map items (number_of trees)

    pub added_block : IsBlock grown after
    added_block = block_then

    pub index_within : count_of b < count_of after
    index_within = omega (arith, count_then)

    -- and then it is renewed
    pub added : (runs : List Run) (later : List Term) (last : Block) → Becomes grown later after last (renew runs (suc (count_of b)))
        → Becomes trees later b last (lines.with_number runs (operation_of node))
    added runs later last h = record {
      block = h.block;
      shows = λ st shown.
          subst (λ k. Shows later last (renew runs (suc k) (with_new (operation_of node) st))) (sym (count_shown st shown)) (h.shows (with_new (operation_of node) st) (shown_then st shown));
    }

-- ---- the line `t`

-- a value is one where its sort is
value_is : (t : Term) (o : Option Sort) → sort_of t ≡ o → lines.is_value t ≡ is_value_sort o
unfolding sort_of sort_of_binary
value_is t (Some sort.Truth) e = rw e refl
value_is t (Some (sort.Word w)) e = rw e (by w)
  where
    by : (v : Width) → spec.has_sort (with_two (sort_of_binary binary.Equal) (Some (sort.Word v)) (Some (sort.Word v))) sort.Truth ≡ true
    by W8 = refl
    by W16 = refl
    by W32 = refl
    by W64 = refl
value_is t (Some sort.Memory) e = rw e refl
value_is t None e = rw e refl

module _ (runs : List Run) (trees : List Term) (b : Block) (is : IsBlock trees b) (node : TermNode) where
  abbrev next : State → Option State
  next s = lines.applied runs s (lines.Next (named node))

  count_is : (s : State) → Shows trees b s → length s.numbers ≡ count_of b
  count_is s h = ap length h.numbers ∙ length-map b.numbers.items (number_of trees)

  there_is : (s : State) → Shows trees b s → lines.are_numbers s.numbers (operands (named node)) ≡ are_below (count_of b) (arguments_of node)
  there_is s h = named_there s.numbers node ∙ ap (λ k. are_below k (arguments_of node)) (count_is s h)

  abbrev result : State → (p q r : Bool) → Option State
  result s p q r = cond (p && (not q && r)) (Some (lines.with_number runs (named node) s)) None

  next_is : (s : State) → Shows trees b s
      → next s ≡ result s (are_below (count_of b) (arguments_of node)) (lines.is_open (named node)) (lines.is_value (term_over s.numbers (named node)))
  unfolding lines.applied
  next_is s h = ap (λ p. result s p (lines.is_open (named node)) (lines.is_value (term_over s.numbers (named node)))) (there_is s h)

  pub not_there : (are_below (count_of b) (arguments_of node) ≡ false) → IsRefused trees b next
  not_there e s h = next_is s h ∙ ap (λ p. result s p (lines.is_open (named node)) (lines.is_value (term_over s.numbers (named node)))) e

  pub is_variable : lines.is_open (named node) ≡ true → IsRefused trees b next
  is_variable e s h =
      next_is s h ∙ ap (λ q. result s (are_below (count_of b) (arguments_of node)) q (lines.is_value (term_over s.numbers (named node)))) e
      ∙ by (are_below (count_of b) (arguments_of node)) (lines.is_value (term_over s.numbers (named node)))
    where
      by : (p r : Bool) → result s p true r ≡ None
      by true r = refl
      by false r = refl

  module _ (here : are_below (count_of b) (arguments_of node) ≡ true) where
    abbrev over : TermNode
    over = node_over before node

    pub over_fits : IsNode (count_of b) over
    over_fits = indices_within (count_of b) node here

    over_named : operation_of over ≡ named node
    over_named = indices_named (count_of b) node here

    term_named : (s : State) → Shows trees b s → sort_of (term_over s.numbers (named node)) ≡ sort_of_node b.sorts.items over
    term_named s h =
        ap (λ (ms : List spec.Number). sort_of (term_over ms (named node))) h.numbers ∙ ap (λ o. sort_of (term_over (numbers_of trees b.numbers.items) o)) (sym over_named)
        ∙ sym (sort_is trees b is over over_fits)

    value_named : (s : State) → Shows trees b s → lines.is_value (term_over s.numbers (named node)) ≡ is_value_sort (sort_of_node b.sorts.items over)
    value_named s h = value_is (term_over s.numbers (named node)) (sort_of_node b.sorts.items over) (term_named s h)

    pub no_value : is_value_sort (sort_of_node b.sorts.items over) ≡ false → IsRefused trees b next
    no_value e s h =
        next_is s h ∙ ap (result s (are_below (count_of b) (arguments_of node)) (lines.is_open (named node))) (value_named s h ∙ e)
        ∙ by (are_below (count_of b) (arguments_of node)) (lines.is_open (named node))
      where
        by : (p q : Bool) → result s p q false ≡ None
        by true true = refl
        by true false = refl
        by false q = refl

    pub is_taken : (later : List Term) (last : Block) → lines.is_open (named node) ≡ false → is_value_sort (sort_of_node b.sorts.items over) ≡ true
        → Becomes trees later b last (lines.with_number runs (operation_of over)) → BecomesSome trees later b last next
    is_taken later last e f h = record {
      block = h.block;
      shows = λ s shown.
          record {
            state = lines.with_number runs (named node) s;
            is = next_is s shown ∙ ap (λ p. result s p (lines.is_open (named node)) (lines.is_value (term_over s.numbers (named node)))) here
                ∙ ap (λ q. result s true q (lines.is_value (term_over s.numbers (named node)))) e ∙ ap (result s true false) (value_named s shown ∙ f);
            shows = subst (λ o. Shows later last (lines.with_number runs o s)) over_named (h.shows s shown);
          };
    }
