-- The line `comm`.
use Rattle.std.proofs.Common.{◌≡◌, ℕ, suc, ◌<◌, Bool, true, false, cond, List, [], length, Option, Some, None, refl, sym, ap, ◌∙◌}
use Rattle.std.specs.Prelude.{◌&&◌}
use Rattle.term_core_spec.specs.Term.{Term}
use Rattle.memory_spec.specs.Runs.{Run}
use Rattle.term_bank.specs.Nodes.{tree_at}
use Rattle.word_steps_spec.specs.Numbers as spec
use Rattle.word_steps_spec.specs.Numbers.{State, renew, is_number, are_facts, are_alike, term_at}
use Rattle.word_steps_spec.specs.Lines as lines
use Rattle.word_steps_spec.specs.Commuting.{same_up_to_order}
use Rattle.word_steps.specs.declared.merging.Pair.{Pair}
use Rattle.word_steps.specs.declared.block.Block.{Block}
use Rattle.word_steps.specs.Views.{number_in, no_number, count_of, numbers_of, merged_by_order}
use Rattle.word_steps.specs.Shows.{IsBlock, Shows}
use Rattle.word_steps.specs.Outcomes.{Becomes, IsRefused, ArePaired, TriesOne}
use Rattle.word_steps.proofs.Later.{number_at_is}

module _ (runs : List Run) (old : List Term) (b : Block) (is : IsBlock old b) (first second : ℕ) where
  abbrev next : State → Option State
  next s = lines.applied runs s (lines.MergeBy lines.Comm first second [])

  abbrev by_rule : (x y : ℕ) → State → Option State
  by_rule x y s = lines.merged runs lines.Comm x y [] (renew runs x s)

  abbrev result : State → (p q r : Bool) → Option State
  result s p q r = cond (p && (q && (r && true))) (by_rule first second s) None

  next_is : (s : State) → next s ≡ result s (is_number s.numbers first) (is_number s.numbers second) (are_alike (term_at s.numbers first) (term_at s.numbers second))
  unfolding lines.applied are_facts
  next_is s = refl

  pub unordered : ArePaired b first second None → IsRefused old b next
  unordered isnt s h = next_is s ∙ by (is_number s.numbers first) (is_number s.numbers second) (are_alike (term_at s.numbers first) (term_at s.numbers second)) (isnt old s is h)
    where
      by : (p q r : Bool) → (p && (q && r)) ≡ false → result s p q r ≡ None
      by false q r e = refl
      by true false r e = refl
      by true true false e = refl
      by true true true e = absurd (cc)

  -- where they are alike, the rule decides
  pub pair_goes : (pair : Pair) → ArePaired b first second (Some pair) → (s : State) → Shows old b s → merged_by_order runs pair.first pair.second s ≡ next s
  pair_goes pair paired s h =
      sym
      (next_is s ∙ by (is_number s.numbers first) (is_number s.numbers second) (are_alike (term_at s.numbers first) (term_at s.numbers second)) (paired.4 old s is h)
      ∙ ap (λ k. by_rule k second s) paired.0 ∙ ap (λ k. by_rule (suc pair.first) k s) paired.1)
    where
      by : (p q r : Bool) → (p && (q && r)) ≡ true → result s p q r ≡ by_rule first second s
      by true true true e = refl
      by true true false e = absurd (cc)
      by true false r e = absurd (cc)
      by false q r e = absurd (cc)

-- ---- a number that is renewed and merged

module _ (runs : List Run) (old mid : List Term) (b renewed : Block) (x y : ℕ) (in_x : x < count_of renewed) (in_y : y < count_of renewed)
    (becomes : Becomes old mid b renewed (renew runs (suc x))) where
  now_is : (i : ℕ) → i < count_of renewed → tree_at mid (number_in renewed.numbers.items i).now ≡ spec.now_at (numbers_of mid renewed.numbers.items) (suc i)
  now_is i less = sym (ap (λ (m : spec.Number). m.now) (number_at_is mid renewed.numbers.items i less))

  pub now_within : (i : ℕ) → i < count_of renewed → (number_in renewed.numbers.items i).now < length mid
  now_within i less = (becomes.block.numbers i no_number less).now

  abbrev test : Bool
  test = same_up_to_order (tree_at mid (number_in renewed.numbers.items x).now) (tree_at mid (number_in renewed.numbers.items y).now)

  abbrev choose : Bool → State → Option State
  choose p s = cond p (Some (lines.with_merge runs (suc x) (spec.Numbered (suc y)) (renew runs (suc x) s))) None

  merged_is : (s : State) → Shows old b s → merged_by_order runs x y s ≡ choose test s
  unfolding lines.merges_by
  merged_is s h =
      let shown = becomes.shows s h in
      ap (λ (ns : List spec.Number). choose (same_up_to_order (spec.now_at ns (suc x)) (spec.now_at ns (suc y))) s) shown.numbers
      ∙ ap (λ t. choose (same_up_to_order t (spec.now_at (numbers_of mid renewed.numbers.items) (suc y))) s) (sym (now_is x in_x))
      ∙ ap (λ t. choose (same_up_to_order (tree_at mid (number_in renewed.numbers.items x).now) t) s) (sym (now_is y in_y))

  pub not_merged : (new : List Term) (after : Block) → test ≡ false → TriesOne old new b after (merged_by_order runs x y) false
  not_merged new after e s h = merged_is s h ∙ ap (λ p. choose p s) e

  pub now_merged : (new : List Term) (after : Block) → test ≡ true → Becomes mid new renewed after (lines.with_merge runs (suc x) (spec.Numbered (suc y)))
      → TriesOne old new b after (merged_by_order runs x y) true
  now_merged new after e h = record {
    block = h.block;
    shows = λ s shown.
        record {
          state = lines.with_merge runs (suc x) (spec.Numbered (suc y)) (renew runs (suc x) s);
          is = merged_is s shown ∙ ap (λ p. choose p s) e;
          shows = h.shows (renew runs (suc x) s) (becomes.shows s shown);
        };
  }
