-- Lines that are taken or refused: renewals, and what facts say of arguments.
use Rattle.std.proofs.Common.{◌≡◌, ℕ, suc, ◌+◌, ◌<◌, ◌≤◌, Bool, true, false, cond, List, length, map, Option, Some, None, sym, ap, ◌∙◌, subst, arith}
use Rattle.std.specs.Prelude.{nat_lt, is_some, All}
use Rattle.std.proofs.lemmas.Bool.{lt-ltb, le-ltb}
use Rattle.std.proofs.lemmas.List.{length-map}
use Rattle.term_core_spec.specs.Term.{Term}
use Rattle.memory_spec.specs.Runs.{Run}
use Rattle.word_steps_spec.specs.Numbers as spec
use Rattle.word_steps_spec.specs.Numbers.{State, is_number, is_fact, renew}
use Rattle.word_steps_spec.specs.Lines as lines
use Rattle.word_steps.specs.declared.number.Fact.{Fact}
use Rattle.word_steps.specs.declared.block.Block.{Block}
use Rattle.word_steps.specs.Views.{index_below, count_of, number_of, numbers_of, sort_of_number, marks_at, fact_of, fact_at, renewed_up_to}
use Rattle.word_steps.specs.Shows.{IsNumber, IsBlock, IsMarked, Shows}
use Rattle.word_steps.specs.Outcomes.{Becomes, BecomesSome, IsRefused, Tries, IsFactIndex}
use Rattle.term_norm.proofs.Growth.{extends_same}
use Rattle.word_steps.proofs.Operators.{is_number_below}
use Rattle.word_steps.proofs.Later.{becomes_same, becomes_then}

-- ---- a number that a line names

pub number_there : (trees : List Term) (b : Block) (s : State) (k : ℕ) → Shows trees b s → is_number s.numbers k ≡ is_some (index_below (count_of b) k)
number_there trees b s k h = is_number_below s.numbers k ∙ ap (λ n. is_some (index_below n k)) (ap length h.numbers ∙ length-map b.numbers.items (number_of trees))

module _ (runs : List Run) (old : List Term) (b : Block) (number : ℕ) where
  abbrev renewing : State → Option State
  renewing s = lines.applied runs s (lines.Renew number)

  abbrev outcome : State → Bool → Option State
  outcome s p = cond p (Some (renew runs number s)) None

  renewing_is : (s : State) → Shows old b s → renewing s ≡ outcome s (is_some (index_below (count_of b) number))
  unfolding lines.applied
  renewing_is s h = ap (outcome s) (number_there old b s number h)

  pub no_number : None ≡ index_below (count_of b) number → IsRefused old b renewing
  no_number e s h = renewing_is s h ∙ ap (λ o. outcome s (is_some o)) (sym e)

  pub renewed_one : (index : ℕ) (new : List Term) (after : Block) → Some index ≡ index_below (count_of b) number → number ≡ suc index
      → Becomes old new b after (renew runs (suc index)) → BecomesSome old new b after renewing
  renewed_one index new after e is h = record {
    block = h.block;
    shows = λ s shown.
        record {
          state = renew runs number s;
          is = renewing_is s shown ∙ ap (λ o. outcome s (is_some o)) (sym e);
          shows = subst (λ k. Shows new after (renew runs k s)) (sym is) (h.shows s shown);
        };
  }

-- ---- all numbers

abbrev counted : State → State
counted s = record s { sweeps = s.sweeps + 1 }

pub sweep_noted : (trees : List Term) (b after : Block) → after.numbers.items ≡ b.numbers.items → after.sorts.items ≡ b.sorts.items → after.changes ≡ b.changes
    → after.sweeps ≡ b.sweeps + 1 → IsBlock trees b → Becomes trees trees b after counted
sweep_noted trees b after items sorts changes sweeps is = record {
  block = record {
    numbers = subst (λ l. All (IsNumber (length trees) (length l)) l) (sym items) is.numbers;
    sorts = sorts ∙ is.sorts ∙ sym (ap (map (sort_of_number trees)) items);
  };
  shows = λ s h.
      record {
        numbers = h.numbers ∙ sym (ap (numbers_of trees) items);
        marked = λ k. subst (λ l. IsMarked (counted s) k (marks_at l k)) (sym items) (let m = h.marked k in record { known = m.known; facts = m.facts; merged = m.merged });
        changes = h.changes ∙ sym changes;
        sweeps = ap (λ n. n + 1) h.sweeps ∙ sym sweeps;
      };
}

module _ (runs : List Run) (old : List Term) (b : Block) where
  abbrev sweeping : State → Option State
  sweeping s = lines.applied runs s lines.RenewAll

  abbrev swept : State → Bool → Option State
  swept s p = cond p (Some (spec.renew_up_to runs (length s.numbers) (counted s))) None

  pub too_many : lines.SWEEPS ≤ b.sweeps → IsRefused old b sweeping
  unfolding lines.applied
  too_many le s h = ap (swept s) (ap (λ n. nat_lt n lines.SWEEPS) h.sweeps ∙ le-ltb b.sweeps lines.SWEEPS le)

  pub swept_all : (new : List Term) (noted after : Block) → b.sweeps < lines.SWEEPS → Becomes old old b noted counted → count_of noted ≡ count_of b
      → Becomes old new noted after (renewed_up_to runs (count_of noted)) → BecomesSome old new b after sweeping
  unfolding lines.applied
  swept_all new noted after less first same h = record {
    block = h.block;
    shows = λ s shown.
        record {
          state = spec.renew_up_to runs (length s.numbers) (counted s);
          is = ap (swept s) (ap (λ n. nat_lt n lines.SWEEPS) shown.sweeps ∙ lt-ltb b.sweeps lines.SWEEPS less);
          shows = subst (λ n. Shows new after (spec.renew_up_to runs n (counted s)))
              (same ∙ sym (ap length shown.numbers ∙ length-map b.numbers.items (number_of old)))
              (h.shows (counted s) (first.shows s shown));
        };
  }

-- one number after the other
pub sweep_start : (runs : List Run) (trees : List Term) (b : Block) → IsBlock trees b → Becomes trees trees b b (renewed_up_to runs 0)
unfolding spec.renew_up_to
sweep_start runs trees b is = becomes_same trees trees b (extends_same trees) is

pub sweep_next : (runs : List Run) (first old new : List Term) (before mid after : Block) (i : ℕ) → Becomes first old before mid (renewed_up_to runs i)
    → Becomes old new mid after (renew runs (suc i)) → Becomes first new before after (renewed_up_to runs (i + 1))
unfolding spec.renew_up_to
sweep_next runs first old new before mid after i h k =
    let one : suc i ≡ i + 1 = omega arith in
    subst (λ n. Becomes first new before after (renewed_up_to runs n)) one more
  where
    more : Becomes first new before after (renewed_up_to runs (suc i))
    more = becomes_then first old new before mid after (renewed_up_to runs i) (renew runs (suc i)) h k

-- ---- what a fact says

module _ (old : List Term) (b : Block) (fact : Fact) (step : spec.Fact → State → Option State) where
  abbrev line : State → Option State
  line s = cond (is_fact s.facts (fact_of fact)) (step (fact_of fact) s) None

  pub no_fact : IsFactIndex b fact None → IsRefused old b line
  no_fact isnt s h = ap (λ p. cond p (step (fact_of fact) s) None) (isnt old s h)

  module _ (index : ℕ) (there : IsFactIndex b fact (Some index)) where
    fact_is : fact_of fact ≡ fact_at index fact.holds
    fact_is = ap of_number there.0
      where
        of_number : ℕ → spec.Fact
        of_number k = record { number = k; holds = fact.holds }

    line_is : (s : State) → Shows old b s → line s ≡ step (fact_at index fact.holds) s
    line_is s h = ap (λ p. cond p (step (fact_of fact) s) None) (there.2 old s h) ∙ ap (λ f. step f s) fact_is

    pub says_something : (new : List Term) (after : Block) → Tries old new b after (step (fact_at index fact.holds)) true → BecomesSome old new b after line
    says_something new after t = record {
      block = t.block;
      shows = λ s shown. let then = t.shows s shown in record { state = then.state; is = line_is s shown ∙ then.is; shows = then.shows };
    }

    pub says_nothing : (new : List Term) (after : Block) → Tries old new b after (step (fact_at index fact.holds)) false → IsRefused old b line
    says_nothing new after t s shown = line_is s shown ∙ t.0 s shown
