use Rattle.std.proofs.Common.{◌≡◌, ◌∙◌, true, false, refl, sym, subst, List, [], Bor, take_all, get_or}
use Rattle.std.specs.List.{IsDistinct}
use Rattle.tv_words.proofs.Lists.{Text, distinct_texts, seen_twice, seen_by_answer, same_text}
use Rattle.tv_words.proofs.list.are_new.Goals as goal

pub loop-text-init : goal.loop-text-init
unfolding IsDistinct
loop-text-init c = (c.requires, subst (λ (xs : List (Bor Text)). IsDistinct same_text xs) (sym c.requires) tt)

pub returns-then-not-branch : goal.returns-then-not-branch
returns-then-not-branch c = (
  λ no. let bad : false ≡ true = no in cc,
  λ apart. absurd (seen_twice c.args.texts.now c.loop-text.text-index (record { ref_ptr = (0, 0); now = [] }) c.loop-text-test.true
      (seen_by_answer c.loop-text.seen.keys _ (get_or c.args.texts.now c.loop-text.text-index (record { ref_ptr = (0, 0); now = [] })) c.in_ok-insert.field-0 c.in_ok-insert.ensures.added c.if-not-branch.true c.loop-text.invariant.0) apart),
)

pub returns : goal.returns
returns c = (
  λ yes. distinct_texts c.args.texts.now
      (subst (λ (xs : List (Bor Text)). IsDistinct same_text xs) (c.loop-text.invariant.0 ∙ take_all _ _ c.loop-text-test.false) c.loop-text.invariant.1),
  λ apart. refl,
)
