use Rattle.std.proofs.Common.{rules, ◌≡◌, ◌∙◌, ◌+◌, ◌++◌, ◌∷◌, [], length, take, drop, true, false, ap, sym, take_all}
use Rattle.std.specs.Prelude.{not}
use Rattle.std.proofs.lemmas.List.{take_more, take-append-drop}
use Rattle.clause_check_spec.specs.Step.{finding}
use Rattle.clause_check.specs.Signs.{is_sign, sign_of}
use Rattle.clause_check.specs.Answers.{reported}
use Rattle.clause_check.proofs.Indices.{literal_named}
use Rattle.clause_check.proofs.Reported.{more_open, more_false, held_at, true_by_sign, not_false_by_sign, not_true_by_false, no_sign}
use Rattle.clause_check.proofs.hints.found_by_each.Goals as goal

pub loop-literal-init : goal.loop-literal-init
unfolding finding
loop-literal-init c = search rules

pub loop-literal-preserved-then-is_false : goal.loop-literal-preserved-then-is_false
loop-literal-preserved-then-is_false c =
    let literal = c.literal-item.result in
    let before = take c.loop-literal.literal-index c.args.clause.now in
    let more : take (c.loop-literal.literal-index + 1) c.args.clause.now ≡ before ++ literal ∷ [] =
    take_more c.args.clause.now c.loop-literal.literal-index literal c.loop-literal-test.true ∙ ap (λ l. before ++ l ∷ []) (sym c.literal-item.is)
    in
    let named = literal_named (length c.args.stamps.now) c.args.clause.now c.loop-literal.literal-index literal c.requires c.loop-literal-test.true c.literal-item.is in
    let sign : is_sign (sign_of c.args.stamps.now literal) (not literal.is_negated) ≡ true = sym c.is_false.ensures ∙ c.if-is_false.true in
    record {
      seen = λ truths reports.
          c.loop-literal.invariant.seen truths reports
          ∙ sym (ap (finding truths) more
          ∙ more_false truths before literal
          (true_by_sign c.args.stamps.now truths literal false reports named (not_true_by_false (sign_of c.args.stamps.now literal) literal.is_negated sign))
          (not_false_by_sign c.args.stamps.now truths literal true reports named sign));
      open_literal = c.loop-literal.invariant.open_literal;
    }

pub returns-then-is_true-clause-reported : goal.returns-then-is_true-clause-reported
returns-then-is_true-clause-reported c = λ truths reports.
    let literal = c.literal-item.result in
    let before = take c.loop-literal.literal-index c.args.clause.now in
    let more : take (c.loop-literal.literal-index + 1) c.args.clause.now ≡ before ++ literal ∷ [] =
    take_more c.args.clause.now c.loop-literal.literal-index literal c.loop-literal-test.true ∙ ap (λ l. before ++ l ∷ []) (sym c.literal-item.is)
    in
    let named = literal_named (length c.args.stamps.now) c.args.clause.now c.loop-literal.literal-index literal c.requires c.loop-literal-test.true c.literal-item.is in
    let after = drop (c.loop-literal.literal-index + 1) c.args.clause.now in
    sym (held_at truths c.args.clause.now before after literal
    (sym (take-append-drop (c.loop-literal.literal-index + 1) c.args.clause.now) ∙ ap (λ l. l ++ after) more)
    (true_by_sign c.args.stamps.now truths literal true reports named (sym c.is_true.ensures ∙ c.if-is_true.true)))

pub loop-literal-preserved : goal.loop-literal-preserved
loop-literal-preserved c =
    let literal = c.literal-item.result in
    let before = take c.loop-literal.literal-index c.args.clause.now in
    let more : take (c.loop-literal.literal-index + 1) c.args.clause.now ≡ before ++ literal ∷ [] =
    take_more c.args.clause.now c.loop-literal.literal-index literal c.loop-literal-test.true ∙ ap (λ l. before ++ l ∷ []) (sym c.literal-item.is)
    in
    let named = literal_named (length c.args.stamps.now) c.args.clause.now c.loop-literal.literal-index literal c.requires c.loop-literal-test.true c.literal-item.is in
    let not_false : is_sign (sign_of c.args.stamps.now literal) (not literal.is_negated) ≡ false = sym c.is_false.ensures ∙ c.if-is_false.false in
    let not_true : is_sign (sign_of c.args.stamps.now literal) literal.is_negated ≡ false = sym c.is_true.ensures ∙ c.if-is_true.false in
    record {
      seen = λ truths reports.
          more_open truths before literal (reported c.loop-literal.seen) (reported c.with_open-seen.result)
          (true_by_sign c.args.stamps.now truths literal false reports named not_true) (not_false_by_sign c.args.stamps.now truths literal false reports named not_false)
          (c.loop-literal.invariant.seen truths reports) c.with_open-seen.ensures.reported c.with_open-seen.ensures.held
          ∙ sym (ap (finding truths) more);
      open_literal =
          c.with_open-seen.ensures.«open» c.args.stamps.now c.loop-literal.invariant.open_literal
          (named, no_sign (sign_of c.args.stamps.now literal) literal.is_negated not_false not_true);
    }

pub returns : goal.returns
returns c = record {
  reported = λ truths reports.
      c.loop-literal.invariant.seen truths reports ∙ ap (finding truths) (take_all c.loop-literal.literal-index c.args.clause.now c.loop-literal-test.false);
  «open» = c.loop-literal.invariant.open_literal;
}
