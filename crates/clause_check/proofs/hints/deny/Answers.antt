use Rattle.std.proofs.Common.{rules, ◌≡◌, ◌∙◌, ◌+◌, ◌++◌, ◌∷◌, [], true, false, length, take, map, ap, sym, subst}
use Rattle.std.specs.Prelude.{IsTrue}
use Rattle.std.proofs.lemmas.List.{take_more}
use Rattle.clause_check_spec.specs.Clause.{negation}
use Rattle.clause_check_spec.specs.Step.{are_fit}
use Rattle.clause_check.specs.Signs.{Reports}
use Rattle.clause_check.proofs.More.{unfit_at}
use Rattle.clause_check.proofs.hints.deny.Goals as goal

pub returns-then-not-deny_one-clause-fit : goal.returns-then-not-deny_one-clause-fit
returns-then-not-deny_one-clause-fit c =
    let len = c.loop-literal.invariant.len in
    let before = take c.loop-literal.literal-index c.args.literals.now in
    let fit = subst (λ n. are_fit n before ≡ true) (sym len) c.loop-literal.invariant.fit in
    let answer = c.deny_one.ensures.fit before fit c.loop-literal.invariant.reported in
    let unfit = subst (λ n. are_fit n (before ++ c.literal-item.result ∷ []) ≡ false) len (sym answer ∙ c.if-not-deny_one.true) in
    sym (unfit_at (length c.args.stamps.now) c.args.literals.now c.loop-literal.literal-index c.literal-item.result c.loop-literal-test.true
    (subst (λ l. are_fit (length c.args.stamps.now) (before ++ l ∷ []) ≡ false) c.literal-item.is unfit))

pub loop-literal-preserved : goal.loop-literal-preserved
loop-literal-preserved c =
    let len = c.loop-literal.invariant.len in
    let before = take c.loop-literal.literal-index c.args.literals.now in
    let fit = subst (λ n. are_fit n before ≡ true) (sym len) c.loop-literal.invariant.fit in
    let answer = c.deny_one.ensures.fit before fit c.loop-literal.invariant.reported in
    let more : take (c.loop-literal.literal-index + 1) c.args.literals.now ≡ before ++ c.literal-item.result ∷ [] =
    take_more c.args.literals.now c.loop-literal.literal-index c.literal-item.result c.loop-literal-test.true
    ∙ ap (λ l. before ++ l ∷ []) (sym c.literal-item.is)
    in
    let yes : IsTrue c.deny_one.result = search rules in
    record {
      fit = ap (are_fit (length c.args.stamps.now)) more ∙ subst (λ n. are_fit n (before ++ c.literal-item.result ∷ []) ≡ true) len (sym answer ∙ c.if-not-deny_one.false);
      reported = subst (λ l. Reports c.deny_one.new.stamps (map negation l)) (sym more) (c.deny_one.ensures.reported before yes c.loop-literal.invariant.reported);
      len = c.deny_one.ensures.len ∙ len;
    }
