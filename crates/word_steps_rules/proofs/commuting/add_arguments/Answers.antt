use Rattle.std.proofs.Common.{◌<◌, length, ◌∷◌, [], ◌++◌, ap, subst, ◌∙◌}
use Rattle.std.proofs.lemmas.Result.{IfOk-weaker}
use Rattle.std.proofs.lemmas.List.Elements.{All-same, All-cons, All-nil}
use Rattle.word_steps_rules.specs.Arguments.{Expands, ArgumentsOf}
use Rattle.term_bank.specs.Nodes.{tree_at}
use Rattle.word_steps_rules.proofs.Arguments.{of_one}
use Rattle.word_steps_rules.proofs.commuting.add_arguments.Goals as goal

pub expand-requires-clause-within : goal.expand-requires-clause-within
expand-requires-clause-within c =
    All-same (λ k. k < length c.args.sorts.now) _ _ (c.in_ok-push.ensures.items ∙ ap (λ l. l ++ c.args.id ∷ []) c.requires.none)
    (All-cons (λ k. k < length c.args.sorts.now) c.args.id [] c.requires.within (All-nil (λ k. k < length c.args.sorts.now)))

pub returns : goal.returns
returns c =
    let pushed = c.in_ok-push.ensures.items ∙ ap (λ l. l ++ c.args.id ∷ []) c.requires.none in
    IfOk-weaker c.expand.result (Expands c.args.bank.now c.args.operator (length c.args.sorts.now) c.push.new.self.items c.expand.new.terms.items) (ArgumentsOf c.args.bank.now c.args.operator (length c.args.sorts.now) (tree_at c.args.bank.now c.args.id) c.expand.new.terms.items)
    (λ found h. of_one c.args.bank.now c.args.operator (length c.args.sorts.now) c.args.id c.expand.new.terms.items found (subst (λ l. Expands c.args.bank.now c.args.operator (length c.args.sorts.now) l c.expand.new.terms.items found) pushed h)) c.expand.ensures
