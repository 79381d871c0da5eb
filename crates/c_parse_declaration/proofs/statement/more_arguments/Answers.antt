use Rattle.std.proofs.Common.{◌≡◌, ◌+◌, ◌<◌, length, map, Ok, Err, arith, ap, sym, ◌∙◌, subst}
use Rattle.c_parse_spec.specs.Expressions.{operators}
use Rattle.c_syntax.specs.Expressions.{expression_of, unboxed}
use Rattle.c_parse_token.specs.Lists.{list_of, Gives}
use Rattle.c_parse_token.proofs.Steps.{fewer}
use Rattle.c_parse_expression.specs.Whole.{expressions}
use Rattle.c_parse_declaration.specs.Parts.{read_arguments_from}
use Rattle.c_parse_declaration.proofs.Listed.{argued, argued-start, listing-more, listing-item_error, listing-unclosed, listing-end, pushed, first-pushed, same-expressions}
use Rattle.c_parse_declaration.proofs.statement.more_arguments.Goals as goal

pub items-init : goal.items-init
items-init c = record {
  going = argued-start (expressions c.args.scope.names.now) c.args.scope.depth c.args.tokens.now.count (expression_of c.args.first.value) (map expression_of (unboxed c.push.new.self)) (list_of c.args.tokens.now.rest.now) (first-pushed expression_of _ _ c.args.first c.in-Ok-allocated.ensures.items c.requires.empty);
  within = c.requires.count;
  fewer = omega arith;
}

pub items-preserved : goal.items-preserved
items-preserved c =
    let inner = expressions c.args.scope.names.now in
    let whole = read_arguments_from inner c.args.scope.depth c.args.tokens.now.count (expression_of c.args.first.value) (list_of c.args.tokens.now.rest.now) in
    let x = expression_of c.in-Ok-attempt-next.field-0.value in
    let middle = list_of c.mark.new.self.rest.now in
    let rest = c.conditional.new.tokens.rest.now in
    let less : length rest < length c.items.tokens.rest.now = omega (arith, c.in-Ok-attempt.ensures.shorter, c.in-Ok-attempt-next.ensures.shorter) in
    let counted : c.conditional.new.tokens.count ≡ c.items.tokens.count + operators x = c.in-Ok-attempt-next.ensures.counted.0 ∙ ap (λ n. n + operators x) c.in-Ok-attempt.ensures.count in
    let read : inner.conditional c.args.scope.depth c.items.tokens.count middle ≡ Ok (x, list_of rest) = subst (λ n. inner.conditional c.args.scope.depth n middle ≡ Ok (x, list_of rest)) c.in-Ok-attempt.ensures.count c.in-Ok-attempt-next.ensures.gives in
    record {
      going = listing-more (argued inner c.args.scope.depth) whole (map expression_of (unboxed c.items.arguments)) (map expression_of (unboxed c.push-in-items.new.self)) c.items.tokens.count c.conditional.new.tokens.count x _ (list_of c.items.tokens.rest.now) middle (list_of rest) (pushed expression_of c.items.arguments.items _ c.in-Ok-attempt-next.field-0 c.in-Ok-allocated-2.ensures.items) counted c.items.invariant.going (sym c.next_is.ensures ∙ c.items-test.true) c.in-Ok-attempt.ensures.gives read (fewer rest c.items.tokens.rest.now less);
      within = c.in-Ok-attempt-next.ensures.counted.1;
      fewer = omega (arith, less, c.items.invariant.fewer);
    }

pub returns-in-items-2-clause-gives : goal.returns-in-items-2-clause-gives
returns-in-items-2-clause-gives c =
    let inner = expressions c.args.scope.names.now in
    let whole = read_arguments_from inner c.args.scope.depth c.args.tokens.now.count (expression_of c.args.first.value) (list_of c.args.tokens.now.rest.now) in
    listing-item_error (argued inner c.args.scope.depth) whole (map expression_of (unboxed c.items.arguments)) c.items.tokens.count _ (list_of c.items.tokens.rest.now) (list_of c.mark.new.self.rest.now) _ c.in-Err-attempt-next.field-0 c.items.invariant.going (sym c.next_is.ensures ∙ c.items-test.true) c.in-Ok-attempt.ensures.gives (subst (λ n. Gives (inner.conditional c.args.scope.depth n (list_of c.mark.new.self.rest.now)) (λ x. x) c.conditional.new.tokens.rest.now (Err c.in-Err-attempt-next.field-0)) c.in-Ok-attempt.ensures.count c.in-Err-attempt-next.ensures.gives)

pub returns-2-clause-gives : goal.returns-2-clause-gives
returns-2-clause-gives c =
    let inner = expressions c.args.scope.names.now in
    let whole = read_arguments_from inner c.args.scope.depth c.args.tokens.now.count (expression_of c.args.first.value) (list_of c.args.tokens.now.rest.now) in
    listing-unclosed (argued inner c.args.scope.depth) whole (map expression_of (unboxed c.items.arguments)) c.items.tokens.count (list_of c.items.tokens.rest.now) _ c.in-Err-attempt-2.field-0 c.items.invariant.going (sym c.next_is.ensures ∙ c.items-test.false) c.in-Err-attempt-2.ensures.gives

pub returns-3-clause-gives : goal.returns-3-clause-gives
returns-3-clause-gives c =
    let inner = expressions c.args.scope.names.now in
    let whole = read_arguments_from inner c.args.scope.depth c.args.tokens.now.count (expression_of c.args.first.value) (list_of c.args.tokens.now.rest.now) in
    let read = map expression_of (unboxed c.items.arguments) in
    listing-end (argued inner c.args.scope.depth) whole read c.items.tokens.count _ (list_of c.items.tokens.rest.now) (list_of c.mark-2.new.self.rest.now) c.items.invariant.going (sym c.next_is.ensures ∙ c.items-test.false) c.in-Ok-attempt-2.ensures.gives
    ∙ ap (λ xs. Ok (xs, list_of c.mark-2.new.self.rest.now)) (same-expressions read)
