use Rattle.std.proofs.Common.{◌<◌, length, map, arith, ap, sym, ◌∙◌}
use Rattle.c_token_spec.specs.declared.token.Punctuator.TheVariants.{Semicolon}
use Rattle.c_parse_laws.specs.Declarations.{read_list_from, read_local, end_of_local}
use Rattle.c_syntax.specs.Locals.{local_of}
use Rattle.exact_read.specs.Grammar.{read_nothing}
use Rattle.c_syntax.specs.Expressions.{unboxed}
use Rattle.c_parse_token.specs.Lists.{list_of, names_of}
use Rattle.c_parse_token.proofs.Steps.{fewer}
use Rattle.c_parse_expression.specs.Whole.{expressions}
use Rattle.c_parse_declaration.proofs.Listed.{listed, listed-start, listing-more, listing-item_error, listing-unclosed, listing-end, pushed, first-pushed}
use Rattle.c_parse_declaration.proofs.declaration.more_locals.Goals as goal

pub items-init : goal.items-init
items-init c = record {
  going = listed-start end_of_local Semicolon (read_local (names_of c.args.scope.names.now) (expressions c.args.scope.names.now) c.args.scope.depth) (local_of c.args.first.value) (map local_of (unboxed c.push.new.self)) c.end_of_local-end.result (list_of c.args.tokens.now.rest.now) (first-pushed local_of _ _ c.args.first c.in-Ok-allocated.ensures.items c.requires.empty) (c.end_of_local-end.ensures ∙ ap (λ x. end_of_local (local_of x)) c.deref.ensures);
  fewer = omega arith;
}

pub items-preserved : goal.items-preserved
items-preserved c =
    let item = read_local (names_of c.args.scope.names.now) (expressions c.args.scope.names.now) c.args.scope.depth in
    let whole = read_list_from end_of_local Semicolon (read_nothing (local_of c.args.first.value)) item (list_of c.args.tokens.now.rest.now) in
    let middle = list_of c.mark.new.self.rest.now in
    let rest = c.local.new.tokens.rest.now in
    let less : length rest < length c.items.tokens.rest.now = omega (arith, c.in-Ok-attempt.ensures.shorter, c.in-Ok-attempt-next.ensures.shorter) in
    record {
      going = listing-more (listed end_of_local Semicolon item) whole (map local_of (unboxed c.items.locals)) (map local_of (unboxed c.push-in-items.new.self)) c.items.end c.end_of_local-end-in-items.result (local_of c.in-Ok-attempt-next.field-0.value) _ (list_of c.items.tokens.rest.now) middle (list_of rest) (pushed local_of c.items.locals.items _ c.in-Ok-attempt-next.field-0 c.in-Ok-allocated-2.ensures.items) (c.end_of_local-end-in-items.ensures ∙ ap (λ x. end_of_local (local_of x)) c.deref-in-items.ensures) c.items.invariant.going (sym c.next_is.ensures ∙ c.items-test.true) c.in-Ok-attempt.ensures.gives c.in-Ok-attempt-next.ensures.gives (fewer rest c.items.tokens.rest.now less);
      fewer = omega (arith, less, c.items.invariant.fewer);
    }

pub returns-in-items-2-clause-gives : goal.returns-in-items-2-clause-gives
returns-in-items-2-clause-gives c =
    let item = read_local (names_of c.args.scope.names.now) (expressions c.args.scope.names.now) c.args.scope.depth in
    let whole = read_list_from end_of_local Semicolon (read_nothing (local_of c.args.first.value)) item (list_of c.args.tokens.now.rest.now) in
    listing-item_error (listed end_of_local Semicolon item) whole (map local_of (unboxed c.items.locals)) c.items.end _ (list_of c.items.tokens.rest.now) (list_of c.mark.new.self.rest.now) _ c.in-Err-attempt-next.field-0 c.items.invariant.going (sym c.next_is.ensures ∙ c.items-test.true) c.in-Ok-attempt.ensures.gives c.in-Err-attempt-next.ensures.gives

pub returns-2-clause-gives : goal.returns-2-clause-gives
returns-2-clause-gives c =
    let item = read_local (names_of c.args.scope.names.now) (expressions c.args.scope.names.now) c.args.scope.depth in
    let whole = read_list_from end_of_local Semicolon (read_nothing (local_of c.args.first.value)) item (list_of c.args.tokens.now.rest.now) in
    listing-unclosed (listed end_of_local Semicolon item) whole (map local_of (unboxed c.items.locals)) c.items.end (list_of c.items.tokens.rest.now) _ c.in-Err-attempt-2.field-0 c.items.invariant.going (sym c.next_is.ensures ∙ c.items-test.false) c.in-Err-attempt-2.ensures.gives

pub returns-3-clause-gives : goal.returns-3-clause-gives
returns-3-clause-gives c =
    let item = read_local (names_of c.args.scope.names.now) (expressions c.args.scope.names.now) c.args.scope.depth in
    let whole = read_list_from end_of_local Semicolon (read_nothing (local_of c.args.first.value)) item (list_of c.args.tokens.now.rest.now) in
    listing-end (listed end_of_local Semicolon item) whole (map local_of (unboxed c.items.locals)) c.items.end _ (list_of c.items.tokens.rest.now) (list_of c.mark-2.new.self.rest.now) c.items.invariant.going (sym c.next_is.ensures ∙ c.items-test.false) c.in-Ok-attempt-2.ensures.gives
