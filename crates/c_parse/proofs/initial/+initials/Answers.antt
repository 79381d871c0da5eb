use Rattle.std.proofs.Common.{arith, ℕ, ◌+◌, ◌-◌, ◌∙◌, sym}
use Rattle.c_token_spec.specs.declared.token.Punctuator.TheVariants as punctuator
use Rattle.c_parse_spec.specs.declared.Role.{Role}
use Rattle.c_parse_spec.specs.declared.Role.TheVariants.{Nothing}
use Rattle.c_parse_spec.specs.Leaves.{expected}
use Rattle.exact_read.specs.Grammar.{read_map}
use Rattle.c_parse_laws.specs.Classes.{mark_offset}
use Rattle.c_parse_laws.specs.Parsers.{token}
use Rattle.c_parse_laws.specs.Initializers.{end_of_initial, read_designated, read_initial, read_initials}
use Rattle.c_syntax.specs.Expressions.{expression_of}
use Rattle.c_parse_token.specs.Lists.{list_of, names_of}
use Rattle.c_parse_token.proofs.Steps.{fewer}
use Rattle.c_parse_expression.specs.Whole.{expressions}
use Rattle.c_parse_token.proofs.Errors.{gives-from}
use Rattle.c_parse.proofs.Initials.{initials-start, initials-first_error, initials-comma, initials-comma_error, initials-step, initials-error, initials-end, initials-unclosed, initials-end_comma, initials-unclosed_comma, braced-found, braced-error}
use Rattle.c_parse.proofs.Shorter.{conditional-shorter}
use Rattle.c_parse.proofs.initial.+initials.Goals as goal

pub initials-items-init : goal.initials-items-init
initials-items-init t c =
    let names = names_of c.args.scope.names.now in
    let inner = expressions c.args.scope.names.now in
    record { going = initials-start names inner c.args.scope.depth (read_initial names inner c.args.fuel c.args.scope.depth) c.in-Ok-attempt.field-0 (list_of c.args.tokens.now.rest.now) (list_of c.designated.new.tokens.rest.now) c.in-Ok-attempt.ensures.gives; fewer = c.in-Ok-attempt.ensures.shorter }

pub initials-items-preserved : goal.initials-items-preserved
initials-items-preserved t c =
    let names = names_of c.args.scope.names.now in
    let inner = expressions c.args.scope.names.now in
    let whole = read_initials names inner c.args.scope.depth (read_initial names inner c.args.fuel c.args.scope.depth) (list_of c.args.tokens.now.rest.now) in
    let rest = c.designated-in-items.new.tokens.rest.now in
    let comma = initials-comma {whole = whole} c.items.invariant.going (sym c.next_is.ensures ∙ c.items-test.true) c.in-Ok-attempt-2.ensures.gives (fewer c.mark.new.self.rest.now c.items.tokens.rest.now (omega (arith, c.in-Ok-attempt-2.ensures.shorter))) in
    record {
      going = initials-step {whole = whole} comma (sym c.starts_initial.ensures ∙ c.if-not-starts_initial.false) c.in-Ok-attempt-end.ensures.gives (fewer rest c.mark.new.self.rest.now c.in-Ok-attempt-end.ensures.shorter);
      fewer = omega (arith, c.in-Ok-attempt-2.ensures.shorter, c.in-Ok-attempt-end.ensures.shorter, c.items.invariant.fewer);
    }

pub initials-returns-in-items-clause-gives : goal.initials-returns-in-items-clause-gives
initials-returns-in-items-clause-gives t c =
    let names = names_of c.args.scope.names.now in
    let inner = expressions c.args.scope.names.now in
    let whole = read_initials names inner c.args.scope.depth (read_initial names inner c.args.fuel c.args.scope.depth) (list_of c.args.tokens.now.rest.now) in
    gives-from (token c.items.end (expected c.items.end) (mark_offset punctuator.Comma) (list_of c.items.tokens.rest.now)) whole (λ (x : ℕ). x) (λ (_ : Unit {0}). tt {0}) _ c.in-Err-attempt-2.field-0
    (initials-comma_error {whole = whole} c.items.invariant.going (sym c.next_is.ensures ∙ c.items-test.true)) c.in-Err-attempt-2.ensures.gives

pub initials-returns-then-not-starts_initial-clause-gives : goal.initials-returns-then-not-starts_initial-clause-gives
initials-returns-then-not-starts_initial-clause-gives t c =
    let names = names_of c.args.scope.names.now in
    let inner = expressions c.args.scope.names.now in
    let whole = read_initials names inner c.args.scope.depth (read_initial names inner c.args.fuel c.args.scope.depth) (list_of c.args.tokens.now.rest.now) in
    let comma = initials-comma {whole = whole} c.items.invariant.going (sym c.next_is.ensures ∙ c.items-test.true) c.in-Ok-attempt-2.ensures.gives (fewer c.mark.new.self.rest.now c.items.tokens.rest.now (omega (arith, c.in-Ok-attempt-2.ensures.shorter))) in
    gives-from (token Nothing (expected Nothing) (mark_offset punctuator.RightBrace) (list_of c.mark.new.self.rest.now)) whole (λ (x : ℕ). x) (λ (_ : Unit {0}). tt {0}) _ c.in-Err-attempt-3.field-0
    (initials-unclosed_comma {whole = whole} comma (sym c.starts_initial.ensures ∙ c.if-not-starts_initial.true)) c.in-Err-attempt-3.ensures.gives

pub initials-returns-in-items-2-clause-gives : goal.initials-returns-in-items-2-clause-gives
initials-returns-in-items-2-clause-gives t c =
    let names = names_of c.args.scope.names.now in
    let inner = expressions c.args.scope.names.now in
    let whole = read_initials names inner c.args.scope.depth (read_initial names inner c.args.fuel c.args.scope.depth) (list_of c.args.tokens.now.rest.now) in
    let comma = initials-comma {whole = whole} c.items.invariant.going (sym c.next_is.ensures ∙ c.items-test.true) c.in-Ok-attempt-2.ensures.gives (fewer c.mark.new.self.rest.now c.items.tokens.rest.now (omega (arith, c.in-Ok-attempt-2.ensures.shorter))) in
    gives-from (read_map end_of_initial (read_designated inner c.args.scope.depth (read_initial names inner c.args.fuel c.args.scope.depth)) (list_of c.mark.new.self.rest.now)) whole (λ (x : Role). x) (λ (_ : Unit {0}). tt {0}) _ c.in-Err-attempt-end.field-0
    (initials-error {whole = whole} comma (sym c.starts_initial.ensures ∙ c.if-not-starts_initial.false)) c.in-Err-attempt-end.ensures.gives

pub initials-returns-then-not-starts_initial-2-clause-gives : goal.initials-returns-then-not-starts_initial-2-clause-gives
initials-returns-then-not-starts_initial-2-clause-gives t c =
    let names = names_of c.args.scope.names.now in
    let inner = expressions c.args.scope.names.now in
    let whole = read_initials names inner c.args.scope.depth (read_initial names inner c.args.fuel c.args.scope.depth) (list_of c.args.tokens.now.rest.now) in
    let comma = initials-comma {whole = whole} c.items.invariant.going (sym c.next_is.ensures ∙ c.items-test.true) c.in-Ok-attempt-2.ensures.gives (fewer c.mark.new.self.rest.now c.items.tokens.rest.now (omega (arith, c.in-Ok-attempt-2.ensures.shorter))) in
    initials-end_comma {whole = whole} comma (sym c.starts_initial.ensures ∙ c.if-not-starts_initial.true) c.in-Ok-attempt-3.ensures.gives

pub initials-returns-2-clause-gives : goal.initials-returns-2-clause-gives
initials-returns-2-clause-gives t c =
    let names = names_of c.args.scope.names.now in
    let inner = expressions c.args.scope.names.now in
    let whole = read_initials names inner c.args.scope.depth (read_initial names inner c.args.fuel c.args.scope.depth) (list_of c.args.tokens.now.rest.now) in
    gives-from (token c.items.end (expected c.items.end) (mark_offset punctuator.RightBrace) (list_of c.items.tokens.rest.now)) whole (λ (x : ℕ). x) (λ (_ : Unit {0}). tt {0}) _ c.in-Err-attempt-4.field-0
    (initials-unclosed {whole = whole} c.items.invariant.going (sym c.next_is.ensures ∙ c.items-test.false)) c.in-Err-attempt-4.ensures.gives

pub initials-returns-clause-gives : goal.initials-returns-clause-gives
initials-returns-clause-gives t c =
    let names = names_of c.args.scope.names.now in
    let inner = expressions c.args.scope.names.now in
    let tokens = list_of c.args.tokens.now.rest.now in
    let whole = read_initials names inner c.args.scope.depth (read_initial names inner c.args.fuel c.args.scope.depth) tokens in
    gives-from (read_map end_of_initial (read_designated inner c.args.scope.depth (read_initial names inner c.args.fuel c.args.scope.depth)) tokens) whole (λ (x : Role). x) (λ (_ : Unit {0}). tt {0}) _ c.in-Err-attempt.field-0
    (initials-first_error names inner c.args.scope.depth (read_initial names inner c.args.fuel c.args.scope.depth) tokens) c.in-Err-attempt.ensures.gives

pub initials-returns-3-clause-gives : goal.initials-returns-3-clause-gives
initials-returns-3-clause-gives t c = initials-end c.items.invariant.going (sym c.next_is.ensures ∙ c.items-test.false) c.in-Ok-attempt-4.ensures.gives

pub initial-returns-then-not-next_is-2-clause-shorter : goal.initial-returns-then-not-next_is-2-clause-shorter
initial-returns-then-not-next_is-2-clause-shorter t c = conditional-shorter (names_of c.args.scope.names.now) c.args.scope.depth 0 (expression_of c.in-Ok-attempt.field-0.value) c.args.tokens.now.rest.now c.whole.new.tokens.rest.now c.in-Ok-attempt.ensures.gives

pub initial-returns-2-clause-gives : goal.initial-returns-2-clause-gives
initial-returns-2-clause-gives t c =
    let names = names_of c.args.scope.names.now in
    let inner = expressions c.args.scope.names.now in
    let tokens = list_of c.args.tokens.now.rest.now in
    let middle = list_of c.opening.new.self.rest.now in
    let left = c.args.fuel - 1 in
    let opened = c.args.scope.depth + 1 in
    let whole = read_map end_of_initial (read_initial names inner c.args.fuel c.args.scope.depth) tokens in
    gives-from (read_initials names inner opened (read_initial names inner left opened) middle) whole (λ (_ : Unit {0}). tt {0}) (λ (x : Role). x) _ c.in-Err-attempt-4.field-0
    (braced-error names inner c.args.fuel left c.args.scope.depth opened c.in-Ok-attempt-2.field-0 tokens middle (omega arith) (omega arith) c.if-fuel-eq0.false (sym c.next_is.ensures ∙ c.if-not-next_is.false) c.in-Ok-attempt-2.ensures.gives (sym c.next_is-2.ensures ∙ c.if-next_is.false)) c.in-Err-attempt-4.ensures.gives

pub initial-returns-3-clause-gives : goal.initial-returns-3-clause-gives
initial-returns-3-clause-gives t c =
    let names = names_of c.args.scope.names.now in
    let inner = expressions c.args.scope.names.now in
    let tokens = list_of c.args.tokens.now.rest.now in
    let middle = list_of c.opening.new.self.rest.now in
    braced-found names inner c.args.fuel (c.args.fuel - 1) c.args.scope.depth (c.args.scope.depth + 1) c.in-Ok-attempt-2.field-0 tokens middle (list_of c.initials.new.tokens.rest.now) (omega arith) (omega arith) c.if-fuel-eq0.false (sym c.next_is.ensures ∙ c.if-not-next_is.false) c.in-Ok-attempt-2.ensures.gives (sym c.next_is-2.ensures ∙ c.if-next_is.false) c.in-Ok-attempt-4.ensures.gives
