use Rattle.std.proofs.Common.{arith, ◌≡◌, ◌∙◌, ◌+◌, ℕ, suc, refl, sym}
use Rattle.std.specs.declared.alloc.Global.{Global}
use Rattle.std.specs.declared.boxed.Box.{Box}
use Rattle.c_syntax.specs.declared.expression.Expression.{Expression}
use Rattle.c_syntax.specs.Expressions.{expression_of}
use Rattle.c_syntax.specs.Names.{name_of}
use Rattle.c_parse_token.proofs.Errors.{gives-from}
use Rattle.c_parse.proofs.initial.designator.Goals as goal

pub returns-then-next_is-clause-gives : goal.returns-then-next_is-clause-gives
returns-then-next_is-clause-gives c = gives-from _ _ (λ (x : ℕ). x) (λ y. y) _ c.in-Err-attempt.field-0 (λ fault e. rw (sym c.next_is.ensures ∙ c.if-next_is.true, e) refl) c.in-Err-attempt.ensures.gives

pub returns-then-next_is-2-clause-gives : goal.returns-then-next_is-2-clause-gives
returns-then-next_is-2-clause-gives c = gives-from _ _ name_of (λ y. y) _ c.in-Err-attempt-2.field-0 (λ fault e. rw (sym c.next_is.ensures ∙ c.if-next_is.true, c.in-Ok-attempt.ensures.gives, e) refl) c.in-Err-attempt-2.ensures.gives

pub returns-then-next_is-3-clause-gives : goal.returns-then-next_is-3-clause-gives
returns-then-next_is-3-clause-gives c = rw (sym c.next_is.ensures ∙ c.if-next_is.true, c.in-Ok-attempt.ensures.gives, c.in-Ok-attempt-2.ensures.gives) refl

pub returns-clause-gives : goal.returns-clause-gives
returns-clause-gives c = gives-from _ _ (λ (x : ℕ). x) (λ y. y) _ c.in-Err-attempt-3.field-0 (λ fault e. rw (sym c.next_is.ensures ∙ c.if-next_is.false, e) refl) c.in-Err-attempt-3.ensures.gives

pub returns-2-clause-gives : goal.returns-2-clause-gives
returns-2-clause-gives c =
    let one : c.args.scope.depth + 1 ≡ suc c.args.scope.depth = omega arith in
    gives-from _ _ (λ (x : Box Expression Global). expression_of x.value) (λ y. y) _ c.in-Err-attempt-index.field-0 (λ fault e. rw (sym c.next_is.ensures ∙ c.if-next_is.false, c.in-Ok-attempt-3.ensures.gives, rw one at e) refl) c.in-Err-attempt-index.ensures.gives

pub returns-3-clause-gives : goal.returns-3-clause-gives
returns-3-clause-gives c =
    let one : c.args.scope.depth + 1 ≡ suc c.args.scope.depth = omega arith in
    gives-from _ _ (λ (x : ℕ). x) (λ y. y) _ c.in-Err-attempt-4.field-0 (λ fault e. rw (sym c.next_is.ensures ∙ c.if-next_is.false, c.in-Ok-attempt-3.ensures.gives, rw one at c.in-Ok-attempt-index.ensures.gives, e) refl) c.in-Err-attempt-4.ensures.gives

pub returns-4-clause-gives : goal.returns-4-clause-gives
returns-4-clause-gives c =
    let one : c.args.scope.depth + 1 ≡ suc c.args.scope.depth = omega arith in
    rw (sym c.next_is.ensures ∙ c.if-next_is.false, c.in-Ok-attempt-3.ensures.gives, rw one at c.in-Ok-attempt-index.ensures.gives, c.in-Ok-attempt-4.ensures.gives) refl
