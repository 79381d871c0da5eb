use Rattle.std.proofs.Common.{arith, ◌≡◌, ◌∙◌, refl, sym, ap, Some, None}
use Rattle.std.specs.declared.alloc.Global.{Global}
use Rattle.std.specs.declared.boxed.Box.{Box}
use Rattle.c_syntax_spec.specs.Unit as unit
use Rattle.c_parse_spec.specs.Statements.{value_end}
use Rattle.c_syntax.specs.declared.statement.Statement.{Statement}
use Rattle.c_syntax.specs.Simples.{value_of}
use Rattle.c_syntax.specs.Statements.{statement_of}
use Rattle.c_parse.proofs.Made.{made-gives, always}
use Rattle.c_parse.proofs.pieces.return_statement.Goals as goal

pub returns-then-next_is-2-clause-gives : goal.returns-then-next_is-2-clause-gives
returns-then-next_is-2-clause-gives c =
    made-gives _ (λ (x : Box Statement Global). statement_of x.value) (unit.Return None c.in-Ok-attempt.field-0) _ _ _ c.or_no_memory.ensures c.return_at.ensures (rw (c.in-Ok-attempt.ensures.gives, sym c.next_is.ensures ∙ c.if-next_is.true, c.in-Ok-attempt-2.ensures.gives) refl)

pub returns-then-next_is-2-clause-shorter : goal.returns-then-next_is-2-clause-shorter
returns-then-next_is-2-clause-shorter c = always c.or_no_memory.result (omega (arith, c.in-Ok-attempt.ensures.shorter, c.in-Ok-attempt-2.ensures.shorter))

pub returns-4-clause-gives : goal.returns-4-clause-gives
returns-4-clause-gives c =
    let ends : c.value_end-end.result ≡ value_end (value_of c.in-Ok-attempt-value.field-0.value) = c.value_end-end.ensures ∙ ap (λ x. value_end (value_of x)) c.deref.ensures in
    made-gives _ (λ (x : Box Statement Global). statement_of x.value) (unit.Return (Some (value_of c.in-Ok-attempt-value.field-0.value)) c.in-Ok-attempt.field-0) _ _ _ c.or_no_memory-2.ensures c.return_at-2.ensures
    (rw (c.in-Ok-attempt.ensures.gives, sym c.next_is.ensures ∙ c.if-next_is.false, c.in-Ok-attempt-value.ensures.gives, rw ends at c.in-Ok-attempt-3.ensures.gives) refl)

pub returns-4-clause-shorter : goal.returns-4-clause-shorter
returns-4-clause-shorter c = always c.or_no_memory-2.result (omega (arith, c.in-Ok-attempt.ensures.shorter, c.in-Ok-attempt-value.ensures.shorter, c.in-Ok-attempt-3.ensures.shorter))
