use Rattle.std.proofs.Common.{◌∙◌, refl, sym}
use Rattle.std.specs.declared.alloc.Global.{Global}
use Rattle.std.specs.declared.boxed.Box.{Box}
use Rattle.c_syntax_spec.specs.Unit as unit
use Rattle.c_syntax.specs.declared.statement.Statement.{Statement}
use Rattle.c_syntax.specs.Statements.{statement_of}
use Rattle.c_parse.proofs.Made.{made-gives, always}
use Rattle.c_parse.proofs.pieces.plain_statement.Goals as goal

pub returns-then-next_keyword-2-clause-gives : goal.returns-then-next_keyword-2-clause-gives
returns-then-next_keyword-2-clause-gives c =
    made-gives _ (λ (x : Box Statement Global). statement_of x.value) (unit.Continue c.in-Ok-attempt.field-0) _ _ _ c.or_no_memory.ensures c.continue_at.ensures (rw (sym c.next_keyword.ensures ∙ c.if-next_keyword.true, c.in-Ok-attempt.ensures.gives) refl)

pub returns-then-next_keyword-2-clause-shorter : goal.returns-then-next_keyword-2-clause-shorter
returns-then-next_keyword-2-clause-shorter c = always c.or_no_memory.result c.in-Ok-attempt.ensures.shorter

pub returns-then-next_keyword-2-3-clause-gives : goal.returns-then-next_keyword-2-3-clause-gives
returns-then-next_keyword-2-3-clause-gives c =
    made-gives _ (λ (x : Box Statement Global). statement_of x.value) (unit.Break c.in-Ok-attempt-offset.field-0) _ _ _ c.or_no_memory-then-next_keyword-2.ensures c.break_at.ensures
    (rw (sym c.next_keyword.ensures ∙ c.if-next_keyword.false, sym c.next_keyword-2.ensures ∙ c.if-next_keyword-2.true, c.in-Ok-attempt-offset.ensures.gives) refl)

pub returns-then-next_keyword-2-3-clause-shorter : goal.returns-then-next_keyword-2-3-clause-shorter
returns-then-next_keyword-2-3-clause-shorter c = always c.or_no_memory-then-next_keyword-2.result c.in-Ok-attempt-offset.ensures.shorter
