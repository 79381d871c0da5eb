use Rattle.std.proofs.Common.{arith, ◌≡◌, ◌∙◌, refl, ap}
use Rattle.std.specs.declared.alloc.Global.{Global}
use Rattle.std.specs.declared.boxed.Box.{Box}
use Rattle.c_syntax_spec.specs.Unit as unit
use Rattle.c_parse_spec.specs.Statements.{statement_end}
use Rattle.c_syntax.specs.declared.statement.Statement.{Statement}
use Rattle.c_syntax.specs.Simples.{simple_of}
use Rattle.c_syntax.specs.Statements.{statement_of}
use Rattle.c_parse.proofs.Made.{made-gives, always}
use Rattle.c_parse.proofs.pieces.perform.Goals as goal

pub returns-3-clause-gives : goal.returns-3-clause-gives
returns-3-clause-gives c =
    let ends : c.statement_end-end.result ≡ statement_end (simple_of c.in-Ok-attempt.field-0.value) = c.statement_end-end.ensures ∙ ap (λ x. statement_end (simple_of x)) c.deref.ensures in
    made-gives _ (λ (x : Box Statement Global). statement_of x.value) (unit.Perform (simple_of c.in-Ok-attempt.field-0.value)) _ _ _ c.or_no_memory.ensures c.perform.ensures (rw (c.in-Ok-attempt.ensures.gives, rw ends at c.in-Ok-attempt-2.ensures.gives) refl)

pub returns-3-clause-shorter : goal.returns-3-clause-shorter
returns-3-clause-shorter c = always c.or_no_memory.result (omega (arith, c.in-Ok-attempt.ensures.shorter, c.in-Ok-attempt-2.ensures.shorter))
