use Rattle.std.proofs.Common.{rules, ◌≡◌, ◌∙◌, ◌<◌, length, ap}
use Rattle.search_rows.specs.Tables.{first_refuted}
use Rattle.search_rows.proofs.Answering.{refutes_none, refutes_some}
use Rattle.search_rows.proofs.tables.TableJudge.judge.Goals as goal

pub returns-then-is_empty-clause-answer : goal.returns-then-is_empty-clause-answer
returns-then-is_empty-clause-answer c =
    let empty : length c.in-Ok-attempt.field-0.items ≡ 0 = search rules in
    refutes_none c.args.self.now.rows.items c.args.lines.now c.in-Ok-attempt.field-0.items
    (c.in-Ok-attempt.ensures ∙ ap (λ rows. first_refuted rows c.args.lines.now) c.as_slice.ensures.value) empty

pub returns-2-clause-answer : goal.returns-2-clause-answer
returns-2-clause-answer c =
    let some : 0 < length c.in-Ok-attempt.field-0.items = search rules in
    refutes_some c.args.self.now.rows.items c.args.lines.now c.in-Ok-attempt.field-0.items
    (c.in-Ok-attempt.ensures ∙ ap (λ rows. first_refuted rows c.args.lines.now) c.as_slice.ensures.value) some
