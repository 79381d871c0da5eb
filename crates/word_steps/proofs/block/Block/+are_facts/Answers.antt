use Rattle.std.proofs.Common.{true, false, sym, ◌∙◌, subst, arith}
use Rattle.std.proofs.lemmas.List.{nil_from_length}
use Rattle.word_steps.specs.Outcomes.{AreFacts}
use Rattle.word_steps.proofs.Joining.{no_facts, first_some, first_none}
use Rattle.word_steps.proofs.block.Block.+are_facts.Goals as goal

pub returns-in-None : goal.returns-in-None
returns-in-None t c =
    subst (λ l. AreFacts c.args.self.now l true) (sym (nil_from_length c.args.kept.now (omega (arith, c.in-None.ensures.cases)))) (no_facts c.args.self.now)

pub returns-then-is_some : goal.returns-then-is_some
returns-then-is_some t c =
    subst (λ l. AreFacts c.args.self.now l c.are_facts.result) (sym c.in-Some.ensures.cases.0)
    (first_some c.args.self.now c.in-Some.reading.now c.in-Some.rest.now c.are_facts.result c.fact_index.result (sym c.is_some.ensures ∙ c.if-is_some.true) c.fact_index.ensures c.are_facts.ensures)

pub returns-else-is_some : goal.returns-else-is_some
returns-else-is_some t c =
    subst (AreFacts c.args.self.now c.args.kept.now) (sym c.if-is_some.false)
    (subst (λ l. AreFacts c.args.self.now l false) (sym c.in-Some.ensures.cases.0)
    (first_none c.args.self.now c.in-Some.reading.now c.in-Some.rest.now c.fact_index.result (sym c.is_some.ensures ∙ c.if-is_some.false) c.fact_index.ensures))
