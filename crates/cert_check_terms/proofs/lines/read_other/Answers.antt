use Rattle.std.proofs.Common.{refl, sym, ap, ◌∙◌, ◌==◌}
use Rattle.cert_check_terms.proofs.Stacks.{other_on, nothing_if, unchanged}
use Rattle.cert_check_terms.proofs.lines.read_other.Goals as goal

pub returns-then-is_empty-clause-goes : goal.returns-then-is_empty-clause-goes
returns-then-is_empty-clause-goes c =
    other_on _ _ c.args.reading.now.calls.items _
    (record { calls = c.args.reading.now.calls; entries = c.read_plain.new.entries; arguments = c.read_plain.new.arguments }) _
    (ap (λ n. n == 0) (sym c.args.reading.now.calls.ok.0) ∙ (sym c.is_empty.ensures ∙ c.if-is_empty.true)) refl c.read_plain.ensures.next

pub returns-clause-goes : goal.returns-clause-goes
returns-clause-goes c = nothing_if _ _ (ap (λ n. n == 0) (sym c.args.reading.now.calls.ok.0) ∙ (sym c.is_empty.ensures ∙ c.if-is_empty.false))

pub returns-clause-extends : goal.returns-clause-extends
returns-clause-extends c = unchanged c.args.bank.now
