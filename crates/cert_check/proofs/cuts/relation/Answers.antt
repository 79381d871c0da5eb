use Rattle.std.proofs.Common.{◌∙◌, ℕ, List, Ok, Err, length, ap, subst}
use Rattle.cert_check_jobs.specs.declared.drafts.Draft.{Draft}
use Rattle.cert_check_jobs.specs.declared.jobs.Job.TheVariants.{Relate}
use Rattle.cert_check_jobs.specs.Jobs.{AreInside}
use Rattle.cert_check.specs.Steps.{IsTestAt}
use Rattle.cert_check.proofs.Pushed.{inside_top}
use Rattle.cert_check.proofs.Splitting.{relation_kept, relation_passes, relation_wrong}
use Rattle.cert_check.proofs.Tops.{relation_follows, relation_top}
use Rattle.cert_check.proofs.cuts.relation.Goals as goal

pub take_draft-reading-requires : goal.take_draft-reading-requires
take_draft-reading-requires c = relation_top c.args.symbols.now c.args.jobs.now.items c.requires.next

-- no line
pub returns-clause-step : goal.returns-clause-step
returns-clause-step c = λ fs parts m at is.
    let path = c.as_slice-path.ensures.value ∙ ap (λ (d : Draft). d.path.items) c.deref.ensures in
    relation_wrong fs parts m at c.args.function.now is c.args.bank.now c.line_read.new.bank c.args.jobs.now.items c.take_draft-reading.new.jobs.items c.take_draft-reading.new.jobs.items
    c.take_draft-reading.result c.args.symbols.now _ c.take_draft-reading.ensures
    (subst (λ (p : List ℕ). IsTestAt m.listed p c.args.symbols.now c.line_read.new.bank (Err c.in-Err-attempt.field-0)) path (c.in-Err-attempt.ensures.line m.listed is.listed))

pub returns-4-clause-step : goal.returns-4-clause-step
returns-4-clause-step c = λ fs parts m at is.
    let path = c.as_slice-path.ensures.value ∙ ap (λ (d : Draft). d.path.items) c.deref.ensures in
    let apart = inside_top (length c.args.bank.now) c.take_draft-reading.new.jobs.items (Relate c.take_draft-reading.result)
    (subst (AreInside (length c.args.bank.now)) c.take_draft-reading.ensures c.requires.kept.inside) in
    relation_passes fs parts m at c.args.function.now is c.args.bank.now c.args.jobs.now.items c.take_draft-reading.new.jobs.items c.take_draft-reading.result c.args.symbols.now
    c.take_draft-reading.ensures c.line_read.new.bank c.push_draft.new.jobs.items c.in-Ok-attempt.field-0 c.push.new.self c.line_read.ensures.extends apart.0 apart.1
    (subst (λ (p : List ℕ). IsTestAt m.listed p c.args.symbols.now c.line_read.new.bank (Ok c.in-Ok-attempt.field-0)) path (c.in-Ok-attempt.ensures.line m.listed is.listed))
    c.in-Ok-attempt-2.ensures.items c.in-Ok-attempt-3.ensures

pub returns-4-clause-kept : goal.returns-4-clause-kept
returns-4-clause-kept c =
    relation_kept c.args.function.now c.args.bank.now c.line_read.new.bank _ _ c.args.jobs.now.items c.take_draft-reading.new.jobs.items c.push_draft.new.jobs.items c.take_draft-reading.result
    c.in-Ok-attempt.field-0 c.push.new.self c.requires.kept c.line_read.ensures.extends c.take_draft-reading.ensures c.in-Ok-attempt-2.ensures.items c.in-Ok-attempt.ensures.within
    c.in-Ok-attempt-3.ensures

pub returns-4-clause-follows : goal.returns-4-clause-follows
returns-4-clause-follows c =
    relation_follows c.args.symbols.now c.args.jobs.now.items c.take_draft-reading.new.jobs.items c.push_draft.new.jobs.items c.take_draft-reading.result c.push.new.self
    c.take_draft-reading.ensures c.in-Ok-attempt-3.ensures
