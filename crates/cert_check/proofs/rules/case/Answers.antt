use Rattle.std.proofs.Common.{◌∙◌, Ok, Err, length, ap, subst}
use Rattle.cert_check_jobs.specs.declared.cuts.Cuts.{Cuts}
use Rattle.cert_check_jobs.specs.Cuts.{start_seen}
use Rattle.cert_check_jobs.specs.Extras.{started}
use Rattle.cert_check.specs.Steps.{IsTestAt}
use Rattle.cert_check_jobs.specs.declared.extra.Extra.{Extra}
use Rattle.cert_check_jobs.specs.Jobs.{AreInside, HasBranches}
use Rattle.cert_check.proofs.Pushed.{inside_top, same_added}
use Rattle.cert_check.proofs.Tops.{case_top, case_follows}
use Rattle.cert_check.proofs.InPart.{case_passes, test_fails}
use Rattle.cert_check.proofs.Leaving.{case_kept}
use Rattle.cert_check.proofs.rules.case.Goals as goal

pub take_proof-extra-requires : goal.take_proof-extra-requires
take_proof-extra-requires c = case_top c.args.symbols.now c.args.jobs.now.items c.requires.next

-- no test
pub returns-clause-step : goal.returns-clause-step
returns-clause-step c = λ fs parts m at is.
    test_fails fs parts m at c.args.function.now is c.args.bank.now c.test.new.bank c.args.jobs.now.items c.take_proof-extra.new.jobs.items c.take_proof-extra.new.jobs.items
    c.take_proof-extra.result c.args.symbols.now _ c.take_proof-extra.ensures
    (subst (λ (x : Cuts). IsTestAt m.listed (started m.listed.frame (start_seen x.start)).path c.args.symbols.now c.test.new.bank (Err c.in-Err-attempt.field-0)) (c.deref-2.ensures ∙ ap (λ (e : Extra). e.cuts.value) c.deref.ensures)
    (c.in-Err-attempt.ensures.test m.listed is.listed))

pub returns-3-clause-step : goal.returns-3-clause-step
returns-3-clause-step c = λ fs parts m at is.
    let inside = inside_top (length c.args.bank.now) c.take_proof-extra.new.jobs.items _ (subst (AreInside (length c.args.bank.now)) c.take_proof-extra.ensures c.requires.kept.inside) in
    case_passes fs parts m at c.args.function.now is c.args.bank.now c.test.new.bank c.args.jobs.now.items c.take_proof-extra.new.jobs.items c.push_branches.new.jobs.items c.take_proof-extra.result
    c.args.symbols.now c.in-Ok-attempt.field-0 c.test.ensures.extends c.take_proof-extra.ensures inside.0
    (same_added c.args.bank.now c.test.new.bank c.test.ensures.extends c.take_proof-extra.result.value inside.1)
    (subst (λ (x : Extra). HasBranches c.take_proof-extra.new.jobs.items c.push_branches.new.jobs.items x c.in-Ok-attempt.field-0) c.deref-3.ensures c.in-Ok-attempt-2.ensures)
    (subst (λ (x : Cuts). IsTestAt m.listed (started m.listed.frame (start_seen x.start)).path c.args.symbols.now c.test.new.bank (Ok c.in-Ok-attempt.field-0)) (c.deref-2.ensures ∙ ap (λ (e : Extra). e.cuts.value) c.deref.ensures)
    (c.in-Ok-attempt.ensures.test m.listed is.listed))

pub returns-3-clause-kept : goal.returns-3-clause-kept
returns-3-clause-kept c =
    case_kept c.args.function.now c.args.bank.now c.test.new.bank _ _ c.args.jobs.now.items c.take_proof-extra.new.jobs.items c.push_branches.new.jobs.items c.take_proof-extra.result c.in-Ok-attempt.field-0
    c.requires.kept c.test.ensures.extends c.take_proof-extra.ensures
    (subst (λ (x : Extra). HasBranches c.take_proof-extra.new.jobs.items c.push_branches.new.jobs.items x c.in-Ok-attempt.field-0) c.deref-3.ensures c.in-Ok-attempt-2.ensures)
    c.in-Ok-attempt.ensures.within

pub returns-3-clause-follows : goal.returns-3-clause-follows
returns-3-clause-follows c =
    case_follows c.args.symbols.now c.args.jobs.now.items c.take_proof-extra.new.jobs.items c.push_branches.new.jobs.items c.take_proof-extra.result c.take_proof-extra.result.value c.in-Ok-attempt.field-0
    c.take_proof-extra.ensures
    (subst (λ (x : Extra). HasBranches c.take_proof-extra.new.jobs.items c.push_branches.new.jobs.items x c.in-Ok-attempt.field-0) c.deref-3.ensures c.in-Ok-attempt-2.ensures)
