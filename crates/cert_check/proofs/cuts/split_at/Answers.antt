use Rattle.std.proofs.Common.{◌∙◌, List, length, sym, subst}
use Rattle.std.specs.Prelude.{◌↔◌, IsTrue}
use Rattle.std.proofs.lemmas.Bool.{false≢true}
use Rattle.proof_tree_spec.specs.Frames.{LetsPass}
use Rattle.proof_tree.specs.Proofs.{points_of}
use Rattle.cert_check_frames.specs.Listed.{frame_at}
use Rattle.cert_check_jobs.specs.declared.extra.Extra.{Extra}
use Rattle.cert_check_jobs.specs.declared.jobs.Job.TheVariants.{Prove}
use Rattle.cert_check_jobs.specs.Drafts.{IsNewDraft}
use Rattle.cert_check_jobs.specs.Extras.{IsBelow, added_at, frame_added}
use Rattle.cert_check_jobs.specs.Jobs.{AreInside}
use Rattle.cert_check.proofs.Pushed.{inside_top}
use Rattle.cert_check.proofs.Splitting.{split_count, split_inside, split_passed, split_passes}
use Rattle.cert_check.proofs.Tops.{split_follows, split_top}
use Rattle.cert_check.proofs.cuts.split_at.Goals as goal

pub take_proof-extra-requires : goal.take_proof-extra-requires
take_proof-extra-requires c = split_top (points_of c.args.line.now.points) c.args.line.now.enter c.args.line.now.step c.args.line.now.relations c.args.jobs.now.items c.requires.next

pub is_allowed-requires : goal.is_allowed-requires
is_allowed-requires c =
    subst (IsBelow (length c.args.bank.now)) (sym c.deref.ensures)
    (inside_top (length c.args.bank.now) c.take_proof-extra.new.jobs.items (Prove c.take_proof-extra.result)
    (subst (AreInside (length c.args.bank.now)) c.take_proof-extra.ensures c.requires.inside)).1

-- a count 0
pub returns-then-not-both_count-clause-step : goal.returns-then-not-both_count-clause-step
returns-then-not-both_count-clause-step c = λ fs parts m at is.
    split_count fs parts m at c.args.function.now is c.args.bank.now c.args.jobs.now.items c.take_proof-extra.new.jobs.items c.take_proof-extra.result (points_of c.args.line.now.points)
    c.args.line.now.enter c.args.line.now.step c.args.line.now.relations c.take_proof-extra.ensures c.args.nodes c.requires.found
    (λ enters steps. false≢true (sym c.if-not-both_count.true ∙ c.both_count.ensures.1 (enters, steps)))

-- a goal that doesn't let it pass
pub returns-then-not-allowed-clause-step : goal.returns-then-not-allowed-clause-step
returns-then-not-allowed-clause-step c = λ fs parts m at is.
    let counts = c.both_count.ensures.0 c.if-not-both_count.false in
    let passes = subst (λ (x : Extra). IsTrue c.in-Ok-attempt.field-0 ↔ LetsPass (frame_added (frame_at c.args.function.now) (added_at c.args.bank.now x)) c.args.nodes) c.deref.ensures c.in-Ok-attempt.ensures in
    split_passed fs parts m at c.args.function.now is c.args.bank.now c.args.jobs.now.items c.take_proof-extra.new.jobs.items c.take_proof-extra.result (points_of c.args.line.now.points)
    c.args.line.now.enter c.args.line.now.step c.args.line.now.relations c.take_proof-extra.ensures c.args.nodes c.requires.found counts.0 counts.1
    (λ lets. false≢true (sym c.if-not-allowed.true ∙ passes.1 lets))

pub returns-4-clause-step : goal.returns-4-clause-step
returns-4-clause-step c = λ fs parts m at is.
    let counts = c.both_count.ensures.0 c.if-not-both_count.false in
    let passes = subst (λ (x : Extra). IsTrue c.in-Ok-attempt.field-0 ↔ LetsPass (frame_added (frame_at c.args.function.now) (added_at c.args.bank.now x)) c.args.nodes) c.deref.ensures c.in-Ok-attempt.ensures in
    let drafted = subst (λ (path : List _). IsNewDraft c.take_proof-extra.result c.args.nodes path c.args.line.now.enter c.args.line.now.step c.in-Ok-attempt-draft.field-0.value) c.as_slice-path.ensures.value c.in-Ok-attempt-draft.ensures in
    split_passes fs parts m at c.args.function.now is c.args.bank.now c.args.jobs.now.items c.take_proof-extra.new.jobs.items c.take_proof-extra.result (points_of c.args.line.now.points)
    c.args.line.now.enter c.args.line.now.step c.args.line.now.relations c.take_proof-extra.ensures c.args.nodes c.requires.found c.push_draft.new.jobs.items c.in-Ok-attempt-draft.field-0 _
    counts.0 counts.1 (passes.0 c.if-not-allowed.false) drafted c.new-2.ensures.items c.in-Ok-attempt-2.ensures

pub returns-4-clause-inside : goal.returns-4-clause-inside
returns-4-clause-inside c =
    split_inside (length c.args.bank.now) c.args.jobs.now.items c.take_proof-extra.new.jobs.items c.push_draft.new.jobs.items c.take_proof-extra.result c.in-Ok-attempt-draft.field-0 _
    c.args.line.now.relations c.requires.inside c.take_proof-extra.ensures c.in-Ok-attempt-draft.ensures.extra_is c.new-2.ensures.items c.in-Ok-attempt-2.ensures

pub returns-4-clause-follows : goal.returns-4-clause-follows
returns-4-clause-follows c =
    split_follows (points_of c.args.line.now.points) c.args.line.now.enter c.args.line.now.step c.args.line.now.relations c.args.jobs.now.items c.take_proof-extra.new.jobs.items
    c.push_draft.new.jobs.items c.take_proof-extra.result c.in-Ok-attempt-draft.field-0 _ c.take_proof-extra.ensures c.in-Ok-attempt-2.ensures
