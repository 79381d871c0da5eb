use Rattle.std.proofs.Common.{◌∙◌, ◌<◌, List, length, sym, ap, subst}
use Rattle.std.proofs.lemmas.List.Elements.{All-nil}
use Rattle.proof_tree_spec.specs.Frames.{Frame}
use Rattle.cert_check_frames.specs.declared.jobs.Branch.{Branch}
use Rattle.cert_check_frames.specs.Jobs.{AreBelow, frame_with, premises_at}
use Rattle.cert_check_frames.specs.Goals.{AnswersGoals}
use Rattle.cert_check_frames.proofs.AtEntry.{opened_both, with_none}
use Rattle.prove_run.proofs.goals.leaf_obligations.Goals as goal

pub leaf_goals-requires-clause-opened : goal.leaf_goals-requires-clause-opened
leaf_goals-requires-clause-opened c = opened_both c.args.function.now c.known.new.bank c.known-2.new.bank _ c.known-2.ensures.extends c.in-Ok-attempt.ensures.terms c.in-Ok-attempt-source.ensures.terms

pub leaf_goals-requires-clause-below : goal.leaf_goals-requires-clause-below
leaf_goals-requires-clause-below c =
    subst (AreBelow (length c.known-2.new.bank)) (sym (c.as_slice.ensures.value ∙ c.new-none.ensures.items)) (All-nil (λ (b : Branch). b.test < length c.known-2.new.bank))

pub returns-3-clause-goals : goal.returns-3-clause-goals
returns-3-clause-goals c = λ f is.
    let none = ap (λ (premises : List Branch). frame_with f.frame (premises_at c.known-2.new.bank premises)) (c.as_slice.ensures.value ∙ c.new-none.ensures.items) ∙ with_none f.frame in
    subst (λ (frame : Frame). AnswersGoals f frame c.leaf_goals.new.bank c.leaf_goals.result) none (c.leaf_goals.ensures.goals f is)
