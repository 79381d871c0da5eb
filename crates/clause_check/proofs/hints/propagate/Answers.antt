use Rattle.std.proofs.Common.{refl, ◌≡◌, ◌∙◌, ◌+◌, ◌-◌, ◌++◌, ◌∷◌, [], length, drop, true, Ok, Some, ap, sym, subst, length-set}
use Rattle.std.specs.Prelude.{◌==◌}
use Rattle.clause_check_spec.specs.declared.Literal.{Literal}
use Rattle.clause_check_spec.specs.Clause.{are_of}
use Rattle.clause_check_spec.specs.Step.{propagate}
use Rattle.clause_check.specs.Signs.{Reports}
use Rattle.clause_check.specs.Answers.{reported, outcome_after, IsOpenAfter}
use Rattle.clause_check.proofs.More.{reports_more}
use Rattle.clause_check.proofs.Propagation.{propagate_by, propagate_end}
use Rattle.clause_check.proofs.hints.propagate.Goals as goal

pub found_at-requires : goal.found_at-requires
found_at-requires c = subst (λ n. are_of n c.args.clauses.now.clauses ≡ true) (sym c.loop-done.invariant.len) c.requires

pub set-requires : goal.set-requires
set-requires c =
    let answer = c.in-Ok-Some.is ∙ ap Ok c.in-Ok-Some.field-0-is in
    let fresh = subst (IsOpenAfter c.loop-done.stamps) answer (c.forced.ensures.«open» c.loop-done.stamps c.found_at.ensures.«open») in
    record { named = fresh.0; unset = fresh.1 }

pub returns-in-Ok-None-clause-outcome : goal.returns-in-Ok-None-clause-outcome
returns-in-Ok-None-clause-outcome c = λ truths reports.
    let so_far = c.loop-done.invariant.reported truths reports in
    let answer = c.in-Ok-None.is ∙ ap Ok c.in-Ok-None.field-0-is in
    let on = λ (l : Literal). propagate c.args.clauses.now.clauses (drop (c.loop-done.done + 1) c.args.hints.now) (so_far.0 ++ l ∷ []) (c.loop-done.done + 1) in
    sym (so_far.2
    ∙ propagate_by c.args.clauses.now.clauses c.args.hints.now so_far.0 c.loop-done.done (reported c.found_at.result) c.forced.result
    (c.loop-done.done + 1 == length c.args.hints.now) c.loop-done-test.true (c.found_at.ensures.reported so_far.0 so_far.1) refl c.forced.ensures.after
    ∙ ap (λ r. outcome_after (c.loop-done.done + 1) r on) answer)

pub returns-in-Err-clause-outcome : goal.returns-in-Err-clause-outcome
returns-in-Err-clause-outcome c = λ truths reports.
    let so_far = c.loop-done.invariant.reported truths reports in
    let on = λ (l : Literal). propagate c.args.clauses.now.clauses (drop (c.loop-done.done + 1) c.args.hints.now) (so_far.0 ++ l ∷ []) (c.loop-done.done + 1) in
    sym (so_far.2
    ∙ propagate_by c.args.clauses.now.clauses c.args.hints.now so_far.0 c.loop-done.done (reported c.found_at.result) c.forced.result
    (c.loop-done.done + 1 == length c.args.hints.now) c.loop-done-test.true (c.found_at.ensures.reported so_far.0 so_far.1) refl c.forced.ensures.after
    ∙ ap (λ r. outcome_after (c.loop-done.done + 1) r on) c.in-Err.is)

pub loop-done-preserved : goal.loop-done-preserved
loop-done-preserved c =
    let literal = c.in-Ok-Some.literal in
    let answer = c.in-Ok-Some.is ∙ ap Ok c.in-Ok-Some.field-0-is in
    let fresh = subst (IsOpenAfter c.loop-done.stamps) answer (c.forced.ensures.«open» c.loop-done.stamps c.found_at.ensures.«open») in
    record {
      reported = λ first reports.
          let so_far = c.loop-done.invariant.reported first reports in
          let on = λ (l : Literal). propagate c.args.clauses.now.clauses (drop (c.loop-done.done + 1) c.args.hints.now) (so_far.0 ++ l ∷ []) (c.loop-done.done + 1) in (
            so_far.0 ++ literal ∷ [],
            subst (λ signs. Reports signs (so_far.0 ++ literal ∷ [])) (sym c.set.ensures) (reports_more c.loop-done.stamps so_far.0 literal so_far.1 fresh.0 fresh.1),
            so_far.2
                ∙ propagate_by c.args.clauses.now.clauses c.args.hints.now so_far.0 c.loop-done.done (reported c.found_at.result) c.forced.result
                (c.loop-done.done + 1 == length c.args.hints.now) c.loop-done-test.true (c.found_at.ensures.reported so_far.0 so_far.1) refl c.forced.ensures.after
                ∙ ap (λ r. outcome_after (c.loop-done.done + 1) r on) answer,
          );
      len = ap length c.set.ensures ∙ length-set c.loop-done.stamps (literal.variable - 1) (Some literal.is_negated) ∙ c.loop-done.invariant.len;
    }

pub returns-clause-outcome : goal.returns-clause-outcome
returns-clause-outcome c = λ truths reports.
    let so_far = c.loop-done.invariant.reported truths reports in
    sym (so_far.2
    ∙ propagate_end c.args.clauses.now.clauses c.args.hints.now so_far.0 c.loop-done.done c.loop-done-test.false c.loop-done.auto.done-end)
