use Rattle.std.proofs.Common.{refl}
use Rattle.sim_rules_spec.specs.Rules.{at_cut}
use Rattle.cert_check_jobs.proofs.Answered.{blank}
use Rattle.cert_check_jobs.proofs.goals.cut_goals.Goals as goal

pub frame_goals-requires : goal.frame_goals-requires
frame_goals-requires c =
    let is = c.in-Ok-attempt.ensures.cut (blank c.args.function.now.stack) refl refl in
    record { binary_below = is.of_binary.below; source_below = is.of_source.below }

pub returns-2-clause-goals : goal.returns-2-clause-goals
returns-2-clause-goals c = λ f is.
    let cut = c.in-Ok-attempt.ensures.cut f.convention is.zone_from_is is.zone_to_is in
    c.frame_goals.ensures.goals f (at_cut f.convention) is.convention_is (record { of_binary = cut.of_binary; of_source = cut.of_source })
