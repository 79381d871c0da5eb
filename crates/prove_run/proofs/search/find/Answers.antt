use Rattle.std.proofs.Common.{ℕ, List, sym, subst}
use Rattle.cert_check_frames.specs.Goals.{HasGoals}
use Rattle.prove_run.proofs.Searched.{found_there}
use Rattle.prove_run.proofs.search.find.Goals as goal

pub returns-in-Ok : goal.returns-in-Ok
returns-in-Ok g c = λ f is truths.
    found_there f c.leaf_obligations.new.bank c.as_slice.result.now
    (subst (λ (ids : List ℕ). HasGoals f f.frame c.leaf_obligations.new.bank ids) (sym c.as_slice.ensures.value) (c.in-Ok.ensures.goals f is))
    c.args.function.now is truths c.search.result c.search.ensures

pub returns : goal.returns
returns g c = λ f is truths. c.why.ensures f (c.in-Err.ensures.goals f is)
