use Rattle.std.proofs.lemmas.Bool.{both_ways}
use Rattle.sim_cut.proofs.allowed.passes_both.Goals as goal

pub returns-then-passes : goal.returns-then-passes
returns-then-passes c = λ a d i k binary source at_binary at_source.
    let first = c.passes.ensures a i binary at_binary in
    let second = c.passes-then-passes.ensures d k source at_source in
    ((λ is. (first.0 c.if-passes.true, second.0 is)), (λ pair. second.1 pair.1))

pub returns-else-passes : goal.returns-else-passes
returns-else-passes c = λ a d i k binary source at_binary at_source.
    let first = c.passes.ensures a i binary at_binary in
    ((λ is. absurd (both_ways _ c.if-passes.false is)), (λ pair. first.1 pair.0))
