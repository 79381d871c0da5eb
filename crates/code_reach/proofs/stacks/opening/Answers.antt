use Rattle.std.proofs.Common.{◌≤◌, ◌^◌, ap, sym, subst, ◌∙◌}
use Rattle.code_reach_spec.specs.Code.{opening_of}
use Rattle.code_reach.proofs.Shallow.{opening_short}
use Rattle.code_reach.proofs.stacks.opening.Goals as goal

pub returns-in-Some-clause-short : goal.returns-in-Some-clause-short
returns-in-Some-clause-short c =
    subst (λ n. n ≤ 2 ^ 11) (sym (c.lowering.ensures ∙ ap opening_of (sym c.in-Some.is ∙ c.instruction_at.ensures)))
    (opening_short c.args.image.now c.args.address)
