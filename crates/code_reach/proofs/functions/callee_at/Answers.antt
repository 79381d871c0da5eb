use Rattle.std.proofs.Common.{◌∙◌, ap}
use Rattle.std.specs.Prelude.{option_and_then}
use Rattle.code_reach.specs.Flows.{called_by}
use Rattle.code_reach.proofs.Called.{called-plain}
use Rattle.code_reach.proofs.functions.callee_at.Goals as goal

pub returns-in_err-flow : goal.returns-in_err-flow
returns-in_err-flow c =
    c.from_residual.ensures
    ∙ (ap (λ o. option_and_then (called_by c.args.entry c.args.size) o) c.in_err-flow.ensures ∙ called-plain c.args.image.now c.args.entry c.args.size c.args.address)

pub returns : goal.returns
returns c =
    c.callee.ensures c.args.image.now
    ∙ (ap (λ o. option_and_then (called_by c.args.entry c.args.size) o) c.in_ok-flow.ensures ∙ called-plain c.args.image.now c.args.entry c.args.size c.args.address)
