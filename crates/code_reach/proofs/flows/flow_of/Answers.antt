use Rattle.std.proofs.Common.{◌∙◌, ap, ap₂}
use Rattle.code_reach_spec.specs.Code.{with_table, flow_of}
use Rattle.code_reach.proofs.flows.flow_of.Goals as goal

pub returns : goal.returns
returns c =
    c.with_table.ensures c.args.image.now
    ∙ ap₂ (λ t f. with_table t f) c.in_ok-found.ensures
    (c.plain_flow-flow.ensures c.args.image.now ∙ ap (λ p. flow_of p c.args.address c.args.instruction.now) c.instruction_before-previous.ensures)
