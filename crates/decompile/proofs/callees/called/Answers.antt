use Rattle.std.proofs.Common.{◌∙◌, ap}
use Rattle.std.specs.Prelude.{option_and_then}
use Rattle.code_reach.specs.Flows.{flow_seen}
use Rattle.decompile.specs.Callees.{aligned_of}
use Rattle.decompile.proofs.Aligned.{callee_aligned}
use Rattle.decompile.proofs.callees.called.Goals as goal

pub returns-in-Some : goal.returns-in-Some
returns-in-Some c =
    λ image. c.aligned.ensures ∙ ap (option_and_then aligned_of) (c.in-Some.ensures image) ∙ callee_aligned c.args.entry c.args.size (flow_seen image c.args.item.now.flow)

pub returns-in-None : goal.returns-in-None
returns-in-None c = λ image. ap (option_and_then aligned_of) (c.in-None.ensures image) ∙ callee_aligned c.args.entry c.args.size (flow_seen image c.args.item.now.flow)
