use Rattle.std.proofs.Common.{◌∙◌, sym}
use Rattle.code_reach.proofs.Acyclic.{stack-acyclic}
use Rattle.pair_setup.proofs.reach.stack_of.Goals as goal

pub returns-in-Some-clause-found : goal.returns-in-Some-clause-found
returns-in-Some-clause-found c =
    c.requires.stacks c.args.entry c.in-Some.stack (sym c.get.ensures.value ∙ (sym c.copied.ensures ∙ c.in-Some.is))

pub returns-in-Some-clause-acyclic : goal.returns-in-Some-clause-acyclic
returns-in-Some-clause-acyclic c =
    stack-acyclic c.args.image.now c.args.entry c.in-Some.stack
    (c.requires.stacks c.args.entry c.in-Some.stack (sym c.get.ensures.value ∙ (sym c.copied.ensures ∙ c.in-Some.is)))
