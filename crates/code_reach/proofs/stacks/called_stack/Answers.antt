use Rattle.std.proofs.Common.{subst}
use Rattle.std.specs.Prelude.{nat_eq}
use Rattle.indexmap.specs.IndexMap.{get}
use Rattle.code_reach.specs.Stacks.{IsDeepest}
use Rattle.code_reach.proofs.Deepest.{greatest-of-calls}
use Rattle.code_reach.proofs.stacks.called_stack.Goals as goal

pub returns : goal.returns
returns c =
    greatest-of-calls c.args.image.now c.args.entry (get nat_eq c.args.known.now) c.in_ok-calls.calls.keys c.deepest.result c.in_ok-calls.ensures
    (subst (λ l. IsDeepest (get nat_eq c.args.known.now) l c.deepest.result) c.as_slice.ensures.keys c.deepest.ensures)
