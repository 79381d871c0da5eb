use Rattle.std.proofs.Common.{◌∙◌, sym, subst}
use Rattle.std.specs.Prelude.{nat_eq}
use Rattle.indexmap.specs.IndexMap.{get}
use Rattle.pair_setup.specs.Stacks.{IsRaised}
use Rattle.pair_setup.proofs.stacks.raised.Goals as goal

pub returns-in-Some-copied : goal.returns-in-Some-copied
returns-in-Some-copied c =
    subst (λ o. IsRaised (get nat_eq c.args.known.now) c.args.deepest o c.max.result) (sym c.in-Some.is)
    (c.in-Some-copied.stack, sym c.get.ensures.value ∙ (sym c.copied.ensures ∙ c.in-Some-copied.is), c.max.ensures)
