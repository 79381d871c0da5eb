use Rattle.std.proofs.Common.{subst}
use Rattle.std.specs.Prelude.{nat_eq, IfSome}
use Rattle.indexmap.specs.IndexMap.{get}
use Rattle.code_reach_spec.specs.Code.{IsStack}
use Rattle.pair_setup.proofs.Totals.{one-stack-more}
use Rattle.pair_setup.proofs.stacks.leave.Goals as goal

pub returns-in_ok-insert-in-Some : goal.returns-in_ok-insert-in-Some
returns-in_ok-insert-in-Some c =
    one-stack-more c.args.image.now (get nat_eq c.args.known.now) (get nat_eq c.insert.new.self) c.args.entry c.in-Some.stack c.requires
    (subst (λ o. IfSome o (IsStack c.args.image.now c.args.entry)) c.in-Some.is c.in-Ok-attempt.ensures) c.in_ok-insert-in-Some.ensures.updates.0
