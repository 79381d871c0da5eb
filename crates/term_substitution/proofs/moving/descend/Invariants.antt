use Rattle.std.proofs.Common.{◌<◌, length}
use Rattle.std.specs.HashMap.{get}
use Rattle.std.specs.Prelude.{nat_eq}
use Rattle.term_bank.specs.Nodes.{IsNode, build, Holds}
use Rattle.term_substitution.specs.Paths.{Descends, IsNew}
use Rattle.term_substitution.proofs.moving.descend.Given as goal

abbrev pub invariant-down : goal.invariant-down
invariant-down l = record {
  within : l.lowest < length l.from;
  new : IsNew (get nat_eq l.done) l.lowest;
  children : IsNode l.lowest l.node;
  tree : Holds l.from l.lowest (build l.from l.node);
  path : Descends (length l.from) l.id l.fn.path.items l.lowest l.path.items;
}

abbrev pub decreases-down : goal.decreases-down
decreases-down l = l.lowest
