use Rattle.std.proofs.Common.{true, map}
use Rattle.pair_setup.specs.declared.outcome.Function.{Function}
use Rattle.tv_core.proofs.Made.{AreMade}
use Rattle.tv_core.proofs.functions.all_valid.Given as goal

abbrev pub invariant-names : goal.invariant-names
invariant-names l = AreMade l.list l.functions (map (λ (f : Function). true) l.functions) l.i l.made.items
