use Rattle.std.proofs.Common.{[], ◌∷◌}
use Rattle.graph_core.proofs.Seeing.{seen_later}
use Rattle.graph_core.proofs.variables.add_bindings.Goals as goal

pub add_term-requires-clause-seen : goal.add_term-requires-clause-seen
add_term-requires-clause-seen c =
    seen_later c.args.bank.now c.loop-binding.variables.keys (_ ∷ []) c.insert.new.self.keys c.loop-binding.seen.keys c.in_ok-insert.ensures.keys c.loop-binding.invariant.seen
