use Rattle.std.proofs.Common.{ℕ, subst, arith}
use Rattle.c_graph_layout.specs.Exits.{exits_of}
use Rattle.c_graph.specs.Laid.{AreFollowed}
use Rattle.c_graph.proofs.block.followers.Goals as goal

pub add_followers-requires-clause-none : goal.add_followers-requires-clause-none
add_followers-requires-clause-none c = c.new-found.ensures.items

pub add_followers-requires-clause-within : goal.add_followers-requires-clause-within
add_followers-requires-clause-within c = omega (arith, c.in-Ok-attempt.ensures)

pub returns-3 : goal.returns-3
returns-3 c = λ f.
    subst (λ (n : ℕ). AreFollowed f c.args.actions.now n c.args.to (exits_of c.args.exits) 0 c.add_followers.new.found.items) c.in-Ok-attempt.ensures (c.in-Ok-attempt-2.ensures f)
