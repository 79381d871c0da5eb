use Rattle.std.proofs.Common.{get_or, ap, subst, arith}
use Rattle.std.specs.Prelude.{Contains}
use Rattle.proof_tree.specs.Ahead.{Grows}
use Rattle.sim_rules.specs.Tables.{list_at, lists_of}
use Rattle.sim_rules.proofs.Searching.{walked-start, walked-next, walked-all}
use Rattle.sim_rules.proofs.search.search.Goals as goal

pub loop-next-init : goal.loop-next-init
loop-next-init c = walked-start (lists_of c.args.before.now) c.args.found.now.keys

pub loop-next-preserved : goal.loop-next-preserved
loop-next-preserved c =
    walked-next (lists_of c.args.before.now) c.args.found.now.keys c.loop-next.next c.loop-next.found.keys c.add_before.new.found.keys c.loop-next.invariant (omega arith)
    (subst (λ m. Grows (λ k. Contains (list_at (lists_of c.args.before.now) m) k) c.loop-next.found.keys c.add_before.new.found.keys) (ap (λ l. get_or l c.loop-next.next 0) c.as_slice.ensures.keys) c.in-Ok-attempt.ensures)

pub returns : goal.returns
returns c = walked-all (lists_of c.args.before.now) c.args.found.now.keys c.loop-next.next c.loop-next.found.keys c.loop-next.invariant (omega arith)
