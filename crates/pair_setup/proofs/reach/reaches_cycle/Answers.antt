use Rattle.std.proofs.Common.{true≢false, sym, None, get_or}
use Rattle.pair_setup.proofs.Added.{some-of}
use Rattle.pair_setup.proofs.reach.reaches_cycle.Goals as goal

pub returns-then-is_known : goal.returns-then-is_known
returns-then-is_known c =
    let known = some-of (get_or c.args.depths.now c.args.start None) (c.is_known.ensures c.if-is_known.true) in
    (λ no. absurd (true≢false (sym no)), λ cyclic. absurd (c.requires c.args.start known.0 known.1 cyclic))
