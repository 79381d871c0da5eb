use Rattle.std.proofs.Common.{refl, inr, arith}
use Rattle.cert_text_feed.proofs.feed.with_more.Goals as goal

pub returns : goal.returns
returns c = inr (refl, omega (arith, c.if-more-saturating_sub.false, c.saturating_sub.ensures))
