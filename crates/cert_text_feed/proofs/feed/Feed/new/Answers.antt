use Rattle.std.proofs.Common.{rules}
use Rattle.cert_text_feed.proofs.Going.{nothing_yet}
use Rattle.cert_text_feed.proofs.feed.Feed.new.Goals as goal

pub returns-2 : goal.returns-2
returns-2 c = nothing_yet c.push_expected.new.stack.items c.new-stack.result.items c.new.result.items (search rules) (search rules) (search rules)
