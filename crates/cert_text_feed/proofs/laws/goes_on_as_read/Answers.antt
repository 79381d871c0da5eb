use Rattle.cert_text_feed.proofs.Reading.{goes_on}
use Rattle.cert_text_feed.proofs.laws.goes_on_as_read.Goals as goal

pub returns : goal.returns
returns c = goes_on
