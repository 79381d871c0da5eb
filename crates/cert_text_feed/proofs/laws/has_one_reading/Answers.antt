use Rattle.cert_text_feed.proofs.Reading.{one_reading}
use Rattle.cert_text_feed.proofs.laws.has_one_reading.Goals as goal

pub returns : goal.returns
returns c = one_reading
