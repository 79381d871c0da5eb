use Rattle.cert_run_spec.proofs.Listing.{one_pairing}
use Rattle.cert_run_spec.proofs.laws.lists_have_one_pairing.Goals as goal

pub returns : goal.returns
returns c = one_pairing
