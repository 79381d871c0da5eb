use Rattle.cert_run_spec.proofs.Listing.{one_list}
use Rattle.cert_run_spec.proofs.laws.files_have_one_list.Goals as goal

pub returns : goal.returns
returns c = one_list
