use Rattle.cert_run_spec.proofs.FileWords.{files_have_words}
use Rattle.cert_run_spec.proofs.laws.files_have_words.Goals as goal

pub returns : goal.returns
returns c = files_have_words
