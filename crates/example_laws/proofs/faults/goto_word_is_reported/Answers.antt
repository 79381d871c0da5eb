use Rattle.example_laws.proofs.FaultsWorked as worked
use Rattle.example_laws.proofs.faults.goto_word_is_reported.Goals as goal

pub returns : goal.returns
returns c = worked.goto_word
