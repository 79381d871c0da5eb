use Rattle.bit_blast_laws.proofs.NormalWhole.{normal_from}
use Rattle.bit_blast_laws.proofs.normal_forms.normal_forms_load_from_variables.Goals as goal

pub returns : goal.returns
returns c = normal_from
