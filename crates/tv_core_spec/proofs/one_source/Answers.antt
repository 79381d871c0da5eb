use Rattle.tv_core_spec.proofs.Exists.{each-source}
use Rattle.tv_core_spec.proofs.Sources.{one-source}
use Rattle.tv_core_spec.proofs.one_source.Goals as goal

pub returns : goal.returns
returns c = record { one = one-source; each = each-source }
