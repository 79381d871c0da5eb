use Rattle.validity_laws.proofs.Shown.{shown_parts_are_valid}
use Rattle.validity_laws.proofs.certificates.functions_shown_in_order_are_valid.Goals as goal

pub returns : goal.returns
returns c = shown_parts_are_valid
