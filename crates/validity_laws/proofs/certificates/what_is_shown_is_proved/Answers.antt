use Rattle.validity_laws.proofs.Shown.{shown_is_proved}
use Rattle.validity_laws.proofs.certificates.what_is_shown_is_proved.Goals as goal

pub returns : goal.returns
returns c = shown_is_proved
