use Rattle.c_types_laws.proofs.Wrong.{no_local, no_global, no_target, no_wide, no_set, no_call, no_return, no_numbers}
use Rattle.std.proofs.Common.{true≢false, sym}
use Rattle.c_types_laws.proofs.laws.wrong_cores_are_not_typed.Goals as goal

pub returns : goal.returns
returns c = record { values = (no_local, no_global, no_target, no_wide); statements = (no_set, no_call, no_return); places = (λ h. true≢false (sym h), no_numbers) }
