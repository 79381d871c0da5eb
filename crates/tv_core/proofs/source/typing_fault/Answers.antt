use Rattle.std.proofs.Common.{◌≡◌, ℕ, refl}
use Rattle.c_types_spec.specs.declared.TypeFaultKind.{TypeFaultKind}
use Rattle.c_types.specs.Typed.{TypeFault, At}
use Rattle.tv_core_spec.specs.Source.{no_types}
use Rattle.tv_core.proofs.source.typing_fault.Goals as goal

one_fault : (fault : TypeFault) → (kind : TypeFaultKind) × (offset : ℕ) × (fault ≡ At kind offset)
one_fault (At kind offset) = (kind, offset, refl)

pub returns-in-Fault-At : goal.returns-in-Fault-At
returns-in-Fault-At c =
    let known = one_fault c.in-Fault-At.field-0 in
    rw known.2 (λ text tree has defines h. no_types tree known.0 known.1 has defines (rw (c.in-Fault-At.is, known.2) at h))
