-- What reaches no fault has no first one.
use Rattle.std.proofs.Common.{◌≡◌, ℕ, subst}
use Rattle.elf_read_spec.specs.Image.{Image}
use Rattle.code_reach_spec.specs.Faults.{IsFirst, IsReachFault, ReachesNoFault}
use Rattle.code_reach.specs.Found.{IsReachError}
use Rattle.code_reach.specs.declared.faults.CodeFault.{CodeFault}
use Rattle.attempt.specs.declared.refusal.Refusal.{Refusal}
use Rattle.attempt.specs.declared.refusal.Refusal.TheVariants.{Fault}

pub no_fault : (image : Image) (entry : ℕ) (error : Refusal CodeFault) (fault : CodeFault) → ReachesNoFault image entry → IsReachError image entry error → error ≡ Fault fault → ⊥
no_fault image entry error fault sound is_error is =
    let first : IsFirst (IsReachFault image entry) fault.kind fault.address = subst (IsReachError image entry) is is_error in
    sound fault.kind fault.address first.fault
