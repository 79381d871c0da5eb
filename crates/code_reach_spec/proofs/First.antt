-- There is one first fault, and each function that is reached has no fault where none of them has.
use Rattle.std.proofs.Common.{◌≡◌, ℕ, List, [], ◌∷◌, get_or, refl, sym, ◌∙◌, ap, subst, arith, Some}
use Rattle.elf_read_spec.specs.Image.{Image, size_at}
use Rattle.code_reach_spec.specs.declared.CodeKind.{CodeKind}
use Rattle.code_reach_spec.specs.declared.CodeKind.TheVariants.{NoFunction, Ambiguous, Empty, Writable, Misplaced, Undecoded, Indirect, Leaves, Overlap}
use Rattle.code_reach_spec.specs.Code.{Reaches}
use Rattle.code_reach_spec.specs.Faults.{rank, IsFirst, of_function, HasNoFault, ReachesNoFault}

kinds : List CodeKind
kinds = NoFunction ∷ NoFunction ∷ Ambiguous ∷ Empty ∷ Writable ∷ Misplaced ∷ Undecoded ∷ Indirect ∷ Leaves ∷ Overlap ∷ []

kind-rank : (kind : CodeKind) → get_or kinds (rank kind) NoFunction ≡ kind
unfolding kinds
kind-rank NoFunction = refl
kind-rank Ambiguous = refl
kind-rank Empty = refl
kind-rank Writable = refl
kind-rank Misplaced = refl
kind-rank Undecoded = refl
kind-rank Indirect = refl
kind-rank Leaves = refl
kind-rank Overlap = refl

pub same_kind : (kind other : CodeKind) → rank kind ≡ rank other → kind ≡ other
same_kind kind other e = sym (kind-rank kind) ∙ (ap (λ r. get_or kinds r NoFunction) e ∙ kind-rank other)

-- there is one first fault
pub same_first : (F : CodeKind → (address : ℕ) → Type 0) (kind other : CodeKind) (address at : ℕ) → IsFirst F kind address → IsFirst F other at
    → (kind ≡ other) × (address ≡ at)
same_first F kind other address at one two =
    let here : address ≡ at = omega (arith, one.lowest other at two.fault, two.lowest kind address one.fault) in
    (same_kind kind other (omega (arith, one.least other (subst (λ z. F other z) (sym here) two.fault), two.least kind (subst (λ z. F kind z) here one.fault))), here)

pub each_without : (image : Image) (entry other size : ℕ) → ReachesNoFault image entry → Reaches image entry other → size_at image other ≡ Some size
    → HasNoFault image other size
each_without image entry other size sound reached is = λ kind address fault. sound kind address (of_function other size kind address reached is fault)
