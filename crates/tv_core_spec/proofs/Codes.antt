-- The first of several names whose code has a fault is one, and so is its fault.
use Rattle.std.proofs.Common.{◌≡◌, ℕ, List, refl, sym, ◌∙◌, subst}
use Rattle.elf_read_spec.specs.Image.{Image}
use Rattle.code_reach_spec.specs.declared.CodeKind.{CodeKind}
use Rattle.code_reach_spec.specs.Faults.{IsReachFault, IsFirst}
use Rattle.code_reach_spec.proofs.First.{same_first}
use Rattle.pair_setup_spec.specs.Code.{HasCodeFault, ambiguous, of_reach, IsSoundCode, IsFirstCodeFault}
use Rattle.tv_core_spec.proofs.Firsts.{first_same}

-- ---- the fault of a name

pub sound_or_faulty : (image : Image) (name : List ℕ) (kind : CodeKind) (address : ℕ) → IsSoundCode image name → HasCodeFault image name kind address → ⊥
sound_or_faulty image name _ _ (entry, code) (ambiguous first second named) = let other = code.named in absurd (cc)
sound_or_faulty image name _ _ (entry, code) (of_reach at kind address named first) =
    let other = code.named in
    let same : at ≡ entry = cc in
    code.sound kind address (subst (λ e. IsReachFault image e kind address) same first.fault)

one_fault : (image : Image) (name : List ℕ) (kind other : CodeKind) (address place : ℕ) → HasCodeFault image name kind address → HasCodeFault image name other place
    → (kind ≡ other) × (address ≡ place)
one_fault image name _ _ _ _ (ambiguous first second named) (ambiguous third fourth renamed) = let same : second ≡ fourth = cc in (refl, same)
one_fault image name _ _ _ _ (ambiguous first second named) (of_reach entry kind address renamed fault) = absurd (cc)
one_fault image name _ _ _ _ (of_reach entry kind address named fault) (ambiguous first second renamed) = absurd (cc)
one_fault image name _ _ _ _ (of_reach entry kind address named fault) (of_reach at other place renamed found) =
    let same : at ≡ entry = cc in
    same_first (IsReachFault image entry) kind other address place fault (subst (λ e. IsFirst (IsReachFault image e) other place) same found)

-- ---- the first name with a fault

pub record Same (kind other : CodeKind) (one two : List ℕ) (address place : ℕ) : Type 0 where
  pub kind_is : kind ≡ other
  pub name_is : one ≡ two
  pub address_is : address ≡ place

pub one_first : (image : Image) (names : List (List ℕ)) (kind other : CodeKind) (one two : List ℕ) (address place : ℕ)
    → IsFirstCodeFault image names kind one address → IsFirstCodeFault image names other two place → Same kind other one two address place
one_first image names kind other one two address place x y =
    let name_is = first_same (IsSoundCode image) x.prefix y.prefix x.rest y.rest one two (sym x.split ∙ y.split) x.earlier y.earlier
    (λ sound. sound_or_faulty image one kind address sound x.fault) (λ sound. sound_or_faulty image two other place sound y.fault) in
    let faults = one_fault image one kind other address place x.fault (subst (λ n. HasCodeFault image n other place) (sym name_is) y.fault) in
    record { kind_is = faults.0; name_is = name_is; address_is = faults.1 }
