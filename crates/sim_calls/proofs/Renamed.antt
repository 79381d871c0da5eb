-- A term whose variables of all families are renamed to another instance is the term over what a callee leaves.
use Rattle.std.proofs.Common.{◌≡◌, ◌∙◌, true, List, [], ◌∷◌, refl, ap}
use Rattle.std.specs.Prelude.{if◌then◌else◌}
use Rattle.term_core_spec.specs.declared.Family.{Family}
use Rattle.term_core_spec.specs.declared.Family.TheVariants as family
use Rattle.term_core_spec.specs.declared.Variable.{Variable}
use Rattle.term_core_spec.specs.Term.{Term, open_term}
use Rattle.term_core_spec.specs.Substitution.{State, at_instance, renamed, substituted}
use Rattle.term_core_spec.proofs.Substitution.{renamed-is}
use Rattle.term_substitution.specs.Renaming.{is_own, in_instance}
use Rattle.sim_rules_spec.specs.Calls.{left}

abbrev pub families : List Family
families =
    family.Register ∷ family.Entry ∷ family.Parameter ∷ family.Local ∷ family.IsSet ∷ family.SourceMemory ∷ family.BinaryMemory ∷ family.ZoneMemory
    ∷ family.Address ∷ family.LoadedByte ∷ family.Further ∷ []

module _ (v : Variable) where
  all_own : (f : Family) → v.family ≡ f → is_own families (record v { family = f }) ≡ true
  all_own family.Register e = refl
  all_own family.Entry e = refl
  all_own family.Parameter e = refl
  all_own family.Local e = refl
  all_own family.IsSet e = refl
  all_own family.SourceMemory e = refl
  all_own family.BinaryMemory e = refl
  all_own family.ZoneMemory e = refl
  all_own family.Address e = refl
  all_own family.LoadedByte e = refl
  all_own family.Further e = refl

  renamed_one : in_instance families 1 v ≡ at_instance 1 v
  renamed_one = ap (λ b. if b then at_instance 1 v else v) (all_own v.family refl)

pub renamed_left : (t : Term) → renamed (in_instance families 1) t ≡ substituted left t
renamed_left t =
    renamed-is (in_instance families 1) t
    ∙ ap (λ (s : State). substituted s t) (λ i v. open_term (renamed_one v i))
