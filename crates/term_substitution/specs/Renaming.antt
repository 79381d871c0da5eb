-- Variables of some families that belong to an instance, as a function's own variables do where its call is inlined.
use Rattle.std.specs.Prelude.{ℕ, Bool, if◌then◌else◌, List}
use Rattle.std.specs.List.{list_any}
use Rattle.term_core_spec.specs.declared.Family.{Family}
use Rattle.term_core_spec.specs.declared.Variable.{Variable}
use Rattle.term_core_spec.specs.contracts.FamilyPartialEq.TheImpl as family_test
use Rattle.term_core_spec.specs.Substitution.{at_instance}

-- the variable is of one of the families
abbrev pub is_own : List Family → Variable → Bool
is_own own v = list_any (λ family. family_test.ghosts.eq family v.family) own

-- a variable of the families belongs to the instance; another one stays, as registers and memories do
abbrev pub in_instance : List Family → ℕ → Variable → Variable
in_instance own instance v = if is_own own v then at_instance instance v else v
