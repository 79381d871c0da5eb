-- The values that an assignment of the code gives the variables.
use Rattle.std.specs.Prelude.{◌^◌, ◌&&◌, Bool, true, false, nat_lt, if◌then◌else◌, Option, Some, None}
use Rattle.std.specs.HashMap.{get}
use Rattle.term_core_spec.specs.declared.Sort.{Sort}
use Rattle.term_core_spec.specs.declared.Sort.TheVariants as sort
use Rattle.term_core_spec.specs.Sort.{bits, same_width}
use Rattle.term_core_spec.specs.Same.{same_variable}
use Rattle.term_core_spec.specs.Value as spec
use Rattle.term_core.specs.declared.value.Value.{Value}
use Rattle.term_core.specs.declared.value.Value.TheVariants.{Truth, Number, Bytes}
use Rattle.term_core.specs.declared.assignment.Assignment.{Assignment}
use Rattle.term_core.specs.Values.{value_of}

-- the value is of the sort
abbrev pub is_of_sort : Sort → Value → Bool
is_of_sort sort.Truth (Truth truth) = true
is_of_sort (sort.Word w) (Number v number) = same_width v w && nat_lt number (2 ^ bits w)
is_of_sort sort.Memory (Bytes memory) = true
is_of_sort s value = false

-- false, 0, and the memory that is 0 everywhere
abbrev pub default_of : Sort → spec.Value
default_of sort.Truth = spec.Truth false
default_of (sort.Word w) = spec.Number w 0
default_of sort.Memory = spec.Bytes (λ q. 0)

abbrev pub given_or_default : Sort → Option Value → spec.Value
given_or_default s (Some value) = if is_of_sort s value then value_of value else default_of s
given_or_default s None = default_of s

-- the value that is listed for the variable, where it is of the variable's sort; else the sort's default
abbrev pub assignment_of : Assignment → spec.Assignment
assignment_of assignment = λ v. given_or_default v.sort (get same_variable assignment.values v)
