-- The variables of a C function: its locals, parameters first, each with a truth value that says whether it is set; the
-- memory; and three further words: the zone that is barred, from `low` to below `high`, and the result. Memory and the ends
-- of the zone are the same for caller and callee.
use Rattle.std.specs.Prelude.{ℕ, ℤ, ◌==◌, if◌then◌else◌}
use Rattle.term_core_spec.specs.declared.Width.{Width}
use Rattle.term_core_spec.specs.declared.Width.TheVariants.{W8, W16, W32, W64}
use Rattle.term_core_spec.specs.declared.Sort.{Sort}
use Rattle.term_core_spec.specs.declared.Sort.TheVariants as sort
use Rattle.term_core_spec.specs.declared.Family.TheVariants.{Local, IsSet, SourceMemory, Further}
use Rattle.term_core_spec.specs.declared.Variable.{Variable}
use Rattle.term_core_spec.specs.Term.{Term, constant}
use Rattle.c_types_spec.specs.declared.Scalar.{Scalar}
use Rattle.c_types_spec.specs.Values.{bits_of}

-- the width of so many bits; integers have 8, 16, 32 or 64
abbrev pub width_of_bits : ℕ → Width
width_of_bits n = if n == 8 then W8 else if n == 16 then W16 else if n == 64 then W64 else W32

abbrev pub width_of : Scalar → Width
width_of type = width_of_bits type.width

abbrev pub sort_of_scalar : Scalar → Sort
sort_of_scalar type = sort.Word (width_of type)

abbrev pub local : ℕ → Scalar → Variable
local number type = record { family = Local; index = number; instance = 0; sort = sort_of_scalar type }

abbrev pub is_set : ℕ → Variable
is_set number = record { family = IsSet; index = number; instance = 0; sort = sort.Truth }

abbrev pub memory : Variable
memory = record { family = SourceMemory; index = 0; instance = 0; sort = sort.Memory }

abbrev pub further : ℕ → Sort → Variable
further index of_sort = record { family = Further; index = index; instance = 0; sort = of_sort }

abbrev pub zone_low : Variable
zone_low = further 0 (sort.Word W32)

abbrev pub zone_high : Variable
zone_high = further 1 (sort.Word W32)

abbrev pub result : Scalar → Variable
result type = further 2 (sort_of_scalar type)

-- ---- words

abbrev pub number : ℕ → Term
number n = constant W32 n

-- the word of a value
abbrev pub value_constant : Scalar → ℤ → Term
value_constant type value = constant (width_of type) (bits_of type.width value)
