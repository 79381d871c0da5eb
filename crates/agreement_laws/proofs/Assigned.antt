-- The variables with which both graphs begin, for a machine at the entry and the values of a call.
use Rattle.std.proofs.Common.{◌≡◌, ℕ, ◌^◌, ◌<◌, ◌==◌, Bool, if◌then◌else◌, List, length, get_or, nat_lt, refl, ap, arith}
use Rattle.std.specs.Prelude.{ℤ, pos, negsuc}
use Rattle.std.proofs.Math.Nat.{mod-eq_of_lt}
use Rattle.memory_spec.specs.Memory.{Memory, byte_at}
use Rattle.memory_spec.specs.Zones.{Zone}
use Rattle.rv_machine_spec.specs.Arithmetic as machine
use Rattle.rv_machine_spec.specs.Machine.{Machine, IsMachine, read_register}
use Rattle.rv_machine_spec.proofs.Kept.{read_below, byte_below}
use Rattle.term_core_spec.specs.declared.Width.{Width}
use Rattle.term_core_spec.specs.declared.Width.TheVariants.{W8, W16, W32, W64}
use Rattle.term_core_spec.specs.declared.Sort.{Sort}
use Rattle.term_core_spec.specs.declared.Sort.TheVariants as sort
use Rattle.term_core_spec.specs.declared.Family.{Family}
use Rattle.term_core_spec.specs.declared.Family.TheVariants as family
use Rattle.term_core_spec.specs.Sort.{bits}
use Rattle.term_core_spec.specs.Value.{Value, Truth, Number, Bytes, Assignment, IsAssignment, IsOfSort, low_bits}
use Rattle.graph_core_spec.specs.Run.{unset}
use Rattle.sim_rules_spec.proofs.Sides.{unset-sort}
use Rattle.decompile_spec.specs.State.{register, entry_register, Alike}
use Rattle.c_types_spec.specs.declared.Scalar.{Scalar}
use Rattle.c_types_spec.specs.Values.{bits_of}
use Rattle.c_graph_spec.specs.State.{width_of}
use Rattle.c_graph_laws.proofs.Extents.{IsPlain, byte, half, full}

-- ---- values of a sort

abbrev pub word_in : Sort → ℕ → Value
word_in (sort.Word w) n = Number w (low_bits (bits w) n)
word_in sort.Truth n = unset sort.Truth
word_in sort.Memory n = unset sort.Memory

abbrev pub truth_in : Sort → Bool → Value
truth_in sort.Truth b = Truth b
truth_in (sort.Word w) b = unset (sort.Word w)
truth_in sort.Memory b = unset sort.Memory

abbrev pub memory_in : Sort → (ℕ → ℕ) → Value
memory_in sort.Memory bytes = Bytes bytes
memory_in (sort.Word w) bytes = unset (sort.Word w)
memory_in sort.Truth bytes = unset sort.Truth

low_below : (w : Width) (n : ℕ) → low_bits (bits w) n < 2 ^ bits w
low_below W8 n = omega arith
low_below W16 n = omega arith
low_below W32 n = omega arith
low_below W64 n = omega arith

word_sorted : (s : Sort) (n : ℕ) → IsOfSort s (word_in s n)
word_sorted (sort.Word w) n = (refl, low_below w n)
word_sorted sort.Truth n = unset-sort sort.Truth
word_sorted sort.Memory n = unset-sort sort.Memory

truth_sorted : (s : Sort) (b : Bool) → IsOfSort s (truth_in s b)
truth_sorted sort.Truth b = tt
truth_sorted (sort.Word w) b = unset-sort (sort.Word w)
truth_sorted sort.Memory b = unset-sort sort.Memory

memory_sorted : (s : Sort) (bytes : ℕ → ℕ) → ((q : ℕ) → bytes q < 2 ^ 8) → IsOfSort s (memory_in s bytes)
memory_sorted sort.Memory bytes small = small
memory_sorted (sort.Word w) bytes small = unset-sort (sort.Word w)
memory_sorted sort.Truth bytes small = unset-sort sort.Truth

-- ---- the binary: registers, their values at entry, and memory

abbrev pub binary_value : Machine → Family → ℕ → Sort → Value
binary_value m family.Register r s = word_in s (read_register m r)
binary_value m family.Entry r s = word_in s (read_register m r)
binary_value m family.BinaryMemory r s = memory_in s (byte_at m.memory)
binary_value m f r s = unset s

abbrev pub binary_values : Machine → Assignment
binary_values m = λ v. binary_value m v.family v.index v.sort

pub binary_sorted : (m : Machine) → IsMachine m → IsAssignment (binary_values m)
binary_sorted m is v = by v.family v.index v.sort
  where
    by : (f : Family) (r : ℕ) (s : Sort) → IsOfSort s (binary_value m f r s)
    by family.Register r s = word_sorted s (read_register m r)
    by family.Entry r s = word_sorted s (read_register m r)
    by family.BinaryMemory r s = memory_sorted s (byte_at m.memory) (λ q. byte_below m q is)
    by family.Parameter r s = unset-sort s
    by family.Local r s = unset-sort s
    by family.IsSet r s = unset-sort s
    by family.SourceMemory r s = unset-sort s
    by family.ZoneMemory r s = unset-sort s
    by family.Address r s = unset-sort s
    by family.LoadedByte r s = unset-sort s
    by family.Further r s = unset-sort s

pub binary_entry_is : (m : Machine) → IsMachine m → (r : ℕ) → binary_values m (entry_register r) ≡ Number W32 (read_register m r)
binary_entry_is m is r = ap (Number W32) (mod-eq_of_lt (read_below m r is))

pub binary_register_is : (m : Machine) → IsMachine m → (r : ℕ) → binary_values m (register r) ≡ Number W32 (read_register m r)
binary_register_is m is r = ap (Number W32) (mod-eq_of_lt (read_below m r is))

pub binary_alike : (m : Machine) → IsMachine m → Alike m (binary_values m)
binary_alike m is = record { registers = λ r some few. binary_register_is m is r; bytes = refl }

-- ---- the source: parameters and as many locals, whether these are set, memory and the zone

abbrev pub further_value : Zone → ℕ → ℕ
further_value zone index = if index == 0 then zone.low else if index == 1 then zone.high else 0

abbrev pub source_value : List ℕ → Memory → Zone → Family → ℕ → Sort → Value
source_value words memory zone family.Parameter k s = word_in s (get_or words k 0)
source_value words memory zone family.Local k s = word_in s (get_or words k 0)
source_value words memory zone family.IsSet k s = truth_in s (nat_lt k (length words))
source_value words memory zone family.SourceMemory k s = memory_in s (byte_at memory)
source_value words memory zone family.Further k s = word_in s (further_value zone k)
source_value words memory zone f k s = unset s

abbrev pub source_values : List ℕ → Memory → Zone → Assignment
source_values words memory zone = λ v. source_value words memory zone v.family v.index v.sort

pub source_sorted : (words : List ℕ) (memory : Memory) (zone : Zone) → ((q : ℕ) → byte_at memory q < 2 ^ 8) → IsAssignment (source_values words memory zone)
source_sorted words memory zone small v = by v.family v.index v.sort
  where
    by : (f : Family) (k : ℕ) (s : Sort) → IsOfSort s (source_value words memory zone f k s)
    by family.Register k s = unset-sort s
    by family.Entry k s = unset-sort s
    by family.BinaryMemory k s = unset-sort s
    by family.Parameter k s = word_sorted s (get_or words k 0)
    by family.Local k s = word_sorted s (get_or words k 0)
    by family.IsSet k s = truth_sorted s (nat_lt k (length words))
    by family.SourceMemory k s = memory_sorted s (byte_at memory) small
    by family.ZoneMemory k s = unset-sort s
    by family.Address k s = unset-sort s
    by family.LoadedByte k s = unset-sort s
    by family.Further k s = word_sorted s (further_value zone k)

-- ---- bits of values

-- the low bits of a value's word are the value's
pub low_word : (type : Scalar) → IsPlain type → (v : ℤ) → low_bits (bits (width_of type)) (machine.word v) ≡ bits_of type.width v
low_word _ (byte t) (pos n) = omega arith
low_word _ (byte t) (negsuc n) = omega arith
low_word _ (half t) (pos n) = omega arith
low_word _ (half t) (negsuc n) = omega arith
low_word _ (full t) (pos n) = omega arith
low_word _ (full t) (negsuc n) = omega arith
