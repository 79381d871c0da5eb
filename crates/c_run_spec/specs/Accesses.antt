-- Accesses to objects in memory: the guards that they break, and what they read and write. Memory is bytes, and an object
-- is read at any type; where C11 leaves that undefined (6.5p7) the choice is ours.
use Rattle.std.specs.Prelude.{ℕ, zero, suc, ◌+◌, ◌*◌, ◌/◌, ◌%◌, ◌^◌, ◌==◌, ◌&&◌, ◌||◌, nat_lt, nat_le, Bool, false, not, if◌then◌else◌, ℤ, pos, negsuc, Option, Some, None, Result, Ok, Err}
use Rattle.std.specs.Option.{option_or}
use Rattle.std.specs.FinMap.{insert}
use Rattle.memory_spec.specs.Memory.{Memory, byte_at}
use Rattle.memory_spec.specs.Zones.{Zone}
use Rattle.c_types_spec.specs.declared.Scalar.{Scalar}
use Rattle.c_types_spec.specs.declared.TheConstants.{POINTER_WIDTH}
use Rattle.c_types_spec.specs.Values.{bits_of, of_bits}
use Rattle.c_run_spec.specs.declared.Guard.{Guard}
use Rattle.c_run_spec.specs.declared.Guard.TheVariants.{Access, BarredZone, FixedByte}
use Rattle.c_run_spec.specs.Setting.{Setting, Broken}

-- how many bytes an object of the type has; it is aligned to as many
abbrev pub size_of : Scalar → ℕ
size_of type = type.width / 8

-- the address that the value of a pointer is; the value is not below 0
abbrev pub address_of : ℤ → ℕ
address_of (pos n) = n
address_of (negsuc n) = 0

-- ---- guards

-- 6.5.3.2p4: no object is at address 0, or at no multiple of its alignment. That none ends past the addresses is ours
abbrev pub is_object : (size address : ℕ) → Bool
is_object size address = not (address == 0) && (address % size == 0) && nat_le (address + size) (2 ^ POINTER_WIDTH)

-- one of so many bytes from an address on passes the test
unfoldable pub some_byte : (ℕ → Bool) → (size address : ℕ) → Bool
some_byte test zero address = false
some_byte test (suc size) address = test address || some_byte test size (suc address)

abbrev pub in_zone : Zone → ℕ → Bool
in_zone zone address = nat_le zone.low address && nat_lt address zone.high

-- the first guard that a read of so many bytes breaks, if it breaks one
unfoldable pub read_guard : Setting → (size address : ℕ) → Option Guard
read_guard setting size address =
    if not (is_object size address) then Some Access
    else if some_byte (in_zone setting.barred) size address then Some BarredZone
    else None

-- and a write
unfoldable pub write_guard : Setting → (size address : ℕ) → Option Guard
write_guard setting size address =
    option_or (read_guard setting size address) (if some_byte setting.is_fixed size address then Some FixedByte else None)

-- ---- bytes (6.2.6.1): the lowest is first, which C11 leaves to the implementation

-- the number that so many bytes are
unfoldable pub bytes_at : Memory → (size address : ℕ) → ℕ
bytes_at memory zero address = 0
bytes_at memory (suc size) address = byte_at memory address + 2 ^ 8 * bytes_at memory size (suc address)

-- the memory with so many bytes of a number
unfoldable pub with_bytes : Memory → (size address number : ℕ) → Memory
with_bytes memory zero address number = memory
with_bytes memory (suc size) address number = with_bytes (insert memory address (number % 2 ^ 8)) size (suc address) (number / 2 ^ 8)

-- ---- objects

-- a result, or the guard that is broken
abbrev pub unless : {A : Type 0} → Option Guard → (offset : ℕ) → A → Result A Broken
unless (Some guard) offset result = Err (guard, offset)
unless None offset result = Ok result

-- 6.3.2.1p2: the value of the object at an address
unfoldable pub object_value : Setting → Memory → Scalar → (address offset : ℕ) → Result ℤ Broken
object_value setting memory type address offset =
    unless (read_guard setting (size_of type) address) offset (of_bits type (bytes_at memory (size_of type) address))

-- 6.5.16.1p2: the memory after a value is stored in the object at an address
unfoldable pub stored : Setting → Memory → Scalar → (address : ℕ) → (value : ℤ) → (offset : ℕ) → Result Memory Broken
stored setting memory type address value offset =
    unless (write_guard setting (size_of type) address) offset (with_bytes memory (size_of type) address (bits_of type.width value))
