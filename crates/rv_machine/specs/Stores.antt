-- Writing several bytes, and undoing a write.
use Rattle.std.specs.Prelude.{ℕ, List, [], ◌∷◌, Option, Some, None}
use Rattle.std.specs.FinMap.{insert, remove}
use Rattle.rv_instr.specs.declared.LoadKind.{LoadKind}
use Rattle.rv_instr.specs.declared.LoadKind.TheVariants as load
use Rattle.rv_instr.specs.declared.StoreKind.{StoreKind}
use Rattle.rv_instr.specs.declared.StoreKind.TheVariants as store
use Rattle.memory_spec.specs.Memory.{Memory}
use Rattle.rv_machine_spec.specs.Machine.{past, store_byte}

-- the bytes from the address on, first to last
unfoldable pub store_bytes : Memory → ℕ → List ℕ → Memory
store_bytes memory a [] = memory
store_bytes memory a (byte ∷ bytes) = store_bytes (store_byte memory a byte) (past a 1) bytes

-- the address holds again what it held before
abbrev pub put_back : Memory → ℕ → Option ℕ → Memory
put_back memory a (Some byte) = insert memory a byte
put_back memory a None = remove memory a

-- how many bytes a load reads, and a store writes
abbrev pub load_size : LoadKind → ℕ
load_size load.Byte = 1
load_size load.Half = 2
load_size load.Word = 4
load_size load.ByteUnsigned = 1
load_size load.HalfUnsigned = 2

abbrev pub store_size : StoreKind → ℕ
store_size store.Byte = 1
store_size store.Half = 2
store_size store.Word = 4
