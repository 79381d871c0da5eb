-- The worked example `add_two_arguments`, machine side: `add x10, x10, x11` and `jalr x0, 0(x1)` at 00010000.
use Rattle.std.specs.Prelude.{[], ◌∷◌, replicate}
use Rattle.std.specs.FinMap.{from_entries}
use Rattle.memory_spec.specs.Memory.{Memory}
use Rattle.rv_machine_spec.specs.Machine.{Machine}

unfoldable pub code : Memory
code =
    from_entries ((0x10000, 0x33) ∷ (0x10001, 0x05) ∷ (0x10002, 0xb5) ∷ (0x10003, 0x00)
    ∷ (0x10004, 0x67) ∷ (0x10005, 0x80) ∷ (0x10006, 0x00) ∷ (0x10007, 0x00) ∷ [])

-- x1 is 00020000, x2 is 00030000, x10 is 5, x11 is 7
unfoldable pub start : Machine
start = record {
  registers = 0 ∷ 0x20000 ∷ 0x30000 ∷ 0 ∷ 0 ∷ 0 ∷ 0 ∷ 0 ∷ 0 ∷ 0 ∷ 5 ∷ 7 ∷ replicate 20 0;
  pc = 0x10000;
  memory = code;
}
