use Rattle.std.proofs.Common.{◌≡◌, ℕ, refl}
use Rattle.std.specs.FinMap.{get-from_entries}
use Rattle.std.specs.Cmp.{nat_cmp_total}
use Rattle.rv_instr.specs.Instr.{instr, instr_of}
use Rattle.rv_machine_spec.specs.Arithmetic.{arithmetic}
use Rattle.memory_spec.specs.Memory.{byte_at}
use Rattle.rv_machine_spec.specs.Machine.{read_register, write_register, load_word}
use Rattle.rv_machine_spec.specs.Step.{after, step, execute}
use Rattle.example_laws.specs.AddTwoArguments.{start, code}
use Rattle.example_laws.proofs.add_two_arguments.adds_two_arguments.Goals as goal

first_word : load_word code 0x10000 ≡ 0x00b50533
unfolding load_word byte_at code
first_word = simp (get-from_entries {X = ℕ} nat_cmp_total) refl

second_word : load_word code 0x10004 ≡ 0x00008067
unfolding load_word byte_at code
second_word = simp (get-from_entries {X = ℕ} nat_cmp_total) refl

pub returns : goal.returns
unfolding start after step execute instr instr_of arithmetic read_register write_register
returns c = rw (first_word, second_word) (refl, refl)
