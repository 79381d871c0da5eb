-- A machine as a value that contracts see.
use Rattle.std.specs.Prelude.{ℕ, List, refl}
use Rattle.std.specs.Coded.{Coded, code_by, coded×, coded_ℕ, coded_list}
use Rattle.std.specs.FinMap.{code}
use Rattle.memory_spec.specs.Memory.{Memory}
use Rattle.rv_machine_spec.specs.Machine.{Machine}

abbrev pub state_code : Coded Machine
state_code =
    code_by (List ℕ × (ℕ × Memory)) (coded× (coded_list coded_ℕ) (coded× coded_ℕ (code coded_ℕ coded_ℕ))) (λ m. (m.registers, (m.pc, m.memory)))
    (λ p. record { registers = p.0; pc = p.1.0; memory = p.1.1 }) (λ _. refl)
