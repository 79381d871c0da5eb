use Rattle.std.proofs.Common.{◌≡◌, ◌++◌, drop}
use Rattle.cert_check_frames.specs.Facts.{facts_of, entry_facts}
use Rattle.cert_check_frames.proofs.facts.add_registers.Given as goal

-- what is left to add completes the whole
abbrev pub invariant-loop-index : goal.invariant-loop-index
invariant-loop-index l = facts_of l.facts.items ++ entry_facts (drop l.index l.registers) ≡ facts_of l.fn.facts.items ++ entry_facts l.registers
