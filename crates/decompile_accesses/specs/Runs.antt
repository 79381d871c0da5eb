-- Runs of fixed bytes by their addresses, and calls that build tests.
use Rattle.std.specs.Prelude.{◌≡◌, ℕ, ◌+◌, ◌-◌, Box, Vec, Result, IfOk, List, length, map, replicate}
use Rattle.std.specs.Global.{Global}
use Rattle.memory_spec.specs.Runs.{Run}
use Rattle.elf_read.specs.declared.parts.Extent.{Extent}
use Rattle.term_core_spec.specs.Term.{Term}
use Rattle.term_core.specs.declared.term.Term.{Term as CodeTerm}
use Rattle.graph_core.specs.Graphs.{boxed_term}

-- of a run of fixed bytes a graph has the first address and the last one, whatever the bytes are: a run with 0 in
-- place of its bytes
abbrev pub blank : (start count : ℕ) → Run
blank start count = record { start = start; bytes = replicate count 0 }

abbrev pub blanked : Run → Run
blanked run = blank run.start (length run.bytes)

abbrev pub run_of : Extent → Run
run_of e = blank e.first (e.last + 1 - e.first)

-- the call answers these tests; or it is out of memory
abbrev pub BuildsTests : {E : Type 0} → Result (Vec (Box CodeTerm Global) Global) E → List Term → Type 0
BuildsTests result terms = IfOk result (λ tests. map boxed_term tests.items ≡ terms)
