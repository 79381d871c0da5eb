use Rattle.std.proofs.Common.{◌≡◌, map, take, cond}
use Rattle.std.specs.Prelude.{◌&&◌}
use Rattle.term_core_spec.specs.declared.Variable.{Variable}
use Rattle.term_core_spec.specs.Sort.{is_memory}
use Rattle.term_core.specs.Values.{value_of}
use Rattle.term_core.specs.Assignment.{assignment_of}
use Rattle.mem_terms_spec.specs.Flat.{is_among}
use Rattle.mem_terms.specs.Back.{memory_among}
use Rattle.mem_terms.proofs.back.rebuild.Given as goal

abbrev pub invariant-loop-memory : goal.invariant-loop-memory
invariant-loop-memory l =
    (v : Variable) → assignment_of l.rebuilt v ≡ cond (is_memory v.sort && is_among v (take l.memory-index l.memory-items)) (memory_among (map value_of l.values.items) l.flat.loads.items v) (assignment_of l.initial.rebuilt v)
