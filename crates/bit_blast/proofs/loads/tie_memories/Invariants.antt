use Rattle.std.proofs.Common.{map, drop}
use Rattle.term_bank.specs.Nodes.{tree_at}
use Rattle.bit_blast_spec.specs.Goal.{tie_memories}
use Rattle.bit_blast.specs.Terms.{terms_in}
use Rattle.bit_blast.specs.Loads.{load_at}
use Rattle.bit_blast.proofs.Within.{ContinuesWithin}
use Rattle.bit_blast.proofs.loads.tie_memories.Given as goal

abbrev pub invariant-memories : goal.invariant-memories
invariant-memories l =
    ContinuesWithin l.maximum (tie_memories (map (tree_at (terms_in l.table)) l.memory-items) (map (load_at l.table) l.loads.items)) l.initial.gates l.gates
    (tie_memories (map (tree_at (terms_in l.table)) (drop l.memory-index l.memory-items)) (map (load_at l.table) l.loads.items))
