use Rattle.std.proofs.Common.{◌≡◌, List, map, drop}
use Rattle.term_core_spec.specs.Term.{Term}
use Rattle.mem_terms_spec.specs.Flat.{with_memories, memories_of}
use Rattle.mem_terms.specs.Ids.{load_at}
use Rattle.mem_terms.proofs.ties.memories.Given as goal

abbrev pub invariant-loop-load : goal.invariant-loop-load
invariant-loop-load l = (trees : List Term) → with_memories l.memories.items (map (load_at trees) (drop l.load-index l.loads)) ≡ memories_of (map (load_at trees) l.loads)
