use Rattle.std.proofs.Common.{◌≡◌, drop}
use Rattle.mem_terms_spec.specs.Flat.{is_among}
use Rattle.mem_terms.proofs.ties.is_among.Given as goal

abbrev pub invariant-loop-other : goal.invariant-loop-other
invariant-loop-other l = is_among l.memory l.memories ≡ is_among l.memory (drop l.other-index l.memories)
