use Rattle.std.proofs.Common.{◌∙◌, ◌-◌, ℕ, List, map, ap, sym, arith}
use Rattle.cnf_core.specs.Bits.{valuation}
use Rattle.term_core_spec.specs.Value.{low_bits}
use Rattle.term_core.specs.Memory.{bytes_of}
use Rattle.bit_blast_laws.specs.Back.{first_byte}
use Rattle.bit_blast.specs.declared.loads.LoadIndices.{LoadIndices}
use Rattle.bit_blast.specs.Loads.{load_at}
use Rattle.bit_blast.proofs.Loading.{blank_load, within_at}
use Rattle.bit_blast.proofs.Ties.{from_end}
use Rattle.bit_blast.proofs.Written.{back_one}
use Rattle.bit_blast.proofs.back.memory_back.Goals as goal

pub backwards-init : goal.backwards-init
backwards-init c = (
  omega arith,
  λ short q. ap (λ (f : ℕ → ℕ). f q) c.new-memory.ensures
      ∙ ap (λ (list : List LoadIndices). low_bits 8 (first_byte (valuation c.args.values.now) q (map (load_at c.args.table.now) list))) (sym (from_end c.args.loads.now)),
)

pub write_back-requires : goal.write_back-requires
write_back-requires c = within_at c.args.table.now c.args.loads.now (c.backwards.index - 1) blank_load c.requires (omega arith)

pub backwards-preserved : goal.backwards-preserved
backwards-preserved c = (
  omega (arith, c.backwards.invariant.0),
  back_one (valuation c.args.values.now) c.args.table.now c.args.loads.now c.backwards.index (c.backwards.index - 1) blank_load (bytes_of c.backwards.memory)
      (bytes_of c.write_back.new.memory) (omega arith) c.backwards.invariant.0 c.backwards.invariant.1 c.in-Ok-attempt.ensures,
)
