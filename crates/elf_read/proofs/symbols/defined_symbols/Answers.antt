use Rattle.std.proofs.Common.{◌==◌, ◌+◌, ◌/◌, not, ap, sym, ◌∙◌, eq-eqb, ne_eqb}
use Rattle.elf_read_spec.specs.File as spec
use Rattle.elf_read.specs.Values.{symbol_of}
use Rattle.elf_read.proofs.Defined.{taken, passed, ended_at}
use Rattle.elf_read.proofs.symbols.defined_symbols.Goals as goal
use Rattle.elf_read.proofs.symbols.defined_symbols.Goals.{then-u16_at-ne-SHN_UNDEF+in_ok-push, else-u16_at-ne-SHN_UNDEF}

pub symbol_at-requires-clause-ended : goal.symbol_at-requires-clause-ended
symbol_at-requires-clause-ended c =
    ended_at _ _ _ _ _ c.u32_at-start.ensures (ap (λ n. n / 16) c.u32_at.ensures) c.loop-i-test.true c.requires.ended

pub loop-i-preserved : goal.loop-i-preserved
loop-i-preserved c =
    let bytes = c.args.bytes.now in
    let table = c.args.table in
    let start = c.u32_at-start.result in
    elim c.if-u16_at-ne-SHN_UNDEF.branch [
      | then-u16_at-ne-SHN_UNDEF+in_ok-push w ↦
          rw (w.symbols-is, w.in_ok-push.ensures.items)
          (taken symbol_of (spec.symbol_at bytes table) (λ at. not (spec.u16_at bytes (at + 14) == 0)) _ _ start 16 _ _ c.loop-i-test.true
          (ap not (ne_eqb _ 0 (λ e. w.if-u16_at-ne-SHN_UNDEF.true (c.u16_at.ensures ∙ e)))) w.symbol_at.ensures
          ∙ c.loop-i.invariant)
      | else-u16_at-ne-SHN_UNDEF w ↦
          rw w.symbols-is
          (passed symbol_of (spec.symbol_at bytes table) (λ at. not (spec.u16_at bytes (at + 14) == 0)) _ start 16 _ _ c.loop-i-test.true
          (ap not (eq-eqb _ 0 (sym c.u16_at.ensures ∙ w.if-u16_at-ne-SHN_UNDEF.false)))
          ∙ c.loop-i.invariant)
    ]
