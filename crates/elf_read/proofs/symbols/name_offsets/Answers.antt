use Rattle.std.proofs.Common.{◌==◌, ◌+◌, ◌∙◌, not, ap, sym, eq-eqb, ne_eqb}
use Rattle.elf_read_spec.specs.File as spec
use Rattle.elf_read.proofs.Defined.{taken, passed}
use Rattle.elf_read.proofs.symbols.name_offsets.Goals as goal
use Rattle.elf_read.proofs.symbols.name_offsets.Goals.{then-u16_at-ne-SHN_UNDEF+in_ok-push, else-u16_at-ne-SHN_UNDEF}

pub loop-i-preserved : goal.loop-i-preserved
loop-i-preserved c =
    let bytes = c.args.bytes.now in
    let table = c.args.table in
    let start = c.u32_at-start.result in
    let strings = spec.strings_of bytes table in
    elim c.if-u16_at-ne-SHN_UNDEF.branch [
      | then-u16_at-ne-SHN_UNDEF+in_ok-push w ↦
          rw (w.offsets-is, w.in_ok-push.ensures.items)
          (taken (spec.name_in strings) (λ at. (spec.symbol_at bytes table at).name) (λ at. not (spec.u16_at bytes (at + 14) == 0)) _ _ start 16 _ _
          c.loop-i-test.true
          (ap not (ne_eqb _ 0 (λ e. w.if-u16_at-ne-SHN_UNDEF.true (c.u16_at.ensures ∙ e))))
          (ap (λ n. spec.name_in strings n) w.u32_at-then-u16_at-ne-SHN_UNDEF.ensures)
          ∙ c.loop-i.invariant)
      | else-u16_at-ne-SHN_UNDEF w ↦
          rw w.offsets-is
          (passed (spec.name_in strings) (λ at. (spec.symbol_at bytes table at).name) (λ at. not (spec.u16_at bytes (at + 14) == 0)) _ start 16 _ _
          c.loop-i-test.true
          (ap not (eq-eqb _ 0 (sym c.u16_at.ensures ∙ w.if-u16_at-ne-SHN_UNDEF.false)))
          ∙ c.loop-i.invariant)
    ]
