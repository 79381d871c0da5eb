use Rattle.std.proofs.Common.{◌∙◌, ap, map}
use Rattle.elf_read_spec.specs.File.{segment_at, strings_of, symbol_at}
use Rattle.elf_read.proofs.Accepted.{placed_loads, separate_segments, is_elf}
use Rattle.elf_read.proofs.NamedSteps.{placed}
use Rattle.elf_read.proofs.reader.read.Goals as goal

pub segments-requires-clause-placed : goal.segments-requires-clause-placed
segments-requires-clause-placed c =
    placed_loads _ _ (c.as_slice-2.ensures.value ∙ c.in_ok-loads.ensures.loads) c.in_ok-check_names.ensures.kept

pub new-requires-2-clause-separate : goal.new-requires-2-clause-separate
new-requires-2-clause-separate c =
    rw (c.in_ok-segments.ensures, c.as_slice-2.ensures.value)
    (separate_segments _ _ c.in_ok-loads.ensures.loads c.in_ok-loads.ensures.rising c.in_ok-check_names.ensures.kept)

pub new-requires-2-clause-placed : goal.new-requires-2-clause-placed
new-requires-2-clause-placed c =
    rw c.strings-text.ensures.strings
    (placed _ _ (strings_of c.args.bytes.now c.in_ok-table.table) _ (symbol_at c.args.bytes.now c.in_ok-table.table) c.in_ok-symbols.ensures
    (rw c.as_slice-3.ensures.value c.in_ok-offsets.ensures))

pub returns-clause-accepted : goal.returns-clause-accepted
returns-clause-accepted c =
    is_elf _ _ _ _ _ c.in_ok-check_names.ensures.kept c.in_ok-table.ensures.table
    (c.in_ok-segments.ensures ∙ ap (λ xs. map (segment_at c.args.bytes.now) xs) (c.as_slice-2.ensures.value ∙ c.in_ok-loads.ensures.loads))
    c.in_ok-symbols.ensures c.in_ok-new.ensures
