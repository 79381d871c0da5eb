use Rattle.std.proofs.Common.{◌∙◌, List, [], ◌++◌, Box, Global, ap}
use Rattle.std.specs.Prelude.{nat_lt, if◌then◌else◌}
use Rattle.term_core.specs.declared.term.Term.{Term as CodeTerm}
use Rattle.memory_spec.specs.Viewed.{runs_of}
use Rattle.proof_tree.specs.Frames.{terms_of}
use Rattle.cert_check_relations.specs.Lines.{first_lines, zone_lines}
use Rattle.cert_check_relations.proofs.Grown.{one_then}
use Rattle.cert_check_relations.proofs.relations.entry_lines.Goals as goal

pub returns-3 : goal.returns-3
returns-3 c =
    let stack = c.args.stack in
    let first = first_lines stack c.args.pointer in
    let zone = if nat_lt 0 stack then zone_lines stack (runs_of c.args.runs.now) else [] in
    one_then (terms_of c.new-lines.result.items) (terms_of c.add_entry.new.lines.items) (terms_of c.add_zone.new.lines.items) first zone c.in-Ok-attempt.ensures c.in-Ok-attempt-2.ensures
    ∙ ap (λ (l : List (Box CodeTerm Global)). terms_of l ++ (first ++ zone)) c.new-lines.ensures.items
