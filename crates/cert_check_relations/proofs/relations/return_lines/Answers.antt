use Rattle.std.proofs.Common.{◌∙◌, List, ◌++◌, Box, Global, ap}
use Rattle.term_core.specs.declared.term.Term.{Term as CodeTerm}
use Rattle.proof_tree.specs.Frames.{terms_of}
use Rattle.sim_rules_spec.specs.Calling.{kept_registers, result_lines}
use Rattle.agreement_laws.specs.EntryFrame.{result_term}
use Rattle.cert_check_relations.specs.Lines.{kept_lines}
use Rattle.cert_check_relations.proofs.Grown.{one_then}
use Rattle.cert_check_relations.proofs.relations.return_lines.Goals as goal

pub returns-3 : goal.returns-3
returns-3 c =
    let first = result_lines (result_term c.args.result_type) in
    let kept = kept_lines kept_registers in
    one_then (terms_of c.new-lines.result.items) (terms_of c.add_result.new.lines.items) (terms_of c.add_kept.new.lines.items) first kept c.in-Ok-attempt.ensures c.in-Ok-attempt-2.ensures
    ∙ ap (λ (l : List (Box CodeTerm Global)). terms_of l ++ (first ++ kept)) c.new-lines.ensures.items
