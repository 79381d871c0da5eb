use Rattle.std.proofs.Common.{ap, Some, None, if◌then◌else◌}
use Rattle.term_core_spec.specs.Sort.{is_truth}
use Rattle.term_bank.specs.Nodes.{tree_at}
use Rattle.cert_check_terms.proofs.lines.truth.Goals as goal

pub returns-in-Truth : goal.returns-in-Truth
returns-in-Truth c = λ trees within. (within, ap (λ s. if is_truth s then Some (tree_at trees c.args.subterm.id) else None) c.in-Truth.is)
