use Rattle.std.proofs.Common.{◌≡◌, ◌∙◌, true, sym, subst}
use Rattle.std.proofs.lemmas.Option.{get_or_from_slice_get}
use Rattle.memory_spec.specs.Viewed.{runs_of}
use Rattle.term_core_spec.specs.Term.{Term}
use Rattle.term_norm_spec.specs.Normal.{normal}
use Rattle.term_bank.specs.Nodes.{tree_at}
use Rattle.discharge_spec.specs.Closing.{is_truth}
use Rattle.discharge.proofs.truth.is_true.Goals as goal

pub returns-in-Ok-clause-true_form : goal.returns-in-Ok-clause-true_form
returns-in-Ok-clause-true_form c = λ found.
    let is = get_or_from_slice_get c.normal.new.bank c.in-Ok.form (normal (runs_of c.args.runs.now) (tree_at c.args.bank.now c.args.goal)) _ c.in-Ok.ensures.form in
    subst (λ (t : Term). is_truth t ≡ true) is (sym c.is_truth.ensures ∙ found)
