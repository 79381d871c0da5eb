use Rattle.std.proofs.Common.{◌∙◌, sym}
use Rattle.std.proofs.lemmas.Option.{get_or_from_slice_get}
use Rattle.memory_spec.specs.Viewed.{runs_of}
use Rattle.term_norm_spec.specs.Normal.{normal}
use Rattle.term_bank.specs.Nodes.{tree_at}
use Rattle.discharge.proofs.Begun.{goal_begins}
use Rattle.discharge.proofs.closer.Closer.begin.Goals as goal

pub returns-in-Ok-clause-begins : goal.returns-in-Ok-clause-begins
returns-in-Ok-clause-begins c =
    goal_begins (runs_of c.args.runs.now) (tree_at c.args.bank.now c.args.goal) (tree_at c.normal.new.bank c.in-Ok.form) c.args.count c.begin_form.result
    (sym c.in-Ok-true.ensures ∙ c.in-Ok-true.field-0-test)
    (get_or_from_slice_get c.normal.new.bank c.in-Ok.form (normal (runs_of c.args.runs.now) (tree_at c.args.bank.now c.args.goal)) _ c.in-Ok.ensures.form)
    c.begin_form.ensures
