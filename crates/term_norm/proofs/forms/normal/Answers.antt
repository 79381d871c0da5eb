use Rattle.std.proofs.lemmas.Result.{IfOk-weaker}
use Rattle.term_bank.specs.Nodes.{tree_at}
use Rattle.memory_spec.specs.Viewed.{runs_of}
use Rattle.term_norm.specs.Runs.{form_with}
use Rattle.term_norm.proofs.Growth.{read, within}
use Rattle.term_norm.proofs.Kept.{form_sort, form_value}
use Rattle.term_norm.proofs.forms.normal.Goals as goal

pub returns-clause-sort : goal.returns-clause-sort
returns-clause-sort c =
    IfOk-weaker c.form_of.result _ _
    (λ i h. form_sort (runs_of c.args.runs.now) (tree_at c.args.bank.now c.args.term) (tree_at c.form_of.new.bank i)
    (read c.form_of.new.bank i (form_with c.args.runs.now (tree_at c.args.bank.now c.args.term)) h) c.hold_runs.ensures)
    c.form_of.ensures.form

pub returns-clause-value : goal.returns-clause-value
returns-clause-value c =
    IfOk-weaker c.form_of.result _ _
    (λ i h. form_value (runs_of c.args.runs.now) (tree_at c.args.bank.now c.args.term) (tree_at c.form_of.new.bank i)
    (read c.form_of.new.bank i (form_with c.args.runs.now (tree_at c.args.bank.now c.args.term)) h))
    c.form_of.ensures.form

pub returns-clause-within : goal.returns-clause-within
returns-clause-within c =
    IfOk-weaker c.form_of.result _ _
    (λ i h. within c.form_of.new.bank i (form_with c.args.runs.now (tree_at c.args.bank.now c.args.term)) h)
    c.form_of.ensures.form
