use Rattle.std.proofs.Common.{◌∙◌, [], sym, subst}
use Rattle.memory_spec.specs.Viewed.{runs_of}
use Rattle.term_core_spec.specs.declared.Sort.TheVariants as sort
use Rattle.term_core_spec.specs.Term.{Term}
use Rattle.term_norm_spec.specs.Normal.{normal}
use Rattle.bit_blast_spec.specs.Goal.{visit}
use Rattle.bit_blast_laws.specs.Back.{TableLoadsFromVariables}
use Rattle.bit_blast_laws.proofs.NormalWhole.{goal_from}
use Rattle.std.proofs.lemmas.Option.{get_or_from_slice_get}
use Rattle.term_bank.specs.Nodes.{tree_at}
use Rattle.discharge.proofs.Rest.{seeks_by}
use Rattle.discharge.proofs.seeking.seek_counting.Goals as goal

pub returns-in-Ok-clause-seeks : goal.returns-in-Ok-clause-seeks
returns-in-Ok-clause-seeks c = λ sorted.
    let is = get_or_from_slice_get c.normal.new.bank c.in-Ok.form (normal (runs_of c.args.runs.now) (tree_at c.args.bank.now c.args.goal)) _ c.in-Ok.ensures.form in
    seeks_by (runs_of c.args.runs.now) (tree_at c.args.bank.now c.args.goal) (tree_at c.normal.new.bank c.in-Ok.form) c.args.limit c.seek_form.result
    (sym c.in-Ok-true.ensures ∙ c.in-Ok-true.field-0-test) is
    (c.seek_form.ensures (c.in-Ok.ensures.sort sort.Truth sorted)
    (subst (λ (f : Term). TableLoadsFromVariables (visit f [] 1).out) (sym is)
    (goal_from (runs_of c.args.runs.now) c.hold_runs.ensures (tree_at c.args.bank.now c.args.goal) sorted)))
