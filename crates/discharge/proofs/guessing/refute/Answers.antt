use Rattle.std.proofs.Common.{◌≡◌, ◌∙◌, false, sym}
use Rattle.std.specs.Prelude.{IfSome}
use Rattle.std.proofs.lemmas.Option.{get_or_from_slice_get}
use Rattle.std.proofs.lemmas.Result.{IfOk-weaker}
use Rattle.memory_spec.specs.Viewed.{runs_of}
use Rattle.term_core_spec.specs.Value.{Truth, value}
use Rattle.term_norm_spec.specs.Normal.{normal}
use Rattle.term_core.specs.declared.assignment.Assignment.{Assignment}
use Rattle.term_core.specs.Assignment.{assignment_of}
use Rattle.term_bank.specs.Nodes.{tree_at}
use Rattle.discharge.specs.Answers.{RefutesGoal}
use Rattle.discharge.proofs.Rest.{refutes_by}
use Rattle.discharge.proofs.guessing.refute.Goals as goal

pub returns-in-Ok-clause-refutes : goal.returns-in-Ok-clause-refutes
returns-in-Ok-clause-refutes c =
    let is = get_or_from_slice_get c.normal.new.bank c.in-Ok.form (normal (runs_of c.args.runs.now) (tree_at c.args.bank.now c.args.goal)) _ c.in-Ok.ensures.form in
    IfOk-weaker c.guess_form.result (λ found. IfSome found (λ (a : Assignment). value (assignment_of a) (tree_at c.normal.new.bank c.in-Ok.form) ≡ Truth false))
    (λ found. IfSome found (RefutesGoal (runs_of c.args.runs.now) (tree_at c.args.bank.now c.args.goal)))
    (λ found. refutes_by (runs_of c.args.runs.now) (tree_at c.args.bank.now c.args.goal) (tree_at c.normal.new.bank c.in-Ok.form) found
    (sym c.in-Ok-true.ensures ∙ c.in-Ok-true.field-0-test) is)
    c.guess_form.ensures
