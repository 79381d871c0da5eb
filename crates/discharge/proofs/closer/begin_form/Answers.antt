use Rattle.std.proofs.Common.{◌≡◌, ◌∙◌, true}
use Rattle.std.specs.Prelude.{◌≢◌}
use Rattle.term_bank.specs.Nodes.{tree_at}
use Rattle.discharge_spec.specs.Closing.{is_truth}
use Rattle.discharge.proofs.Begun.{form_begins}
use Rattle.discharge.proofs.closer.begin_form.Goals as goal
use Rattle.discharge.proofs.closer.begin_form.Goals.{else-is_truth-via-then-is_truth+else-count-eq0, else-is_truth-via-else-is_truth}

pub returns-in-Ok : goal.returns-in-Ok
returns-in-Ok c =
    let needed : is_truth (tree_at c.args.bank.now c.args.form) ≡ true → c.args.count ≢ 0 = elim c.else-is_truth.branch [
      | else-is_truth-via-then-is_truth+else-count-eq0 w ↦ λ plain none. w.if-count-eq0.false none
      | else-is_truth-via-else-is_truth w ↦ λ plain none. let no = w.if-is_truth.false in let yes = c.is_truth.ensures ∙ plain in cc
    ] in
    form_begins (tree_at c.args.bank.now c.args.form) c.args.count c.in-Ok.field-0.cnf c.begin_clauses.result needed c.in-Ok.ensures.within c.in-Ok.ensures.clauses c.begin_clauses.ensures
