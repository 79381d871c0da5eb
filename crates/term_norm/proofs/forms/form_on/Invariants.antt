use Rattle.term_bank.specs.Nodes.{Extends}
use Rattle.term_norm.specs.Runs.{form_with}
use Rattle.term_norm.specs.Walk.{IsWalk, AreForms, work}
use Rattle.term_norm.proofs.forms.form_on.Given as goal

abbrev pub invariant-loop-form : goal.invariant-loop-form
invariant-loop-form l = record {
  grown : Extends l.initial.bank l.bank;
  sound : IsWalk l.walk l.term;
  forms : AreForms (form_with l.runs) l.bank l.walk;
}

abbrev pub decreases-loop-form : goal.decreases-loop-form
decreases-loop-form l = work l.walk l.term
