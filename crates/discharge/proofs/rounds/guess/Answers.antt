use Rattle.std.proofs.Common.{◌≡◌, false, subst}
use Rattle.std.specs.Prelude.{IfOk, IfSome}
use Rattle.std.proofs.lemmas.Option.{get_or_from_slice_get}
use Rattle.term_core_spec.specs.Term.{Term}
use Rattle.term_core_spec.specs.Value.{Truth, value}
use Rattle.term_core.specs.declared.assignment.Assignment.{Assignment}
use Rattle.term_core.specs.Assignment.{assignment_of}
use Rattle.term_bank.specs.Nodes.{tree_at}
use Rattle.discharge.proofs.rounds.guess.Goals as goal

pub returns-in-Ok : goal.returns-in-Ok
returns-in-Ok c =
    subst (λ (t : Term). IfOk c.guess_in.result (λ found. IfSome found (λ (a : Assignment). value (assignment_of a) t ≡ Truth false)))
    (get_or_from_slice_get c.alone.new.own c.in-Ok.id (tree_at c.args.bank.now c.args.form) _ c.in-Ok.ensures.tree) c.guess_in.ensures
