use Rattle.std.proofs.Common.{ℕ, List, ap}
use Rattle.std.specs.HashMap.{get}
use Rattle.std.specs.Map.{lookup}
use Rattle.term_core_spec.specs.declared.Variable.{Variable}
use Rattle.term_core_spec.specs.Same.{same_variable}
use Rattle.term_core_spec.specs.Term.{open_term}
use Rattle.sim_rules_spec.specs.Points.{binary_memory}
use Rattle.sim_calls.specs.Left.{IsEmpty}
use Rattle.sim_calls.proofs.Puts.{empty_map, put_map}
use Rattle.sim_calls.proofs.cut.binary_terms.Goals as goal

pub returns : goal.returns
returns c = λ trees m holds.
    let none : IsEmpty (get same_variable c.new-terms.result) = λ v. ap (λ (entries : List (Variable × ℕ)). lookup (same_variable v) entries) c.new-terms.ensures.empty in
    put_map trees binary_memory c.args.memory m holds (get same_variable c.new-terms.result) (get same_variable c.put.new.terms) c.in_ok-put.ensures open_term
    (empty_map trees (get same_variable c.new-terms.result) none)
