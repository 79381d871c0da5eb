use Rattle.std.proofs.Common.{ℕ, List, ap}
use Rattle.std.specs.Prelude.{if◌then◌else◌}
use Rattle.std.specs.HashMap.{get}
use Rattle.std.specs.Map.{lookup}
use Rattle.term_core_spec.specs.declared.Variable.{Variable}
use Rattle.term_core_spec.specs.Same.{same_variable}
use Rattle.term_core_spec.specs.Term.{open_term}
use Rattle.sim_rules_spec.specs.Points.{zone_low, zone_high}
use Rattle.sim_calls.specs.Left.{IsEmpty}
use Rattle.sim_calls.proofs.Puts.{empty_map, put_map}
use Rattle.sim_calls.proofs.cut.source_terms.Goals as goal

pub returns : goal.returns
returns c = λ trees s t low high.
    let m0 = get same_variable c.new-terms.result in
    let m1 = get same_variable c.put.new.terms in
    let m2 = get same_variable c.put-2.new.terms in
    let none : IsEmpty m0 = λ v. ap (λ (entries : List (Variable × ℕ)). lookup (same_variable v) entries) c.new-terms.ensures.empty in
    put_map trees zone_low c.args.low s low m1 m2 c.in_ok-put-2.ensures (λ v. if same_variable v zone_high then t else open_term v)
    (put_map trees zone_high c.args.high t high m0 m1 c.in_ok-put.ensures open_term (empty_map trees m0 none))
