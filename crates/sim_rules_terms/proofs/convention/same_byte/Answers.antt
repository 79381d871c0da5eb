use Rattle.std.proofs.Common.{◌≡◌, IfOk, subst}
use Rattle.term_core_spec.specs.declared.Variable.{Variable}
use Rattle.term_core_spec.specs.Term.{equal, load, open_term}
use Rattle.term_core.specs.Trees.{term_of}
use Rattle.sim_rules_spec.specs.Points.{address, binary_memory, source_memory}
use Rattle.sim_rules_terms.specs.Conventions.{in_zone}
use Rattle.sim_rules_terms.proofs.convention.same_byte.Goals as goal

pub returns : goal.returns
returns c =
    let first = subst (λ (v : Variable). IfOk c.byte_of.result (λ x. term_of x.value ≡ load (open_term v) (open_term address))) c.binary_memory.ensures c.byte_of.ensures in
    let second = subst (λ (v : Variable). IfOk c.byte_of-2.result (λ x. term_of x.value ≡ load (open_term v) (open_term address))) c.source_memory.ensures c.byte_of-2.ensures in
    c.over_two.ensures (in_zone (term_of c.args.from.now) (term_of c.args.to.now)) (equal (load (open_term binary_memory) (open_term address)) (load (open_term source_memory) (open_term address)))
    c.inside.ensures (c.over_two-equal.ensures (load (open_term binary_memory) (open_term address)) (load (open_term source_memory) (open_term address)) first second)
