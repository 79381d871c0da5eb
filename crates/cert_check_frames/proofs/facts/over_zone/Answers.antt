use Rattle.std.proofs.Common.{◌≡◌, IfOk, subst}
use Rattle.term_core_spec.specs.declared.Variable.{Variable}
use Rattle.term_core_spec.specs.Term.{open_term}
use Rattle.term_core.specs.Trees.{term_of}
use Rattle.sim_rules_spec.specs.Calling.{at_entry, zone_from}
use Rattle.sim_rules_spec.specs.Points.{source_memory, zone_memory}
use Rattle.cert_check_frames.proofs.facts.over_zone.Goals as goal

pub returns : goal.returns
returns c =
    let source = subst (λ (v : Variable). IfOk c.open.result (λ x. term_of x.value ≡ open_term v)) c.variable.ensures c.open.ensures in
    let zone = subst (λ (v : Variable). IfOk c.open-2.result (λ x. term_of x.value ≡ open_term v)) c.variable-2.ensures c.open-2.ensures in
    c.overlaid.ensures (open_term source_memory) (open_term zone_memory) (zone_from c.args.stack) (at_entry 2) source zone c.zone_from.ensures c.at_entry.ensures
