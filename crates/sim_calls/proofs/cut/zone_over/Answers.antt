use Rattle.term_core_spec.specs.Term.{open_term}
use Rattle.term_core.specs.Trees.{term_of}
use Rattle.sim_rules_spec.specs.Points.{source_memory, zone_memory}
use Rattle.sim_calls.proofs.cut.zone_over.Goals as goal

pub returns : goal.returns
returns c =
    c.overlaid.ensures (open_term source_memory) (open_term zone_memory) (term_of c.args.from.now) (term_of c.args.to.now) c.open.ensures c.open-2.ensures c.copy.ensures c.copy-2.ensures
