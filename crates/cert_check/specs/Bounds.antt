-- One bound more.
use Rattle.graph_core_spec.specs.declared.Mark.{Mark}
use Rattle.sim_rules_spec.specs.declared.Side.{Side}
use Rattle.sim_rules_spec.specs.declared.Side.TheVariants.{Binary, Source}
use Rattle.cert_check_jobs.specs.declared.extra.Extra.{Extra}
use Rattle.cert_check_jobs.specs.Extras.{HasBinaryBound, HasSourceBound}

-- the same with one bound more on a side
abbrev pub HasBound : (old : Extra) → Mark → (new : Extra) → Side → Type 0
HasBound old bound new Binary = HasBinaryBound old bound new
HasBound old bound new Source = HasSourceBound old bound new
