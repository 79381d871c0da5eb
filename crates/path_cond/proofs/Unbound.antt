-- What a list of bindings gives past its end.
use Rattle.term_core_spec.specs.declared.Family.TheVariants.{Register}
use Rattle.term_core_spec.specs.declared.Sort.TheVariants.{Truth}
use Rattle.graph_core.specs.declared.shared.SharedBinding.{SharedBinding}

abbrev pub unbound : SharedBinding
unbound = record { variable = record { family = Register; index = 0; instance = 0; sort = Truth }; term = 0 }
