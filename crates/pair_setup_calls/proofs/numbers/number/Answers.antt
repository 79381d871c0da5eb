use Rattle.std.proofs.Common.{◌∙◌}
use Rattle.pair_setup_calls.proofs.Indices.{found-some, number-only}
use Rattle.pair_setup_calls.proofs.numbers.number.Goals as goal

pub returns-clause-found : goal.returns-clause-found
returns-clause-found c = found-some c.args.unit.now.names.entries c.args.name.now c.get_index_of.result c.get_index_of.ensures.index

pub returns-clause-only : goal.returns-clause-only
returns-clause-only c = λ i is.
    c.get_index_of.ensures.index ∙ number-only c.args.unit.now.names.entries c.get_index_of.ensures.unique c.args.name.now i is
