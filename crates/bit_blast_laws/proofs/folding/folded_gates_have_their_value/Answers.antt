use Rattle.bit_blast_laws.proofs.Foldings.{and_is, or_is, xor_is, mux_is, majority_is}
use Rattle.bit_blast_laws.proofs.folding.folded_gates_have_their_value.Goals as goal

pub returns-clause-and : goal.returns-clause-and
returns-clause-and c = and_is

pub returns-clause-or : goal.returns-clause-or
returns-clause-or c = or_is

pub returns-clause-xor : goal.returns-clause-xor
returns-clause-xor c = xor_is

pub returns-clause-mux : goal.returns-clause-mux
returns-clause-mux c = mux_is

pub returns-clause-majority : goal.returns-clause-majority
returns-clause-majority c = majority_is
