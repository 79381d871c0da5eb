use Rattle.bit_blast_circuits.proofs.Calls.{sign_there}
use Rattle.bit_blast_circuits.proofs.words.sign_of.Goals as goal

pub returns-in-Some : goal.returns-in-Some
returns-in-Some c = sign_there c.args.xs.now c.in-Some.top.now c.in-Some.ensures.value
