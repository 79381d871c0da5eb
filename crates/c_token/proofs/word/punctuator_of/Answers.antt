use Rattle.std.proofs.Common.{◌<◌, subst, sym}
use Rattle.std.specs.Prelude.{IfSome}
use Rattle.c_token_spec.specs.Punctuators.{punctuator_of}
use Rattle.c_token.proofs.Marks.{punctuator-some}
use Rattle.c_token.proofs.word.punctuator_of.Goals as goal

pub returns-clause-some : goal.returns-clause-some
unfolding punctuator_of
returns-clause-some c = subst (λ found. IfSome found (λ front. 0 < front.1)) (sym c.find_front.ensures.front) (punctuator-some c.args.text.now)
