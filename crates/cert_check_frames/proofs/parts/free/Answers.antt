use Rattle.std.proofs.lemmas.Bool.{false≢true}
use Rattle.std.proofs.Common.{sym, ◌∙◌}
use Rattle.cert_check_frames.proofs.Indexed.{free_there}
use Rattle.cert_check_frames.proofs.parts.free.Goals as goal

pub returns-then-has_part : goal.returns-then-has_part
returns-then-has_part c = λ k named free. free (c.has_part.ensures.0 c.if-has_part.true)

pub returns : goal.returns
returns c =
    free_there c.args.listed.now c.args.parts.now c.args.name.now c.index_of.result
    (λ has. false≢true (sym c.if-has_part.false ∙ c.has_part.ensures.1 has)) c.index_of.ensures
