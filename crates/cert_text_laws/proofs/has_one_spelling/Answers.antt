use Rattle.std.proofs.Common.{sym, ◌∙◌}
use Rattle.cert_text_laws.proofs.has_one_spelling.Goals as goal

pub returns : goal.returns
returns c = λ one two lines a b. a.cut ∙ sym b.cut
