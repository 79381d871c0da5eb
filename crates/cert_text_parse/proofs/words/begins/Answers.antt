use Rattle.std.proofs.Common.{sym, ap, ◌∙◌, length}
use Rattle.std.specs.Prelude.{◌==◌}
use Rattle.cert_text_parse.proofs.Tables.{begins_common}
use Rattle.cert_text_parse.proofs.words.begins.Goals as goal

pub returns-clause-same : goal.returns-clause-same
returns-clause-same c = ap (λ n. n == length c.args.word.now) c.common.ensures.same ∙ sym (begins_common c.args.word.now c.args.text.now)
