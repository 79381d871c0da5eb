use Rattle.std.proofs.Common.{◌∙◌, ap₂}
use Rattle.std.proofs.lemmas.Bool.{or_from}
use Rattle.clap.specs.Simple.{with_rule}
use Rattle.tv_words.proofs.program.with_files.Goals as goal

pub returns-3 : goal.returns-3
returns-3 c = (
  c.in-Ok-attempt-with_both.ensures.shape c.file-2.ensures.local
      ∙ ap₂ with_rule (c.in-Ok-attempt.ensures.shape c.file.ensures.local
      ∙ ap₂ with_rule c.new.ensures.app c.file.ensures.rule) c.file-2.ensures.rule,
  c.in-Ok-attempt-with_both.ensures.globals ∙ or_from _ _
      (c.in-Ok-attempt.ensures.globals ∙ or_from _ _ c.new.ensures.local c.file.ensures.local)
      c.file-2.ensures.local,
)
