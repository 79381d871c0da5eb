use Rattle.std.proofs.Common.{◌∙◌, ap₂}
use Rattle.std.proofs.lemmas.Bool.{or_from}
use Rattle.clap.specs.Simple.{with_rule}
use Rattle.tv_words.proofs.program.check.Goals as goal

pub returns-4 : goal.returns-4
returns-4 c = (
  c.in-Ok-attempt-command.ensures.shape c.option.ensures.local
      ∙ ap₂ with_rule (c.in-Ok-attempt-certified.ensures.shape c.file.ensures.local
      ∙ ap₂ with_rule c.in-Ok-attempt.ensures.0 c.file.ensures.rule) c.option.ensures.rule,
  c.in-Ok-attempt-command.ensures.globals ∙ or_from _ _
      (c.in-Ok-attempt-certified.ensures.globals ∙ or_from _ _ c.in-Ok-attempt.ensures.1 c.file.ensures.local)
      c.option.ensures.local,
)
