use Rattle.std.proofs.Common.{◌∙◌, ap₂}
use Rattle.std.proofs.lemmas.Bool.{or_from}
use Rattle.clap.specs.Simple.{with_rule}
use Rattle.tv_words.proofs.program.show.Goals as goal

pub returns-3 : goal.returns-3
returns-3 c = (
  c.in-Ok-attempt-command.ensures.shape c.option.ensures.local
      ∙ ap₂ with_rule c.in-Ok-attempt.ensures.0 c.option.ensures.rule,
  c.in-Ok-attempt-command.ensures.globals ∙ or_from _ _ c.in-Ok-attempt.ensures.1 c.option.ensures.local,
)
