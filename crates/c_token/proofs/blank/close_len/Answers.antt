use Rattle.std.proofs.Common.{◌∙◌, sym, ap}
use Rattle.std.specs.Prelude.{codes, nat_eq}
use Rattle.std.specs.List.{starts_with}
use Rattle.c_token.proofs.Comments.{close_len-step}
use Rattle.c_token.proofs.blank.close_len.Goals as goal

pub loop-start-preserved : goal.loop-start-preserved
loop-start-preserved c = close_len-step c.args.text.now c.loop-start.start c.loop-start-test.true (ap (λ t. starts_with nat_eq t (codes "*/")) (sym c.split_at.ensures.back) ∙ sym c.if-starts_with.ensures.value) ∙ c.loop-start.invariant
