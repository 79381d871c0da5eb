use Rattle.std.proofs.Common.{◌∙◌}
use Rattle.c_types.specs.Typed.{typed_of}
use Rattle.tv_words.specs.Jobs.{job_of}
use Rattle.tv_core.proofs.Judging.{by_list, by_memory}
use Rattle.tv_core.proofs.judge.judge_unit.Goals as goal

pub returns : goal.returns
returns g c = λ text is. by_memory c.args.image.now text (job_of c.args.job.now) _

pub returns-2 : goal.returns-2
returns-2 g c = λ text is.
    by_list c.args.image.now (typed_of c.args.unit.now) text (job_of c.args.job.now) _ _ _ c.judge_names.result is
    (c.as_slice.ensures.value ∙ c.in-Ok-attempt.ensures) c.judge_names.ensures
