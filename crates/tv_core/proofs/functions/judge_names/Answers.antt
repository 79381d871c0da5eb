use Rattle.std.proofs.Common.{rules, refl, sym, subst, ◌∙◌, ap}
use Rattle.c_types.specs.Typed.{typed_of}
use Rattle.pair_setup_calls.specs.Names.{texts_of}
use Rattle.tv_words.specs.Jobs.{job_of}
use Rattle.tv_core.specs.Listed.{AnswersList}
use Rattle.tv_core.proofs.Judged.{refused_many}
use Rattle.tv_core.proofs.Lists.{judged_here, renamed_list}
use Rattle.tv_core.proofs.functions.judge_names.Goals as goal

pub returns-then-names-gt-MAX_FUNCTIONS : goal.returns-then-names-gt-MAX_FUNCTIONS
returns-then-names-gt-MAX_FUNCTIONS g c =
    let image = c.args.image.now in
    let unit = typed_of c.args.unit.now in
    let command = job_of c.args.job.now in
    let files = (g.D.Desk.state c.args.desk.now).files in
    judged_here image unit command c.args.names.now _ _
    (subst (AnswersList files image unit command c.args.names.now) (sym c.plain.ensures) (refused_many files image unit command c.args.names.now (search rules))) tt

pub judge_list-requires-clause-few : goal.judge_list-requires-clause-few
judge_list-requires-clause-few g c = search rules

pub returns : goal.returns
returns g c = judged_here c.args.image.now (typed_of c.args.unit.now) (job_of c.args.job.now) c.args.names.now _ _ tt refl

pub returns-2 : goal.returns-2
returns-2 g c =
    renamed_list c.args.image.now (typed_of c.args.unit.now) (job_of c.args.job.now) _ _ _ _ c.judge_list.result
    (ap texts_of c.as_slice.ensures.value ∙ c.in-Ok-attempt.ensures) c.judge_list.ensures
