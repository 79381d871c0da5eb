use Rattle.std.proofs.Common.{sym, subst}
use Rattle.c_token_spec.specs.Lexical.{AreTokens}
use Rattle.c_parse_token.specs.Lists.{list_of}
use Rattle.validity_spec.specs.Source.{IsC}
use Rattle.c_types.specs.Typed.{typed_of}
use Rattle.tv_words.specs.Jobs.{job_of}
use Rattle.tv_core.proofs.Judging.{by_refusal}
use Rattle.tv_core.proofs.judge.judge_source.Goals as goal

pub core_of-requires : goal.core_of-requires
core_of-requires g c = subst (λ t. AreTokens c.args.source.now (list_of t)) (sym c.as_slice.ensures.value) c.in-Ok.ensures.found

pub judge_unit-judged-requires-clause-typed : goal.judge_unit-judged-requires-clause-typed
judge_unit-judged-requires-clause-typed g c =
    let core : IsC c.args.source.now (typed_of c.in-Ok-core_of.unit) = c.in-Ok-core_of.ensures in
    c.cores_of_units_are_typed.ensures core.tree (typed_of c.in-Ok-core_of.unit) core.has_types

pub judge_unit-judged-requires-clause-sizes : goal.judge_unit-judged-requires-clause-sizes
judge_unit-judged-requires-clause-sizes g c =
    let core : IsC c.args.source.now (typed_of c.in-Ok-core_of.unit) = c.in-Ok-core_of.ensures in
    c.cores_have_small_sizes.ensures core.tree (typed_of c.in-Ok-core_of.unit) core.has_types

pub returns-in-Ok-core_of : goal.returns-in-Ok-core_of
returns-in-Ok-core_of g c = c.judge_unit-judged.ensures c.args.source.now c.in-Ok-core_of.ensures

pub returns-in-Ok : goal.returns-in-Ok
returns-in-Ok g c =
    let source = c.args.source.now in
    by_refusal c.args.image.now source (job_of c.args.job.now) _ c.refused_source.result c.plainly.result c.plainly.ensures
    (λ elf task is. c.refused_source.ensures.exact elf source task c.args.image.now is c.in-Err-core_of.ensures)
    (λ elf task. c.refused_source.ensures.sound elf source task) c.refused_source.ensures.memory

pub returns : goal.returns
returns g c =
    let source = c.args.source.now in
    by_refusal c.args.image.now source (job_of c.args.job.now) _ c.refused_source-in-Err.result c.plainly-in-Err.result c.plainly-in-Err.ensures
    (λ elf task is. c.refused_source-in-Err.ensures.exact elf source task c.args.image.now is (c.token_fault.ensures source c.in-Err.ensures.fault))
    (λ elf task. c.refused_source-in-Err.ensures.sound elf source task) c.refused_source-in-Err.ensures.memory
