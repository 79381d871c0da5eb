use Rattle.std.proofs.Common.{◌≡◌, ◌∙◌, List, All, map, sym, ap, subst}
use Rattle.std.proofs.lemmas.Option.{same_Some}
use Rattle.pair_setup.specs.Calling.{step_of, IsWhole}
use Rattle.pair_setup.specs.declared.calling.Step.{Step}
use Rattle.pair_setup.proofs.Totals.{are-whole}
use Rattle.pair_setup.proofs.calling.sound_steps.Goals as goal

pub steps-requires : goal.steps-requires
steps-requires c =
    subst (All (IsWhole c.args.entry)) (sym c.as_slice.ensures.value)
    (are-whole c.args.image.now c.args.entry c.in-Ok.words.items c.in-Ok.ensures.found)

pub returns-in-Ok-attempt : goal.returns-in-Ok-attempt
returns-in-Ok-attempt c =
    let is = c.in-Ok.ensures.found in
    let same : c.args.size ≡ is.size = same_Some c.args.size is.size (sym c.requires ∙ is.size_is) in
    record {
      words = c.in-Ok.words.items;
      code = is;
      steps_are = c.in-Ok-attempt.ensures ∙ ap (map (step_of c.args.image.now c.args.entry c.args.size)) c.as_slice.ensures.value
          ∙ ap (λ n. map (step_of c.args.image.now c.args.entry n) c.in-Ok.words.items) same;
    }
