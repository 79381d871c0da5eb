use Rattle.std.proofs.Common.{◌≡◌, ◌∙◌, ℕ, ◌+◌, List, [], ◌∷◌, ◌++◌, map, take, get_or, sym, ap, arith}
use Rattle.std.proofs.lemmas.List.{take_more, take_all, map-append}
use Rattle.pair_setup.specs.Calling.{step_of}
use Rattle.pair_setup.specs.declared.calling.Step.{Step}
use Rattle.pair_setup.proofs.calling.steps.Goals as goal

pub word_step-requires : goal.word_step-requires
word_step-requires c = c.requires c.loop-word.word-index (0, 0) c.loop-word-test.true

pub loop-word-preserved : goal.loop-word-preserved
loop-word-preserved c =
    let words = c.args.words.now in
    let i = c.loop-word.word-index in
    let f = step_of c.args.image.now c.args.entry c.args.size in
    let one : List Step = f (get_or words i (0, 0)) ∷ [] in
    c.in-Ok-attempt.ensures.items ∙ ap (λ (l : List Step). l ++ c.word_step.result ∷ []) c.loop-word.invariant
    ∙ (ap (λ (s : Step). map f (take i words) ++ s ∷ []) c.word_step.ensures
    ∙ (sym (map-append f (take i words) (get_or words i (0, 0) ∷ [])) ∙ ap (map f) (sym (take_more words i (0, 0) c.loop-word-test.true))))

pub returns : goal.returns
returns c =
    c.loop-word.invariant
    ∙ ap (map (step_of c.args.image.now c.args.entry c.args.size)) (take_all c.loop-word.word-index c.args.words.now (omega arith))
