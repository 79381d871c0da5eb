use Rattle.std.proofs.Common.{◌≤◌, length, map, sym, arith}
use Rattle.std.proofs.lemmas.List.Folds.{flat_map-map}
use Rattle.templates_spec.specs.Templates.{words_of, all_words}
use Rattle.templates.specs.Viewed.{value_of}
use Rattle.templates.proofs.Growth.{begins, finished}
use Rattle.templates.proofs.words.add_all_words.Goals as goal

pub loop-value-init : goal.loop-value-init
loop-value-init c = begins c.args.bank.now c.args.ids.now.items (λ v. words_of (value_of v)) c.args.values.now c.requires

pub returns : goal.returns
returns c =
    let vs = c.args.values.now in
    let past : length vs ≤ c.loop-value.value-index = omega arith in
    finished c.args.bank.now c.loop-value.bank c.args.ids.now.items c.loop-value.ids.items (λ v. words_of (value_of v)) vs c.loop-value.value-index
    (all_words (map value_of vs)) past c.loop-value.invariant (sym (flat_map-map words_of value_of vs))
