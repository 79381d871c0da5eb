use Rattle.std.proofs.Common.{drop}
use Rattle.templates_spec.specs.Templates.{words_of}
use Rattle.templates.specs.Viewed.{value_of}
use Rattle.templates.proofs.Growth.{IsSoFar}
use Rattle.templates.proofs.words.add_all_words.Given as goal

abbrev pub invariant-loop-value : goal.invariant-loop-value
invariant-loop-value l = IsSoFar l.fn.bank l.bank l.fn.ids.items l.ids.items (λ v. words_of (value_of v)) l.values (drop l.value-index l.values)
