use Rattle.std.proofs.Common.{◌∙◌, ◌+◌, ◌<◌, ◌≤◌, List, ℕ, ◌++◌, length, drop, sym, ap, arith, append-nil}
use Rattle.std.proofs.lemmas.List.{drop_all}
use Rattle.templates_spec.specs.Templates.{each_once}
use Rattle.templates.proofs.Growth.{next_of}
use Rattle.templates.proofs.slots.each_once.Goals as goal

pub loop-number-preserved : goal.loop-number-preserved
loop-number-preserved c =
    let ns = c.args.numbers.now in
    let i = c.loop-number.number-index in
    let once = c.loop-number.once.items in
    let below : i < length ns = omega arith in
    c.in-Ok-attempt.ensures (drop (i + 1) ns) ∙ (ap (λ (l : List ℕ). once ++ each_once once l) (sym (next_of ns i 0 below)) ∙ c.loop-number.invariant)

pub returns : goal.returns
unfolding each_once
returns c =
    let ns = c.args.numbers.now in
    let i = c.loop-number.number-index in
    let once = c.loop-number.once.items in
    let past : length ns ≤ i = omega arith in
    sym (append-nil once) ∙ (ap (λ (l : List ℕ). once ++ each_once once l) (sym (drop_all i ns past)) ∙ c.loop-number.invariant)
