use Rattle.std.proofs.Common.{◌≡◌, Bool, length, sym, ap, ◌∙◌, rules}
use Rattle.std.specs.Prelude.{◌&&◌}
use Rattle.std.proofs.lemmas.Bool.{eq-eqb, ne_eqb}
use Rattle.word_steps_rules.specs.Monomials.{are_equally_often}
use Rattle.word_steps_rules.proofs.Often.{same_by_counts}
use Rattle.word_steps_rules.proofs.monomial.same_ids.Goals as goal

pub returns-then-first-second : goal.returns-then-first-second
returns-then-first-second c =
    let first = c.args.first.now in
    let second = c.args.second.now in
    let same : length first ≡ length second = search rules in
    c.are_equally_often.ensures ∙ ap (λ (p : Bool). p && are_equally_often first first second) (sym (eq-eqb (length first) (length second) same)) ∙ same_by_counts first second

pub returns-else-first-second : goal.returns-else-first-second
returns-else-first-second c =
    let first = c.args.first.now in
    let second = c.args.second.now in
    let other = ne_eqb (length first) (length second) c.if-first-second.false in
    other ∙ ap (λ (p : Bool). p && are_equally_often first first second) (sym other) ∙ same_by_counts first second
