use Rattle.std.proofs.Common.{rules, ◌≡◌, ◌∙◌, ◌/◌, length, replicate, None, ap, sym, subst}
use Rattle.std.specs.Vec.{with_items}
use Rattle.std.proofs.lemmas.List.{with_items_is}
use Rattle.clause_check.specs.Stamps.{signs_in, AreStamps}
use Rattle.clause_check.proofs.Stamped.{none_signed, length_signs, stamps_below}
use Rattle.clause_check.proofs.stamps.Stamps.clear.Goals as goal

pub returns : goal.returns
returns c =
    let e : (with_items c.self.inside.stamps c.next_round-self-inside.new.stamps).items ≡ c.next_round-self-inside.new.stamps =
    with_items_is c.self.inside.stamps c.next_round-self-inside.new.stamps (search rules)
    in
    let count = ap length c.self.view_is in
    let same : length c.next_round-self-inside.new.stamps ≡ length c.self.inside.stamps.items = search rules in
    ap (signs_in c.next_round-self-inside.result) e
    ∙ none_signed c.next_round-self-inside.result c.next_round-self-inside.new.stamps c.next_round-self-inside.ensures.new
    ∙ ap (λ n. replicate n None)
    (length_signs c.next_round-self-inside.result c.next_round-self-inside.new.stamps ∙ ap (λ n. n / 2) same
    ∙ sym (length_signs c.self.inside.round c.self.inside.stamps.items) ∙ count)

pub invariant_of-self : goal.invariant_of-self
invariant_of-self c =
    let e : (with_items c.self.inside.stamps c.next_round-self-inside.new.stamps).items ≡ c.next_round-self-inside.new.stamps =
    with_items_is c.self.inside.stamps c.next_round-self-inside.new.stamps (search rules)
    in
    subst (AreStamps c.next_round-self-inside.result) (sym e)
    (stamps_below c.next_round-self-inside.result c.next_round-self-inside.new.stamps c.next_round-self-inside.ensures.new)
