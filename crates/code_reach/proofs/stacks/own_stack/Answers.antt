use Rattle.std.proofs.Common.{◌+◌, ◌≤◌, ◌^◌, All, length, sum_by, sym, ◌∙◌, ap, subst, arith}
use Rattle.code_reach.specs.Stacks.{opening_at}
use Rattle.code_reach.proofs.Deepest.{words-whole, words-few}
use Rattle.code_reach.proofs.stacks.own_stack.Goals as goal

pub openings-requires-clause-few : goal.openings-requires-clause-few
openings-requires-clause-few c =
    omega (arith, ap length c.as_slice.ensures.keys, words-few c.args.image.now c.args.entry c.args.size c.in_ok-places.places.keys c.in_ok-places.ensures)

pub openings-requires-clause-whole : goal.openings-requires-clause-whole
openings-requires-clause-whole c =
    subst (All (λ address. address + 4 ≤ 2 ^ 32)) (sym c.as_slice.ensures.keys)
    (words-whole c.args.image.now c.args.entry c.args.size c.in_ok-places.places.keys c.in_ok-places.ensures)

pub returns : goal.returns
returns c = record {
  places = c.in_ok-places.places.keys;
  places_are = c.in_ok-places.ensures;
  own_is = c.openings.ensures ∙ ap (sum_by (opening_at c.args.image.now)) c.as_slice.ensures.keys;
}
