use Rattle.std.proofs.Common.{◌+◌, sym, ◌∙◌, ap, arith}
use Rattle.code_reach.proofs.stacks.total.Goals as goal

pub overflow_add-total : goal.overflow_add-total
overflow_add-total c = omega (
  arith,
  c.requires.short (c.in_ok-own.own + c.in_ok-called.called) (record {
    size = c.unwrap-size.result;
    size_is = sym c.size_at.ensures ∙ c.unwrap-size.ensures;
    places = c.in_ok-own.ensures.places;
    places_are = c.in_ok-own.ensures.places_are;
    deepest = c.in_ok-called.called;
    greatest = c.in_ok-called.ensures;
    total_is = ap (λ n. n + c.in_ok-called.called) c.in_ok-own.ensures.own_is;
  }),
)

pub returns : goal.returns
returns c = record {
  size = c.unwrap-size.result;
  size_is = sym c.size_at.ensures ∙ c.unwrap-size.ensures;
  places = c.in_ok-own.ensures.places;
  places_are = c.in_ok-own.ensures.places_are;
  deepest = c.in_ok-called.called;
  greatest = c.in_ok-called.ensures;
  total_is = ap (λ n. n + c.in_ok-called.called) c.in_ok-own.ensures.own_is;
}
