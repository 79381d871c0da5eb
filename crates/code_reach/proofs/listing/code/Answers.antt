use Rattle.std.proofs.Common.{All, sym, ◌∙◌, subst}
use Rattle.code_reach_spec.specs.Code.{AreReachable}
use Rattle.code_reach.specs.Growth.{IsPlace}
use Rattle.code_reach.proofs.Listed.{first-of-range, places-reached, ok-code, err-code}
use Rattle.code_reach.proofs.listing.code.Goals as goal

pub returns-in-Some-clause-fault : goal.returns-in-Some-clause-fault
returns-in-Some-clause-fault c = record {
  size = c.unwrap-size.result;
  size_is = sym c.size_at.ensures ∙ c.unwrap-size.ensures;
  first = first-of-range c.args.image.now c.args.entry c.unwrap-size.result c.in-Some.kind c.in-Some.ensures;
}

pub words-requires : goal.words-requires
words-requires c =
    subst (All (IsPlace c.args.entry c.unwrap-size.result)) (sym c.as_slice.ensures.keys)
    (places-reached c.args.image.now c.args.entry c.unwrap-size.result c.in_ok-places.places.keys c.in_ok-places.ensures.reached)

pub returns-clause-found : goal.returns-clause-found
returns-clause-found c =
    ok-code c.args.image.now c.args.entry c.unwrap-size.result c.in_default.ensures c.reached.new.targets.keys c.as_slice.result.now
    (subst (AreReachable c.args.image.now c.args.entry c.unwrap-size.result) (sym c.as_slice.ensures.keys) c.in_ok-places.ensures.reached) c.in_ok-places.ensures.targets (λ words. words.items)
    c.words.result (sym c.size_at.ensures ∙ c.unwrap-size.ensures) c.words.ensures.listed

pub returns-clause-fault : goal.returns-clause-fault
returns-clause-fault c =
    err-code c.args.image.now c.args.entry c.unwrap-size.result c.in_default.ensures c.reached.new.targets.keys c.as_slice.result.now
    (subst (AreReachable c.args.image.now c.args.entry c.unwrap-size.result) (sym c.as_slice.ensures.keys) c.in_ok-places.ensures.reached) c.in_ok-places.ensures.targets
    c.words.result (sym c.size_at.ensures ∙ c.unwrap-size.ensures) c.words.ensures.fault
