use Rattle.std.proofs.Common.{All, sym, ◌∙◌, subst}
use Rattle.code_reach_spec.specs.Code.{AreReachable}
use Rattle.code_reach.specs.Growth.{IsPlace}
use Rattle.code_reach.proofs.Listed.{places-reached}
use Rattle.code_reach.proofs.Visited.{calls-of-range, fault-of-range, calls-of-code, fault-of-result, in-any-case}
use Rattle.code_reach.proofs.functions.visit.Goals as goal

pub returns-in-Some-clause-calls : goal.returns-in-Some-clause-calls
returns-in-Some-clause-calls c =
    calls-of-range c.args.image.now c.args.entry c.unwrap-size.result (sym c.size_at.ensures ∙ c.unwrap-size.ensures) c.in-Some.kind c.in-Some.ensures
    c.args.entries.now.keys

pub returns-in-Some-clause-fault : goal.returns-in-Some-clause-fault
returns-in-Some-clause-fault c =
    fault-of-range c.args.image.now c.args.entry c.unwrap-size.result (sym c.size_at.ensures ∙ c.unwrap-size.ensures) c.in-Some.kind c.in-Some.ensures

pub add_calls-requires : goal.add_calls-requires
add_calls-requires c =
    subst (All (IsPlace c.args.entry c.unwrap-size.result)) (sym c.as_slice-addresses.ensures.keys)
    (places-reached c.args.image.now c.args.entry c.unwrap-size.result c.in_ok-places.places.keys c.in_ok-places.ensures.reached)

pub first_wrong-requires : goal.first_wrong-requires
first_wrong-requires c =
    subst (All (IsPlace c.args.entry c.unwrap-size.result)) (sym c.as_slice-addresses.ensures.keys)
    (places-reached c.args.image.now c.args.entry c.unwrap-size.result c.in_ok-places.places.keys c.in_ok-places.ensures.reached)

pub returns-clause-calls : goal.returns-clause-calls
returns-clause-calls c = in-any-case c.first_wrong.result
    (calls-of-code c.args.image.now c.args.entry c.unwrap-size.result (sym c.size_at.ensures ∙ c.unwrap-size.ensures) c.in_default.ensures
    c.reached.new.targets.keys c.as_slice-addresses.result.now
    (subst (AreReachable c.args.image.now c.args.entry c.unwrap-size.result) (sym c.as_slice-addresses.ensures.keys) c.in_ok-places.ensures.reached)
    c.in_ok-places.ensures.targets
    c.args.entries.now.keys c.add_calls.new.entries.keys c.in_ok-add_calls.ensures)

pub returns-clause-fault : goal.returns-clause-fault
returns-clause-fault c =
    fault-of-result c.args.image.now c.args.entry c.unwrap-size.result (sym c.size_at.ensures ∙ c.unwrap-size.ensures) c.in_default.ensures
    c.reached.new.targets.keys c.as_slice-addresses.result.now
    (subst (AreReachable c.args.image.now c.args.entry c.unwrap-size.result) (sym c.as_slice-addresses.ensures.keys) c.in_ok-places.ensures.reached)
    c.in_ok-places.ensures.targets
    c.first_wrong.result c.first_wrong.ensures
