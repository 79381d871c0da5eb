use Rattle.std.proofs.Common.{◌≡◌, ◌+◌, [], get_or, ap, sym, subst, arith}
use Rattle.std.proofs.lemmas.List.Elements.{Contains-get_or}
use Rattle.code_reach_spec.specs.Code.{IsReachable, here}
use Rattle.code_reach.specs.Growth.{Grows, FromFirst, GoesTo, HasTarget}
use Rattle.code_reach.proofs.Growing.{first-none, first-more, first-of-more}
use Rattle.code_reach.proofs.Walks.{walked-start, walked-next}
use Rattle.code_reach.proofs.Places.{place-walked, step-path, walked-reaches, walked-targets}
use Rattle.code_reach.proofs.walk.add_reached.Goals as goal

pub loop-next-init : goal.loop-next-init
loop-next-init c = record {
  walked =
      walked-start (GoesTo c.args.image.now c.args.entry c.args.size) (IsReachable c.args.image.now c.args.entry c.args.size) c.args.entry
      c.add.new.items.keys (here c.requires.code)
      (subst (λ l. Grows (λ t. t ≡ c.args.entry) l c.add.new.items.keys) c.requires.none_yet c.in_ok-add.ensures);
  targets_are =
      subst (λ l. Grows (FromFirst (HasTarget c.args.image.now c.args.entry) c.add.new.items.keys 0) [] l) (sym c.requires.no_targets)
      (first-none (HasTarget c.args.image.now c.args.entry) c.add.new.items.keys []);
}

pub follow-requires-clause-from : goal.follow-requires-clause-from
follow-requires-clause-from c =
    rw c.as_slice.ensures.keys
    ((place-walked c.args.image.now c.args.entry c.args.size c.loop-next.next c.loop-next.reached.keys c.loop-next.invariant.walked (omega arith)).inside.from)

pub follow-requires-clause-below : goal.follow-requires-clause-below
follow-requires-clause-below c =
    rw c.as_slice.ensures.keys
    ((place-walked c.args.image.now c.args.entry c.args.size c.loop-next.next c.loop-next.reached.keys c.loop-next.invariant.walked (omega arith)).inside.below)

pub follow-requires-clause-whole : goal.follow-requires-clause-whole
follow-requires-clause-whole c =
    rw c.as_slice.ensures.keys
    ((place-walked c.args.image.now c.args.entry c.args.size c.loop-next.next c.loop-next.reached.keys c.loop-next.invariant.walked (omega arith)).whole)

pub loop-next-preserved : goal.loop-next-preserved
loop-next-preserved c =
    let here = get_or c.as_slice.result.now c.loop-next.next 0 in
    let is : here ≡ get_or c.loop-next.reached.keys c.loop-next.next 0 = ap (λ l. get_or l c.loop-next.next 0) c.as_slice.ensures.keys in
    record {
      walked =
          walked-next (GoesTo c.args.image.now c.args.entry c.args.size) (IsReachable c.args.image.now c.args.entry c.args.size) c.args.entry
          c.loop-next.next here c.loop-next.reached.keys c.follow.new.reached.keys c.loop-next.invariant.walked (omega arith) is c.in_ok-follow.ensures.reached
          (λ t step. step-path c.args.image.now c.args.entry c.args.size here t
          (subst (IsReachable c.args.image.now c.args.entry c.args.size) (sym is)
          (c.loop-next.invariant.walked.sound (get_or c.loop-next.reached.keys c.loop-next.next 0) (Contains-get_or c.loop-next.reached.keys c.loop-next.next 0 (omega arith)))) step);
      targets_are =
          subst (λ l. Grows (FromFirst (HasTarget c.args.image.now c.args.entry) l (c.loop-next.next + 1)) [] c.follow.new.targets.keys)
          (sym c.in_ok-follow.ensures.reached.grown)
          (first-of-more (HasTarget c.args.image.now c.args.entry) c.loop-next.reached.keys (c.loop-next.next + 1) c.in_ok-follow.ensures.reached.more []
          c.follow.new.targets.keys (omega arith)
          (first-more (HasTarget c.args.image.now c.args.entry) c.loop-next.reached.keys c.loop-next.next here is [] c.loop-next.targets.keys
          c.follow.new.targets.keys c.loop-next.invariant.targets_are c.in_ok-follow.ensures.targets));
    }

pub returns-clause-reached : goal.returns-clause-reached
returns-clause-reached c =
    walked-reaches c.args.image.now c.args.entry c.args.size c.loop-next.next c.loop-next.reached.keys c.loop-next.invariant.walked (omega arith)

pub returns-clause-targets : goal.returns-clause-targets
returns-clause-targets c =
    walked-targets c.args.image.now c.args.entry c.args.size c.loop-next.next c.loop-next.reached.keys c.loop-next.targets.keys c.loop-next.invariant.walked (omega arith)
    c.loop-next.invariant.targets_are
