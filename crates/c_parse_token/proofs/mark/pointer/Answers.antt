use Rattle.std.proofs.Common.{◌≡◌, refl, ◌∙◌, Ok, arith, subst, sym}
use Rattle.c_parse_laws.specs.Types.{read_pointer}
use Rattle.c_parse_token.specs.Lists.{list_of}
use Rattle.c_parse_token.proofs.Steps.{stars-start, stars-step, stars-end, fewer}
use Rattle.c_parse_token.proofs.mark.pointer.Goals as goal

pub loop-offset-init : goal.loop-offset-init
loop-offset-init c = record { going = stars-start (list_of c.args.tokens.now.rest.now); fewer = omega arith; counted = refl }

pub loop-offset-preserved : goal.loop-offset-preserved
loop-offset-preserved c =
    record {
      going = stars-step (read_pointer (list_of c.args.tokens.now.rest.now)) c.loop-offset.stars (list_of c.loop-offset.tokens.rest.now) (list_of c.take_star.new.tokens.rest.now) (list_of c.consts.new.tokens.rest.now) c.in-Some._offset c.consts.result c.loop-offset.invariant.going c.in-Some.ensures.was c.in-Some.ensures.taken c.consts.ensures.found
          (fewer c.consts.new.tokens.rest.now c.loop-offset.tokens.rest.now (omega (arith, c.in-Some.ensures.shorter, c.consts.ensures.shorter)));
      fewer = omega (arith, c.in-Some.ensures.shorter, c.consts.ensures.shorter, c.loop-offset.invariant.fewer);
      counted = c.consts.ensures.count ∙ c.take_star.ensures.count ∙ c.loop-offset.invariant.counted;
    }

pub returns-clause-found : goal.returns-clause-found
returns-clause-found c =
    let whole = read_pointer (list_of c.args.tokens.now.rest.now) in
    subst (λ rest. whole ≡ Ok (c.loop-offset.stars, list_of rest)) (sym c.in_default.ensures.none.1) (stars-end whole c.loop-offset.stars (list_of c.loop-offset.tokens.rest.now) c.loop-offset.invariant.going c.in_default.ensures.none.0)
