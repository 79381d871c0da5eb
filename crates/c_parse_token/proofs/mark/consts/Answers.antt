use Rattle.std.proofs.Common.{◌≡◌, refl, ◌∙◌, Ok, Some, arith, subst, sym}
use Rattle.std.specs.Prelude.{unwrap_or}
use Rattle.exact_read.specs.Grammar.{read_map}
use Rattle.c_parse_laws.specs.Types.{read_consts}
use Rattle.c_parse_token.specs.Lists.{list_of}
use Rattle.c_parse_token.specs.Words.{first_of}
use Rattle.c_parse_token.proofs.Steps.{Consts, consts-start, consts-step, consts-end, fewer}
use Rattle.c_parse_token.proofs.mark.consts.Goals as goal

pub loop-offset-init : goal.loop-offset-init
loop-offset-init c = record { going = consts-start (list_of c.args.tokens.now.rest.now); fewer = omega arith; counted = refl }

pub loop-offset-preserved : goal.loop-offset-preserved
loop-offset-preserved c =
    let whole = read_map first_of read_consts (list_of c.args.tokens.now.rest.now) in
    let first : unwrap_or c.loop-offset.first c.in-Some.offset ≡ c.unwrap_or.result = grind arith in
    record {
      going = subst (λ offset. Consts whole (Some offset) (list_of c.take_const.new.tokens.rest.now)) first
          (consts-step whole c.loop-offset.first (list_of c.loop-offset.tokens.rest.now) (list_of c.take_const.new.tokens.rest.now) c.in-Some.offset c.loop-offset.invariant.going c.in-Some.ensures.was c.in-Some.ensures.taken (fewer c.take_const.new.tokens.rest.now c.loop-offset.tokens.rest.now (omega (arith, c.in-Some.ensures.shorter))));
      fewer = omega (arith, c.in-Some.ensures.shorter, c.loop-offset.invariant.fewer);
      counted = c.take_const.ensures.count ∙ c.loop-offset.invariant.counted;
    }

pub returns-clause-found : goal.returns-clause-found
returns-clause-found c =
    let whole = read_map first_of read_consts (list_of c.args.tokens.now.rest.now) in
    subst (λ rest. whole ≡ Ok (c.loop-offset.first, list_of rest)) (sym c.in_default.ensures.none.1) (consts-end whole c.loop-offset.first (list_of c.loop-offset.tokens.rest.now) c.loop-offset.invariant.going c.in_default.ensures.none.0)
