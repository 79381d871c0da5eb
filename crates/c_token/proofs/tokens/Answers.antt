use Rattle.std.proofs.Common.{sym, arith}
use Rattle.std.proofs.lemmas.List.{map-append, nil_from_length}
use Rattle.c_token.proofs.Steps.{at_start, after_blank, after_token, at_fault, at_end}
use Rattle.c_token.proofs.Unique.{not_both, same_tokens}
use Rattle.c_token.proofs.tokens.Goals as goal

pub pieces-init : goal.pieces-init
pieces-init c = record {
  goes_on = rw c.new-tokens.ensures.items (at_start c.args.text.now);
  parts = omega arith;
}

pub pieces-preserved-in-Blank : goal.pieces-preserved-in-Blank
pieces-preserved-in-Blank c = record {
  goes_on = rw c.split_at.ensures.back (after_blank c.in-Some.first.now c.in-Some.after.now c.in-Blank.count c.in-Blank.then_fresh c.pieces.invariant.goes_on c.in-Some.ensures.cases.0 (sym c.in-Blank.ensures.piece));
  parts = omega (arith, c.pieces.invariant.parts, c.split_at.ensures.back_len);
}

pub pieces-preserved : goal.pieces-preserved
pieces-preserved c = record {
  goes_on = rw (c.split_at-in-Lexeme.ensures.back, c.in_ok-push-in-Lexeme.ensures.items, map-append) (after_token c.in-Some.first.now c.in-Some.after.now _ c.in-Lexeme.count c.pieces.invariant.goes_on c.in-Some.ensures.cases.0 (sym c.in-Lexeme.ensures.piece));
  parts = omega (arith, c.pieces.invariant.parts, c.split_at-in-Lexeme.ensures.back_len);
}

pub returns-in-Fault-clause-fault : goal.returns-in-Fault-clause-fault
returns-in-Fault-clause-fault c = at_fault c.in-Some.first.now c.in-Some.after.now c.in-Fault.kind c.pieces.invariant.goes_on c.in-Some.ensures.cases.0 (sym c.in-Fault.ensures.piece)

pub returns-clause-found : goal.returns-clause-found
returns-clause-found c = at_end c.pieces.invariant.goes_on (nil_from_length _ c.in_default.ensures.cases)

pub returns-in-Fault-clause-only : goal.returns-in-Fault-clause-only
returns-in-Fault-clause-only c placed are =
    absurd (not_both c.args.text.now c.in-Fault.kind c.pieces.offset placed
    (at_fault c.in-Some.first.now c.in-Some.after.now c.in-Fault.kind c.pieces.invariant.goes_on c.in-Some.ensures.cases.0 (sym c.in-Fault.ensures.piece))
    are)

pub returns-clause-same : goal.returns-clause-same
returns-clause-same c placed are =
    same_tokens c.args.text.now placed _ are (at_end c.pieces.invariant.goes_on (nil_from_length _ c.in_default.ensures.cases))
