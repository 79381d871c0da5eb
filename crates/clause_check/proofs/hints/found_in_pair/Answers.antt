use Rattle.std.proofs.Common.{rules, ◌≡◌, ◌<◌, ◌∙◌, ◌∷◌, [], length, true, arith, sym, refl}
use Rattle.std.specs.Prelude.{not}
use Rattle.clause_check.specs.Signs.{is_sign, sign_of}
use Rattle.clause_check.proofs.Indices.{literal_named}
use Rattle.clause_check.proofs.Passing.{found_past, found_none, found_sole}
use Rattle.clause_check.proofs.hints.found_in_pair.Goals as goal

pub returns-then-is_false-2-clause-reported : goal.returns-then-is_false-2-clause-reported
returns-then-is_false-2-clause-reported c = λ truths reports.
    let pair = c.requires.pair in
    let below : 0 < length c.args.clause.now = omega (arith, pair) in
    let next : 1 < length c.args.clause.now = omega (arith, pair) in
    let first : is_sign (sign_of c.args.stamps.now c.index-clause-0.result) (not c.index-clause-0.result.is_negated) ≡ true = search rules in
    let second : is_sign (sign_of c.args.stamps.now c.index-clause-1.result) (not c.index-clause-1.result.is_negated) ≡ true = search rules in
    sym (found_none truths c.args.clause.now 2
    (found_past c.args.stamps.now truths [] c.args.clause.now 0 c.index-clause-0.result reports c.requires.named below c.index-clause-0.is first
    ∙ found_past c.args.stamps.now truths [] c.args.clause.now 1 c.index-clause-1.result reports c.requires.named next c.index-clause-1.is second)
    (omega (arith, pair)))

pub found_alone-requires-clause-named : goal.found_alone-requires-clause-named
found_alone-requires-clause-named c =
    let pair = c.requires.pair in
    literal_named (length c.args.stamps.now) c.args.clause.now 1 c.index-clause-1.result c.requires.named (omega (arith, pair)) c.index-clause-1.is

pub found_alone-requires-then-is_false-3-clause-named : goal.found_alone-requires-then-is_false-3-clause-named
found_alone-requires-then-is_false-3-clause-named c =
    let pair = c.requires.pair in
    literal_named (length c.args.stamps.now) c.args.clause.now 0 c.index-clause-0.result c.requires.named (omega (arith, pair)) c.index-clause-0.is

pub returns-then-is_false-clause-reported : goal.returns-then-is_false-clause-reported
returns-then-is_false-clause-reported c = λ truths reports.
    let pair = c.requires.pair in
    let below : 0 < length c.args.clause.now = omega (arith, pair) in
    let first : is_sign (sign_of c.args.stamps.now c.index-clause-0.result) (not c.index-clause-0.result.is_negated) ≡ true = search rules in
    c.found_alone.ensures.reported truths reports
    ∙ sym (found_sole truths c.args.clause.now 1 2 c.index-clause-1.result
    (found_past c.args.stamps.now truths [] c.args.clause.now 0 c.index-clause-0.result reports c.requires.named below c.index-clause-0.is first)
    (omega (arith, pair)) c.index-clause-1.is refl (omega (arith, pair)))

pub returns-then-is_false-3-clause-reported : goal.returns-then-is_false-3-clause-reported
returns-then-is_false-3-clause-reported c = λ truths reports.
    let pair = c.requires.pair in
    let next : 1 < length c.args.clause.now = omega (arith, pair) in
    let second : is_sign (sign_of c.args.stamps.now c.index-clause-1.result) (not c.index-clause-1.result.is_negated) ≡ true = search rules in
    c.found_alone-then-is_false-3.ensures.reported truths reports
    ∙ sym (found_sole truths c.args.clause.now 0 2 c.index-clause-0.result refl (omega (arith, pair)) c.index-clause-0.is
    (found_past c.args.stamps.now truths (c.index-clause-0.result ∷ []) c.args.clause.now 1 c.index-clause-1.result reports c.requires.named next c.index-clause-1.is second)
    (omega (arith, pair)))
