use Rattle.std.proofs.Common.{◌∙◌, List, ℕ, Bor, length, ap, sym, arith}
use Rattle.std.proofs.lemmas.Bool.{eqb-true, eqb-false}
use Rattle.std.proofs.lemmas.List.{length-map}
use Rattle.c_types.specs.Typed.{typed_of}
use Rattle.pair_setup_calls.specs.Names.{names_of, texts_of}
use Rattle.pair_setup.proofs.Outcomes.{nothing-error}
use Rattle.pair_setup.proofs.pairing.pair.Goals as goal

pub returns-then-is_empty-clause-error : goal.returns-then-is_empty-clause-error
returns-then-is_empty-clause-error c =
    nothing-error c.args.image.now (typed_of c.args.unit.now) (names_of c.args.unit.now) (texts_of c.args.list.now)
    (length-map c.args.list.now (λ (b : Bor (List ℕ)). b.now) ∙ eqb-true (length c.args.list.now) 0 (sym c.is_empty.ensures ∙ c.if-is_empty.true))

pub listed_pairs-requires-clause-some : goal.listed_pairs-requires-clause-some
listed_pairs-requires-clause-some c = λ none.
    let empty = ap length none in
    let long = length-map c.args.list.now (λ (b : Bor (List ℕ)). b.now) in
    let some = eqb-false (length c.args.list.now) 0 (sym c.is_empty.ensures ∙ c.if-is_empty.false) in
    omega (arith, empty, long, some)
