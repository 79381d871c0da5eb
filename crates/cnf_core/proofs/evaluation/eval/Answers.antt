use Rattle.std.proofs.Common.{rules, ◌≡◌, Some, sym, ◌∙◌}
use Rattle.std.specs.Prelude.{slice_get}
use Rattle.std.proofs.lemmas.Option.{slice_get_within, get_or_from_slice_get}
use Rattle.clause_check_spec.specs.Clause.{satisfies_clause}
use Rattle.cnf_core.specs.Bits.{valuation}
use Rattle.cnf_core.proofs.Loops.{all_more, some_fails}
use Rattle.cnf_core.proofs.evaluation.eval.Goals as goal

pub returns-then-not-satisfies_clause : goal.returns-then-not-satisfies_clause
returns-then-not-satisfies_clause c =
    let here : slice_get c.args.cnf.now.clauses c.loop-index.index ≡ Some c.unwrap-clause.result.now = search rules in
    sym (some_fails (satisfies_clause (valuation c.args.bits.now)) c.args.cnf.now.clauses c.loop-index.index c.unwrap-clause.result.now
    (slice_get_within c.args.cnf.now.clauses c.loop-index.index c.unwrap-clause.result.now here)
    (sym (get_or_from_slice_get c.args.cnf.now.clauses c.loop-index.index c.unwrap-clause.result.now c.unwrap-clause.result.now here))
    (sym c.satisfies_clause.ensures ∙ c.if-not-satisfies_clause.true))

pub loop-index-preserved : goal.loop-index-preserved
loop-index-preserved c =
    let here : slice_get c.args.cnf.now.clauses c.loop-index.index ≡ Some c.unwrap-clause.result.now = search rules in
    all_more (satisfies_clause (valuation c.args.bits.now)) c.args.cnf.now.clauses c.loop-index.index c.unwrap-clause.result.now
    (slice_get_within c.args.cnf.now.clauses c.loop-index.index c.unwrap-clause.result.now here)
    (sym (get_or_from_slice_get c.args.cnf.now.clauses c.loop-index.index c.unwrap-clause.result.now c.unwrap-clause.result.now here))
    (sym c.satisfies_clause.ensures ∙ c.if-not-satisfies_clause.false) c.loop-index.invariant
