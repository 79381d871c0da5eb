use Rattle.std.proofs.Common.{rules, ◌≡◌, ◌+◌, ◌++◌, ◌∙◌, Some, take, drop, ap, sym, subst}
use Rattle.std.specs.Prelude.{slice_get}
use Rattle.std.proofs.lemmas.List.{take-append-drop}
use Rattle.sat_search_learning.specs.Stages.{IsLoaded}
use Rattle.sat_search_learning.proofs.Loaded.{front_more}
use Rattle.sat_search_learning.proofs.loading.load.Goals as goal

pub returns-in-Some-clause-loaded : goal.returns-in-Some-clause-loaded
returns-in-Some-clause-loaded c =
    let here : slice_get c.args.cnf.now.clauses c.loop-index.index ≡ Some c.unwrap-clause.result.now = search rules in
    let front =
    front_more c.args.cnf.now.clauses c.loop-index.clauses.clauses c.load_clause.new.clauses.clauses c.loop-index.index c.unwrap-clause.result.now
    c.loop-index.invariant.added c.in_ok-number.ensures.added here
    in (
      subst (λ r. IsLoaded c.load_clause.new.clauses.clauses c.load_clause.new.trail c.load_clause.new.watches r) c.in-Some.is c.in_ok-number.ensures.loaded,
      (
        drop (c.loop-index.index + 1) c.args.cnf.now.clauses,
        sym (take-append-drop (c.loop-index.index + 1) c.args.cnf.now.clauses) ∙ ap (λ f. f ++ drop (c.loop-index.index + 1) c.args.cnf.now.clauses) (sym front),
      ),
    )

pub loop-index-preserved : goal.loop-index-preserved
loop-index-preserved c =
    let here : slice_get c.args.cnf.now.clauses c.loop-index.index ≡ Some c.unwrap-clause.result.now = search rules in
    let front =
    front_more c.args.cnf.now.clauses c.loop-index.clauses.clauses c.load_clause.new.clauses.clauses c.loop-index.index c.unwrap-clause.result.now
    c.loop-index.invariant.added c.in_ok-number.ensures.added here
    in
    let loaded = subst (λ r. IsLoaded c.load_clause.new.clauses.clauses c.load_clause.new.trail c.load_clause.new.watches r) c.in_default.is c.in_ok-number.ensures.loaded in
    record {
      running = loaded.0;
      first = loaded.1;
      start = record { variables = c.in_ok-number.ensures.start.variables ∙ c.loop-index.invariant.start.variables; level = c.in_ok-number.ensures.start.level };
      added = front;
    }
