use Rattle.std.proofs.Common.{◌∙◌, sym, ap}
use Rattle.std.specs.Option.{option_map}
use Rattle.code_reach_spec.specs.RunUp.{table_from}
use Rattle.code_reach_tables.specs.Nodes.{trees_of}
use Rattle.code_reach_tables.specs.Tables.{jump_seen}
use Rattle.code_reach_tables.proofs.Searched.{no-table-jump, no-bound-jump, bound-jump}
use Rattle.code_reach_tables.proofs.tables.jump.Goals as goal

pub returns-in_err-first : goal.returns-in_err-first
returns-in_err-first c = λ f is.
    ap (λ o. option_map (jump_seen c.args.image.now) o) c.from_residual.ensures
    ∙ sym (no-table-jump c.args.image.now c.args.before (trees_of c.args.straight.now.nodes.keys) f.bounds (table_from f.source) (c.in_err-first.ensures f is))

pub returns-in_err-bound : goal.returns-in_err-bound
returns-in_err-bound c = λ f is.
    ap (λ o. option_map (jump_seen c.args.image.now) o) c.from_residual-in_err-bound.ensures
    ∙ sym (no-bound-jump c.args.image.now c.args.before (trees_of c.args.straight.now.nodes.keys) f.bounds c.in_ok-first.first c.in_ok-first.index (table_from f.source)
    (c.in_ok-first.ensures f is) (λ t holds. c.in_err-bound.ensures f t is holds))

pub returns : goal.returns
returns c = λ f is.
    bound-jump c.args.image.now c.args.before (trees_of c.args.straight.now.nodes.keys) f.bounds c.in_ok-first.first c.in_ok-first.index c.in_ok-bound.bound
    (option_map (jump_seen c.args.image.now) c.bounded.result) (table_from f.source) (c.in_ok-first.ensures f is) (λ t holds. c.in_ok-bound.ensures f t is holds) c.bounded.ensures
