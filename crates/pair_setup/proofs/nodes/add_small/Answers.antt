use Rattle.std.proofs.Common.{◌⊎◌, ◌∙◌, List, ℕ, Bool, true, false, inl, inr, sym, true≢false}
use Rattle.c_types.specs.Typed.{typed_of}
use Rattle.pair_setup_calls.specs.Names.{names_of}
use Rattle.graph_core.specs.Graphs.{graphs_of}
use Rattle.pair_setup.specs.Graphs.{AreCodeIf, AreSmallIf, firsts_of}
use Rattle.pair_setup.proofs.Added.{if-ok}
use Rattle.pair_setup.proofs.Large.{with-source}
use Rattle.pair_setup.proofs.nodes.add_small.Goals as goal

pub returns-then-attempt : goal.returns-then-attempt
returns-then-attempt c = inr (c.in-Ok-attempt.ensures.0 c.if-attempt.true)

pub returns-2 : goal.returns-2
returns-2 c =
    if-ok c.add_code.result (AreCodeIf c.args.image.now c.args.entries.now (graphs_of c.add_code.new.graphs.items) (firsts_of c.add_code.new.firsts.items))
    (AreSmallIf c.args.image.now (typed_of c.args.unit.now) (names_of c.args.unit.now) c.args.numbers.now c.args.entries.now (graphs_of c.add_code.new.graphs.items)
    (firsts_of c.add_code.new.firsts.items))
    (with-source c.args.image.now (typed_of c.args.unit.now) (names_of c.args.unit.now) c.args.numbers.now c.args.entries.now (graphs_of c.add_code.new.graphs.items)
    (firsts_of c.add_code.new.firsts.items) (λ any. true≢false (sym (c.in-Ok-attempt.ensures.1 any) ∙ c.if-attempt.false)))
    c.add_code.ensures
