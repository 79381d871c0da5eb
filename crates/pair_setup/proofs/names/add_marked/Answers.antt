use Rattle.std.proofs.Common.{◌≡◌, ◌∙◌, sym}
use Rattle.pair_setup_calls.specs.Graph.{Grows}
use Rattle.pair_setup.specs.Names.{IsMarked}
use Rattle.pair_setup.proofs.Added.{on-ok}
use Rattle.pair_setup.proofs.Lacking.{marked-add, unmarked-kept}
use Rattle.pair_setup.proofs.names.add_marked.Goals as goal

pub returns-then-is_marked : goal.returns-then-is_marked
returns-then-is_marked c =
    on-ok c.add.result (Grows (λ t. t ≡ c.args.number) c.args.found.now.items c.add.new.found.items)
    (Grows (λ t. (t ≡ c.args.number) × IsMarked c.args.marks.now t) c.args.found.now.items c.add.new.found.items)
    (λ g. marked-add c.args.marks.now c.args.number (sym c.is_marked.ensures ∙ c.if-is_marked.true) c.args.found.now.items c.add.new.found.items g)
    c.add.ensures

pub returns-else-is_marked : goal.returns-else-is_marked
returns-else-is_marked c = unmarked-kept c.args.marks.now c.args.number (sym c.is_marked.ensures ∙ c.if-is_marked.false) c.args.found.now.items
