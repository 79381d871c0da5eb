use Rattle.std.proofs.Common.{ap, ◌∙◌}
use Rattle.visit_walk.specs.declared.table.Table.{Table}
use Rattle.visit_walk.specs.declared.table.Key.TheVariants.{Node}
use Rattle.visit_walk.specs.contracts.table.KeyPartialEq.TheImpl as key_test
use Rattle.indexmap.specs.IndexSet.{insert_key}
use Rattle.visit_walk.proofs.Exploring.{begun}
use Rattle.visit_walk.proofs.table.begin.Goals as goal

pub returns : goal.returns
returns c =
    let t : Table = record { vectors = c.intern.new.vectors; keys = c.insert.new.self } in
    begun c.args.marks.now c.args.start t c.in_ok-counts.counts c.in_ok-zeros.zeros.items
    (c.in_ok-insert.ensures.keys ∙ ap (λ ks. insert_key key_test.ghosts.eq ks (Node c.args.start c.in_ok-counts.counts)) c.requires.keys) c.in_ok-counts.ensures.index c.in_ok-counts.ensures.distinct
    c.in_ok-zeros.ensures
