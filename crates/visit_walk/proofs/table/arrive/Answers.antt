use Rattle.visit_walk.specs.Tables.{vectors_of, lists_of}
use Rattle.visit_walk.proofs.Arriving.{keyed}
use Rattle.visit_walk.proofs.table.arrive.Goals as goal

pub returns : goal.returns
returns c =
    let k = keyed c.args.marks.now (vectors_of c.args.table.now) (lists_of c.key_after.new.vectors.keys) c.args.table.now.keys.keys c.add.new.keys.keys c.args.counts c.args.to
    c.in_ok-key.key c.in_ok-index.index c.requires.table c.in_ok-key.ensures c.in_ok-index.ensures in
    record { table = k.table; extends = c.in_ok-key.ensures.extends; grows = k.grows; holds = k.holds }
