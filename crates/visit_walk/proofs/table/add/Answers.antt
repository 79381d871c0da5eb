use Rattle.visit_walk.specs.contracts.table.KeyPartialEq.TheImpl as key_test
use Rattle.visit_walk.proofs.Interning.{IsInterned, interned_keys}
use Rattle.visit_walk.proofs.KeyTest.{itself, same}
use Rattle.visit_walk.proofs.table.add.Goals as goal

is_interned : (c : goal.In_ok-index) → IsInterned c.args.keys.now.keys c.insert_full.new.self.keys c.args.key c.in_ok-index.index
is_interned c =
    let stored = c.in_ok-index.ensures.stored in
    interned_keys key_test.ghosts.eq same itself c.args.keys.now.keys c.insert_full.new.self.keys c.args.key stored.0 c.in_ok-index.index c.in_ok-index.ensures.keys stored.1
    stored.2 c.insert_full.ensures.unique

pub returns : goal.returns
returns c = let i = is_interned c in record { grown = i.grown; holds = i.holds; distinct = i.distinct }
