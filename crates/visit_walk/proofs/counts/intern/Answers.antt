use Rattle.std.proofs.Common.{ℕ}
use Rattle.std.specs.Prelude.{Vec}
use Rattle.std.specs.Global.{Global}
use Rattle.std.specs.Str.{bytes_eq}
use Rattle.visit_walk.specs.Tables.{lists_of}
use Rattle.visit_walk.proofs.Interning.{IsInterned, interned, interned-extends, same_items, tell_items}
use Rattle.visit_walk.proofs.counts.intern.Goals as goal

is_interned : (c : goal.In_ok-index) → IsInterned (lists_of c.args.vectors.now.keys) (lists_of c.insert_full.new.self.keys) c.args.counts.items c.in_ok-index.index
is_interned c =
    let stored = c.in_ok-index.ensures.stored in
    interned (λ (x y : Vec ℕ Global). bytes_eq x.items y.items) (λ (v : Vec ℕ Global). v.items) same_items tell_items c.args.vectors.now.keys c.insert_full.new.self.keys
    c.args.counts stored.0 c.in_ok-index.index c.in_ok-index.ensures.keys stored.1 stored.2 c.insert_full.ensures.unique

pub returns-clause-index : goal.returns-clause-index
returns-clause-index c = (is_interned c).holds

pub returns-clause-extends : goal.returns-clause-extends
returns-clause-extends c =
    interned-extends (lists_of c.args.vectors.now.keys) (lists_of c.insert_full.new.self.keys) c.args.counts.items c.in_ok-index.index (is_interned c)

pub returns-clause-distinct : goal.returns-clause-distinct
returns-clause-distinct c = (is_interned c).distinct
