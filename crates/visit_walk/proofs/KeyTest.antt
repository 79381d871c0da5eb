-- The test of equality of keys.
use Rattle.std.proofs.Common.{◌≡◌, true, ap, eqb-true}
use Rattle.std.specs.Prelude.{◌==◌}
use Rattle.std.proofs.lemmas.Bool.{and_parts}
use Rattle.visit_walk.specs.declared.table.Key.{Key}
use Rattle.visit_walk.specs.declared.table.Key.TheVariants.{Node, Return, Error}
use Rattle.visit_walk.specs.contracts.table.KeyPartialEq.TheImpl as key_test
use Rattle.visit_walk.specs.contracts.table.KeyEq.TheImpl.Laws as key_laws

pub itself : (k : Key) → key_test.ghosts.eq k k ≡ true
itself k = key_laws.lawful.laws.refl k

pub same : (a b : Key) → key_test.ghosts.eq a b ≡ true → a ≡ b
same (Node m c) (Node n d) e =
    let parts = and_parts (m == n) (c == d) e in
    let node : m ≡ n = eqb-true m n parts.0 in
    let counts : c ≡ d = eqb-true c d parts.1 in
    λ i. Node (node i) (counts i)
same (Node m c) (Return d) e = absurd (cc)
same (Node m c) (Error d) e = absurd (cc)
same (Return c) (Node n d) e = absurd (cc)
same (Return c) (Return d) e = ap Return (eqb-true c d e)
same (Return c) (Error d) e = absurd (cc)
same (Error c) (Node n d) e = absurd (cc)
same (Error c) (Return d) e = absurd (cc)
same (Error c) (Error d) e = ap Error (eqb-true c d e)
