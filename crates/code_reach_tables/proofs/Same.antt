-- The test of equality of nodes.
use Rattle.std.proofs.Common.{◌≡◌, true, sym, ap, eqb-true}
use mathlib.Core.Bool.{true≢false}
use Rattle.std.specs.Prelude.{◌==◌}
use Rattle.std.proofs.lemmas.Bool.{and_parts}
use Rattle.code_reach_tables.specs.declared.nodes.Node.{Node}
use Rattle.code_reach_tables.specs.declared.nodes.Node.TheVariants.{Constant, Initial, Unknown, Sum, Difference, Shifted, Masked}
use Rattle.code_reach_tables.specs.contracts.nodes.NodePartialEq.TheImpl as node_test
use Rattle.code_reach_tables.specs.contracts.nodes.NodeEq.TheImpl.Laws as node_laws

pub itself : (n : Node) → node_test.ghosts.eq n n ≡ true
itself n = node_laws.lawful.laws.refl n

pub node-same : (a b : Node) → node_test.ghosts.eq a b ≡ true → a ≡ b
node-same (Constant x) (Constant y) e = ap Constant (eqb-true x y e)
node-same (Initial x) (Initial y) e = ap Initial (eqb-true x y e)
node-same (Unknown x) (Unknown y) e = ap Unknown (eqb-true x y e)
node-same (Sum a1 a2) (Sum b1 b2) e =
    let parts = and_parts (a1 == b1) (a2 == b2) e in
    let e1 : a1 ≡ b1 = eqb-true a1 b1 parts.0 in
    let e2 : a2 ≡ b2 = eqb-true a2 b2 parts.1 in
    λ i. Sum (e1 i) (e2 i)
node-same (Difference a1 a2) (Difference b1 b2) e =
    let parts = and_parts (a1 == b1) (a2 == b2) e in
    let e1 : a1 ≡ b1 = eqb-true a1 b1 parts.0 in
    let e2 : a2 ≡ b2 = eqb-true a2 b2 parts.1 in
    λ i. Difference (e1 i) (e2 i)
node-same (Shifted a k) (Shifted b l) e =
    let parts = and_parts (a == b) (k == l) e in
    let e1 : a ≡ b = eqb-true a b parts.0 in
    let e2 : k ≡ l = eqb-true k l parts.1 in
    λ i. Shifted (e1 i) (e2 i)
node-same (Masked a k) (Masked b l) e =
    let parts = and_parts (a == b) (k == l) e in
    let e1 : a ≡ b = eqb-true a b parts.0 in
    let e2 : k ≡ l = eqb-true k l parts.1 in
    λ i. Masked (e1 i) (e2 i)
node-same a b e = absurd (true≢false (sym e))
