-- The test of equality of nodes.
use Rattle.std.proofs.Common.{◌≡◌, true, sym, ap, eqb-true}
use mathlib.Core.Bool.{true≢false}
use Rattle.std.specs.Prelude.{◌==◌}
use Rattle.std.proofs.lemmas.Bool.{and_parts}
use Rattle.term_core_spec.proofs.Same.{atom-same, unary-same, binary-same, ternary-same, quaternary-same}
use Rattle.term_bank.specs.declared.node.TermNode.{TermNode}
use Rattle.term_bank.specs.declared.node.TermNode.TheVariants.{Leaf, Unary, Binary, Ternary, Quaternary, Octonary}
use Rattle.term_bank.specs.contracts.node.TermNodePartialEq.TheImpl as node_test
use Rattle.term_bank.specs.contracts.node.TermNodeEq.TheImpl.Laws as node_laws

pub itself : (n : TermNode) → node_test.ghosts.eq n n ≡ true
itself n = node_laws.lawful.laws.refl n

pub node-same : (a b : TermNode) → node_test.ghosts.eq a b ≡ true → a ≡ b
node-same (Leaf x) (Leaf y) e = ap Leaf (atom-same x y e)
node-same (Unary o a) (Unary p b) e =
    let parts = and_parts _ (a == b) e in
    let operator : o ≡ p = unary-same o p parts.0 in
    let e1 : a ≡ b = eqb-true a b parts.1 in
    λ i. Unary (operator i) (e1 i)
node-same (Binary o a1 a2) (Binary p b1 b2) e =
    let parts = and_parts _ _ e in
    let operator : o ≡ p = binary-same o p parts.0 in
    let rest = and_parts (a1 == b1) (a2 == b2) parts.1 in
    let e1 : a1 ≡ b1 = eqb-true a1 b1 rest.0 in
    let e2 : a2 ≡ b2 = eqb-true a2 b2 rest.1 in
    λ i. Binary (operator i) (e1 i) (e2 i)
node-same (Ternary o a1 a2 a3) (Ternary p b1 b2 b3) e =
    let parts = and_parts _ _ e in
    let operator : o ≡ p = ternary-same o p parts.0 in
    let r1 = and_parts (a1 == b1) _ parts.1 in
    let e1 : a1 ≡ b1 = eqb-true a1 b1 r1.0 in
    let r2 = and_parts (a2 == b2) _ r1.1 in
    let e2 : a2 ≡ b2 = eqb-true a2 b2 r2.0 in
    let e3 : a3 ≡ b3 = eqb-true a3 b3 r2.1 in
    λ i. Ternary (operator i) (e1 i) (e2 i) (e3 i)
node-same (Quaternary o a1 a2 a3 a4) (Quaternary p b1 b2 b3 b4) e =
    let parts = and_parts _ _ e in
    let operator : o ≡ p = quaternary-same o p parts.0 in
    let r1 = and_parts (a1 == b1) _ parts.1 in
    let e1 : a1 ≡ b1 = eqb-true a1 b1 r1.0 in
    let r2 = and_parts (a2 == b2) _ r1.1 in
    let e2 : a2 ≡ b2 = eqb-true a2 b2 r2.0 in
    let r3 = and_parts (a3 == b3) _ r2.1 in
    let e3 : a3 ≡ b3 = eqb-true a3 b3 r3.0 in
    let e4 : a4 ≡ b4 = eqb-true a4 b4 r3.1 in
    λ i. Quaternary (operator i) (e1 i) (e2 i) (e3 i) (e4 i)
node-same (Octonary a1 a2 a3 a4 a5 a6 a7 a8) (Octonary b1 b2 b3 b4 b5 b6 b7 b8) e =
    let r1 = and_parts (a1 == b1) _ e in
    let e1 : a1 ≡ b1 = eqb-true a1 b1 r1.0 in
    let r2 = and_parts (a2 == b2) _ r1.1 in
    let e2 : a2 ≡ b2 = eqb-true a2 b2 r2.0 in
    let r3 = and_parts (a3 == b3) _ r2.1 in
    let e3 : a3 ≡ b3 = eqb-true a3 b3 r3.0 in
    let r4 = and_parts (a4 == b4) _ r3.1 in
    let e4 : a4 ≡ b4 = eqb-true a4 b4 r4.0 in
    let r5 = and_parts (a5 == b5) _ r4.1 in
    let e5 : a5 ≡ b5 = eqb-true a5 b5 r5.0 in
    let r6 = and_parts (a6 == b6) _ r5.1 in
    let e6 : a6 ≡ b6 = eqb-true a6 b6 r6.0 in
    let r7 = and_parts (a7 == b7) _ r6.1 in
    let e7 : a7 ≡ b7 = eqb-true a7 b7 r7.0 in
    let e8 : a8 ≡ b8 = eqb-true a8 b8 r7.1 in
    λ i. Octonary (e1 i) (e2 i) (e3 i) (e4 i) (e5 i) (e6 i) (e7 i) (e8 i)
node-same a b e = absurd (true≢false (sym e))
