use Rattle.std.proofs.Common.{◌≡◌, ◌∙◌, ap}
use Rattle.std.specs.Prelude.{Box}
use Rattle.std.specs.Global.{Global}
use Rattle.term_core_spec.specs.Term as tree
use Rattle.term_core.specs.declared.term.Term.{Term as CodeTerm}
use Rattle.term_core.specs.Trees.{term_of}
use Rattle.term_core.proofs.Calls.{at_equal}
use Rattle.term_bank.specs.Nodes.{tree_at}
use Rattle.cert_check_frames.proofs.Made.{tree_held}
use Rattle.cert_check_frames.proofs.trees.+tree.Goals as goal

abbrev boxed : Box CodeTerm Global → tree.Term
boxed b = term_of b.value

pub returns-in-Leaf : goal.returns-in-Leaf
returns-in-Leaf t c = at_equal c.leaf.result boxed _ _ c.leaf.ensures (tree_held c.args.bank.now c.args.id _ c.in-Leaf.ensures.tree)

pub returns-in-Ok-attempt : goal.returns-in-Ok-attempt
returns-in-Ok-attempt t c =
    let built : tree.Unary c.in-Unary.operator (term_of c.in-Ok-attempt.field-0.value) ≡ tree_at c.args.bank.now c.args.id =
    ap (tree.Unary c.in-Unary.operator) c.in-Ok-attempt.ensures ∙ tree_held c.args.bank.now c.args.id _ c.in-Unary.ensures.tree in
    at_equal c.unary.result boxed _ _ c.unary.ensures built

pub returns-in-Ok-attempt-2 : goal.returns-in-Ok-attempt-2
returns-in-Ok-attempt-2 t c =
    let ab = c.in-Ok-attempt-2.ensures (tree_at c.args.bank.now c.in-Binary.a) (tree_at c.args.bank.now c.in-Binary.b) c.tree-in-Binary.ensures c.tree-in-Binary-2.ensures in
    let built : tree.Binary c.in-Binary.operator (term_of c.in-Ok-attempt-2.field-0.0.value) (term_of c.in-Ok-attempt-2.field-0.1.value) ≡ tree_at c.args.bank.now c.args.id =
    rw (ab.0, ab.1) (tree_held c.args.bank.now c.args.id _ c.in-Binary.ensures.tree) in
    at_equal c.binary.result boxed _ _ c.binary.ensures built

pub returns-in-Ok-attempt-c : goal.returns-in-Ok-attempt-c
returns-in-Ok-attempt-c t c =
    let ab = c.in-Ok-attempt-3.ensures (tree_at c.args.bank.now c.in-Ternary.a) (tree_at c.args.bank.now c.in-Ternary.b) c.tree-in-Ternary.ensures c.tree-in-Ternary-2.ensures in
    let built : tree.Ternary c.in-Ternary.operator (term_of c.in-Ok-attempt-3.field-0.0.value) (term_of c.in-Ok-attempt-3.field-0.1.value) (term_of c.in-Ok-attempt-c.field-0.value) ≡ tree_at c.args.bank.now c.args.id =
    rw (ab.0, ab.1, c.in-Ok-attempt-c.ensures) (tree_held c.args.bank.now c.args.id _ c.in-Ternary.ensures.tree) in
    at_equal c.ternary.result boxed _ _ c.ternary.ensures built

pub returns-in-Ok-attempt-5 : goal.returns-in-Ok-attempt-5
returns-in-Ok-attempt-5 t c =
    let ab = c.in-Ok-attempt-4.ensures (tree_at c.args.bank.now c.in-Quaternary.a) (tree_at c.args.bank.now c.in-Quaternary.b) c.tree-in-Quaternary.ensures c.tree-in-Quaternary-2.ensures in
    let cd = c.in-Ok-attempt-5.ensures (tree_at c.args.bank.now c.in-Quaternary.c) (tree_at c.args.bank.now c.in-Quaternary.d) c.tree-in-Quaternary-3.ensures c.tree-in-Quaternary-4.ensures in
    let built : tree.Quaternary c.in-Quaternary.operator (term_of c.in-Ok-attempt-4.field-0.0.value) (term_of c.in-Ok-attempt-4.field-0.1.value) (term_of c.in-Ok-attempt-5.field-0.0.value) (term_of c.in-Ok-attempt-5.field-0.1.value) ≡ tree_at c.args.bank.now c.args.id =
    rw (ab.0, ab.1, cd.0, cd.1) (tree_held c.args.bank.now c.args.id _ c.in-Quaternary.ensures.tree) in
    at_equal c.quaternary.result boxed _ _ c.quaternary.ensures built

pub returns-in-Ok-attempt-9 : goal.returns-in-Ok-attempt-9
returns-in-Ok-attempt-9 t c =
    let ab = c.in-Ok-attempt-6.ensures (tree_at c.args.bank.now c.in-Octonary.a) (tree_at c.args.bank.now c.in-Octonary.b) c.tree-in-Octonary.ensures c.tree-in-Octonary-2.ensures in
    let cd = c.in-Ok-attempt-7.ensures (tree_at c.args.bank.now c.in-Octonary.c) (tree_at c.args.bank.now c.in-Octonary.d) c.tree-in-Octonary-3.ensures c.tree-in-Octonary-4.ensures in
    let ef = c.in-Ok-attempt-8.ensures (tree_at c.args.bank.now c.in-Octonary.e) (tree_at c.args.bank.now c.in-Octonary.f) c.tree-in-Octonary-5.ensures c.tree-in-Octonary-6.ensures in
    let gh = c.in-Ok-attempt-9.ensures (tree_at c.args.bank.now c.in-Octonary.g) (tree_at c.args.bank.now c.in-Octonary.h) c.tree-in-Octonary-7.ensures c.tree-in-Octonary-8.ensures in
    let built : tree.Octonary (term_of c.in-Ok-attempt-6.field-0.0.value) (term_of c.in-Ok-attempt-6.field-0.1.value) (term_of c.in-Ok-attempt-7.field-0.0.value) (term_of c.in-Ok-attempt-7.field-0.1.value) (term_of c.in-Ok-attempt-8.field-0.0.value) (term_of c.in-Ok-attempt-8.field-0.1.value) (term_of c.in-Ok-attempt-9.field-0.0.value) (term_of c.in-Ok-attempt-9.field-0.1.value) ≡ tree_at c.args.bank.now c.args.id =
    rw (ab.0, ab.1, cd.0, cd.1, ef.0, ef.1, gh.0, gh.1) (tree_held c.args.bank.now c.args.id _ c.in-Octonary.ensures.tree) in
    at_equal c.octonary.result boxed _ _ c.octonary.ensures built
