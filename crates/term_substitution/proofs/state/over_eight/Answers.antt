use Rattle.std.proofs.Common.{◌≡◌, Some, ap, ◌∙◌, refl}
use Rattle.std.proofs.lemmas.Result.{IfOk-weaker}
use Rattle.term_core_spec.specs.Term as tree
use Rattle.term_bank.specs.Nodes.{tree_at}
use Rattle.term_substitution.proofs.Growing.{tree_is}
use Rattle.term_substitution.proofs.state.over_eight.Goals as goal

pub returns-clause-tree : goal.returns-clause-tree
returns-clause-tree c = λ t0 t1 t2 t3 t4 t5 t6 t7 h0 h1 h2 h3 h4 h5 h6 h7.
    let e0 : tree_at c.args.bank.now c.in_ok-a.a ≡ t0 = tree_is c.args.bank.now c.args.a c.in_ok-a.a t0 c.in_ok-a.was h0 in
    let e1 : tree_at c.args.bank.now c.in_ok-b.b ≡ t1 = tree_is c.args.bank.now c.args.b c.in_ok-b.b t1 c.in_ok-b.was h1 in
    let e2 : tree_at c.args.bank.now c.in_ok-c.c ≡ t2 = tree_is c.args.bank.now c.args.c c.in_ok-c.c t2 c.in_ok-c.was h2 in
    let e3 : tree_at c.args.bank.now c.in_ok-d.d ≡ t3 = tree_is c.args.bank.now c.args.d c.in_ok-d.d t3 c.in_ok-d.was h3 in
    let e4 : tree_at c.args.bank.now c.in_ok-e.e ≡ t4 = tree_is c.args.bank.now c.args.e c.in_ok-e.e t4 c.in_ok-e.was h4 in
    let e5 : tree_at c.args.bank.now c.in_ok-f.f ≡ t5 = tree_is c.args.bank.now c.args.f c.in_ok-f.f t5 c.in_ok-f.was h5 in
    let e6 : tree_at c.args.bank.now c.in_ok-g.g ≡ t6 = tree_is c.args.bank.now c.args.g c.in_ok-g.g t6 c.in_ok-g.was h6 in
    let e7 : tree_at c.args.bank.now c.in_ok-h.h ≡ t7 = tree_is c.args.bank.now c.args.h c.in_ok-h.h t7 c.in_ok-h.was h7 in
    let same : tree.Octonary (tree_at c.args.bank.now c.in_ok-a.a) (tree_at c.args.bank.now c.in_ok-b.b) (tree_at c.args.bank.now c.in_ok-c.c) (tree_at c.args.bank.now c.in_ok-d.d) (tree_at c.args.bank.now c.in_ok-e.e) (tree_at c.args.bank.now c.in_ok-f.f) (tree_at c.args.bank.now c.in_ok-g.g) (tree_at c.args.bank.now c.in_ok-h.h) ≡ tree.Octonary t0 t1 t2 t3 t4 t5 t6 t7 = rw (e0, e1, e2, e3, e4, e5, e6, e7) refl in
    IfOk-weaker c.add.result _ _ (λ i at. at ∙ ap Some same) c.add.ensures.id
