use Rattle.std.proofs.Common.{◌≡◌, Some, ap, ◌∙◌, refl}
use Rattle.std.proofs.lemmas.Result.{IfOk-weaker}
use Rattle.term_core_spec.specs.Term as tree
use Rattle.term_bank.specs.Nodes.{tree_at}
use Rattle.term_substitution.proofs.Growing.{tree_is}
use Rattle.term_substitution.proofs.state.over_two.Goals as goal

pub returns-clause-tree : goal.returns-clause-tree
returns-clause-tree c = λ t0 t1 h0 h1.
    let e0 : tree_at c.args.bank.now c.in_ok-a.a ≡ t0 = tree_is c.args.bank.now c.args.a c.in_ok-a.a t0 c.in_ok-a.was h0 in
    let e1 : tree_at c.args.bank.now c.in_ok-b.b ≡ t1 = tree_is c.args.bank.now c.args.b c.in_ok-b.b t1 c.in_ok-b.was h1 in
    let same : tree.Binary c.args.operator (tree_at c.args.bank.now c.in_ok-a.a) (tree_at c.args.bank.now c.in_ok-b.b) ≡ tree.Binary c.args.operator t0 t1 = rw (e0, e1) refl in
    IfOk-weaker c.add.result _ _ (λ i at. at ∙ ap Some same) c.add.ensures.id
