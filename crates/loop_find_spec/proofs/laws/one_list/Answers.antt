use Rattle.std.proofs.Common.{◌∷◌, [], subst, sym}
use Rattle.std.specs.Prelude.{Contains}
use Rattle.visit_walk_spec.proofs.Members.{none_contained}
use Rattle.loop_find_spec.specs.Loops.{nodes_from}
use Rattle.loop_find_spec.proofs.Turning.{one_outcome, same_increasing}
use Rattle.loop_find_spec.proofs.laws.one_list.Goals as goal

pub returns : goal.returns
returns c = λ g xs ys a b.
    let same = one_outcome (nodes_from g) [] [] (g.entry ∷ []) a.left a.heads b.left b.heads a.walk b.walk (λ x of among. none_contained x of) in
    same_increasing xs ys a.ascending b.ascending
    (λ n of. (b.are n).1 (subst (λ h. Contains h n) same.1 ((a.are n).0 of)))
    (λ n of. (a.are n).1 (subst (λ h. Contains h n) (sym same.1) ((b.are n).0 of)))
