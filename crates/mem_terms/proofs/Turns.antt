-- What all turns of the walk keep.
use Rattle.std.proofs.Common.{◌≡◌, ℕ, List, [], ◌∷◌, ◌++◌, Option, Some, None, refl, sym, subst}
use Rattle.std.proofs.Math.ListN.{set}
use Rattle.std.specs.Prelude.{slice_get}
use Rattle.term_core_spec.specs.Term.{Term}
use Rattle.term_bank.specs.Nodes.{Extends}
use Rattle.mem_terms.specs.declared.ids.LoadIds.{LoadIds}
use Rattle.mem_terms.specs.declared.walk.Task.{Task}
use Rattle.mem_terms.specs.declared.walk.Task.TheVariants.{Finish}
use Rattle.mem_terms.specs.declared.walk.LoadNode.{LoadNode}
use Rattle.term_bank.specs.declared.node.TermNode.{TermNode}
use Rattle.mem_terms.specs.Walk.{load_in, flat_id, IsEntered, IsReplaced, IsWalk, IsSomeWalk}
use Rattle.mem_terms.proofs.Steps.{finish_node, entered}
use Rattle.mem_terms.proofs.Trees.{extends_then}

-- each walk that begins so goes on so
pub record IsTurned (old : List Term) (done : List (Option ℕ)) (ids : List LoadIds) (tasks : List Task)
    (now : List Term) (done_now : List (Option ℕ)) (ids_now : List LoadIds) (tasks_now : List Task) : Type 0 where
  pub walked : (base : List Term) (goal : ℕ) → IsWalk base old goal done ids tasks → IsWalk base now goal done_now ids_now tasks_now
  pub extends : Extends old now
  pub some : IsSomeWalk now done_now ids_now tasks_now

module _ (old : List Term) (done : List (Option ℕ)) (ids : List LoadIds) (tasks : List Task)
    (now : List Term) (done_now : List (Option ℕ)) (ids_now : List LoadIds) (tasks_now left : List Task) (task : Task)
    (t : IsTurned old done ids tasks now done_now ids_now tasks_now) (popped : tasks_now ≡ left ++ task ∷ []) where
  pub popped_some : IsSomeWalk now done_now ids_now (left ++ task ∷ [])
  popped_some = subst (IsSomeWalk now done_now ids_now) popped t.some

  pub turned : (next : List Term) (done_next : List (Option ℕ)) (ids_next : List LoadIds) (tasks_next : List Task)
      → ((base : List Term) (goal : ℕ) → IsWalk base now goal done_now ids_now (left ++ task ∷ []) → IsWalk base next goal done_next ids_next tasks_next)
      → Extends now next → IsTurned old done ids tasks next done_next ids_next tasks_next
  turned next done_next ids_next tasks_next f e = record {
    walked = λ base goal w. f base goal (subst (IsWalk base now goal done_now ids_now) popped (t.walked base goal w));
    extends = extends_then old now next t.extends e;
    some = (popped_some.0, popped_some.1, f popped_some.0 popped_some.1 popped_some.2);
  }

-- ---- terms that are finished

module _ (base now next : List Term) (goal : ℕ) (done done_then : List (Option ℕ)) (ids ids_then : List LoadIds) (tasks tasks_then : List Task) (i : ℕ) (node : TermNode)
    (w : IsWalk base now goal done ids (tasks ++ Finish i node ∷ [])) (e : Extends now next) (tasks_are : tasks_then ≡ tasks) where
  as_then : (done_next : List (Option ℕ)) (ids_next : List LoadIds) → done_then ≡ done_next → ids_then ≡ ids_next
      → IsWalk base next goal done_next ids_next tasks → IsWalk base next goal done_then ids_then tasks_then
  as_then done_next ids_next p q walk =
      subst (λ ts. IsWalk base next goal done_then ids_then ts) (sym tasks_are)
      (subst (λ ps. IsWalk base next goal done_then ps tasks) (sym q) (subst (λ ds. IsWalk base next goal ds ids_next tasks) (sym p) walk))

  pub finish_entered : (n : LoadNode) → load_in now node ≡ Some n → slice_get done i ≡ Some None → IsEntered next done ids i n done_then ids_then
      → IsWalk base next goal done_then ids_then tasks_then
  finish_entered n some absent h =
      let p : LoadIds = record { memory = n.memory; address = flat_id done n.address; byte = h.new_id } in
      as_then (set done i (Some h.new_id)) (ids ++ p ∷ []) h.done_is h.ids_are (entered base now goal done ids tasks i node w n some absent next h.new_id p e h.tree_is refl)

  pub finish_replaced : load_in now node ≡ None → IsReplaced now next done i node done_then → ids_then ≡ ids → IsWalk base next goal done_then ids_then tasks_then
  finish_replaced none h ids_are =
      as_then (set done i (Some h.new_id)) ids h.done_is ids_are (finish_node base now goal done ids tasks i node w next h.new_id none e h.tree_is)
