-- What a function does doesn't depend on who waits for it.
use Rattle.std.proofs.Common.{◌≡◌, ◌∙◌, ℕ, ◌<◌, zero, suc, true, false, List, [], ◌∷◌, ◌++◌, Option, Some, None, refl, ap, arith}
use Rattle.std.specs.Prelude.{slice_get}
use Rattle.term_core_spec.specs.Value.{Assignment}
use Rattle.graph_core_spec.specs.TransitionSystem.{after}
use Rattle.graph_core_spec.specs.declared.Next.{Next}
use Rattle.graph_core_spec.specs.declared.Next.TheVariants as next
use Rattle.graph_core_spec.specs.Graph.{Node, Basic, Cond, Call, Graph, Graphs, node_at}
use Rattle.graph_core_spec.specs.Run.{Waiting, State, Running, Returned, Failed, leave, go, enter, act, step, has_returned, system_of, with_waiting}

module _ (graphs : Graphs) (rest : List Waiting) where
  left_with : (values : Assignment) (below : List Waiting) → leave values (below ++ rest) ≡ with_waiting rest (leave values below)
  left_with values [] = refl
  left_with values (f ∷ below) = refl

  gone_with : (g : ℕ) (to : Next) (values : Assignment) (below : List Waiting) → go g to values (below ++ rest) ≡ with_waiting rest (go g to values below)
  gone_with g (next.At n) values below = refl
  gone_with g next.Ret values below = left_with values below
  gone_with g next.Err values below = refl

  begun_with : (callee : ℕ) (graph : Option Graph) (values : Assignment) (below : List Waiting) → enter callee graph values (below ++ rest) ≡ with_waiting rest (enter callee graph values below)
  begun_with callee None values below = refl
  begun_with callee (Some graph) values below = refl

  acted_with : (g n : ℕ) (values : Assignment) (below : List Waiting) (node : Option Node) → act graphs g n values (below ++ rest) node ≡ with_waiting rest (act graphs g n values below node)
  acted_with g n values below None = refl
  acted_with g n values below (Some (Basic bindings to)) = gone_with g to _ below
  acted_with g n values below (Some (Cond test on_true on_false)) = gone_with g _ values below
  acted_with g n values below (Some (Call callee inputs outputs landing)) = begun_with callee (slice_get graphs callee) _ (_ ∷ below)

  step-with_waiting : (s : State) → has_returned s ≡ false → step graphs (with_waiting rest s) ≡ with_waiting rest (step graphs s)
  unfolding step
  step-with_waiting (Running g n values below) runs = acted_with g n values below (node_at graphs g n)
  step-with_waiting (Returned values) runs = let bad : true ≡ false = runs in cc
  step-with_waiting Failed runs = refl

  -- until it returns
  pub after-with_waiting : (outermost k : ℕ) (s : State) → ((j : ℕ) → j < k → has_returned (after (system_of graphs outermost) j s) ≡ false)
      → after (system_of graphs outermost) k (with_waiting rest s) ≡ with_waiting rest (after (system_of graphs outermost) k s)
  unfolding after
  after-with_waiting outermost zero s runs = refl
  after-with_waiting outermost (suc k) s runs =
      ap (λ (x : State). after (system_of graphs outermost) k x) (step-with_waiting s (runs 0 (omega arith)))
      ∙ after-with_waiting outermost k (step graphs s) (λ j less. runs (suc j) (omega arith))
