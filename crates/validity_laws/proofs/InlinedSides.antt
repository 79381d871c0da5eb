-- What the graphs of a proof have of the function's: their nodes are of the same shapes, and the functions that they call run
-- as they do in the set.
use Rattle.std.proofs.Common.{◌≡◌, Bool, true, refl, inl, [], All, Some, slice_get}
use Rattle.std.proofs.lemmas.List.Elements.{All-nil, All-cons, All-weaker}
use Rattle.term_core_spec.specs.declared.Family.{Family}
use Rattle.term_core_spec.specs.declared.Variable.{Variable}
use Rattle.graph_core_spec.specs.declared.Next.TheVariants as next
use Rattle.graph_core_spec.specs.Graph.{Node, Basic, Graph, IsValid}
use Rattle.proof_tree_spec.specs.Frames.{Side}
use Rattle.sim_rules_spec.proofs.Start.{all_at}
use Rattle.sim_inline_laws.proofs.Beside.{in_set, at_own, all_beside}
use Rattle.sim_inline_laws.proofs.Chained.{callees_run_on}
use Rattle.sim_inline_laws.proofs.Kept.{IsKept, all_kept}
use Rattle.sim_inline_laws.proofs.Unfolded.{unfolded_is}
use Rattle.agreement_laws.specs.Callers.{HasSet}
use Rattle.validity_laws.specs.Inlined.{IsInlinedSide, as_it_is, inlined}

-- the outermost graph of the new side, whose nodes have a property
pub record IsSideOf (side new : Side) (P : Node → Type 0) : Type 0 where
  pub graph : Graph
  pub there : slice_get new.graphs new.outermost ≡ Some graph
  pub nodes : All P graph.nodes
  pub valid : IsValid graph
  pub set : HasSet side.graphs new

-- ---- properties that inlining keeps

pub kept_both : (Own : Variable → Type 0) (P Q : Node → Type 0) → IsKept Own P → IsKept Own Q → IsKept Own (λ (node : Node). P node × Q node)
kept_both Own P Q p q = record {
  starts = λ instance own callee inputs outputs landing to are kinds is.
      (p.starts instance own callee inputs outputs landing to are kinds is.0, q.starts instance own callee inputs outputs landing to are kinds is.1);
  body = λ instance first last node is. (p.body instance first last node is.0, q.body instance first last node is.1);
  ends = λ instance callee inputs outputs landing to is. (p.ends instance callee inputs outputs landing to is.0, q.ends instance callee inputs outputs landing to is.1);
}

-- own variables of a narrower kind
pub kept_of : (Own Narrow : Variable → Type 0) (P : Node → Type 0) → ((v : Variable) → Narrow v → Own v) → IsKept Own P → IsKept Narrow P
kept_of Own Narrow P wider p = record {
  starts = λ instance own callee inputs outputs landing to are kinds is.
      p.starts instance own callee inputs outputs landing to are (All-weaker Narrow Own wider own kinds) is;
  body = p.body;
  ends = p.ends;
}

-- ---- sides

module _ (own_family : Family → Bool) (side : Side) (graph : Graph) (there : slice_get side.graphs side.outermost ≡ Some graph) (valid : All IsValid side.graphs) where
  abbrev Own : Variable → Type 0
  Own v = own_family v.family ≡ true

  module _ (P : Node → Type 0) (kept : IsKept Own P) (each : All (λ (g : Graph). All P g.nodes) side.graphs) where
    pub side_is : (new : Side) → IsInlinedSide own_family side new → IsSideOf side new P
    side_is _ as_it_is = record {
      graph = graph;
      there = there;
      nodes = all_at (λ (g : Graph). All P g.nodes) side.graphs side.outermost graph each there;
      valid = all_at IsValid side.graphs side.outermost graph valid there;
      set = record { there = λ h less. refl; run = λ h less m values k. inl refl };
    }
    side_is _ (inlined functions function free own set kinds named unfolds) = record {
      graph = own;
      there = at_own side.graphs own;
      nodes = all_kept Own P kept side.graphs functions set side.outermost function named kinds
          (λ k f is. all_at (λ (g : Graph). All P g.nodes) side.graphs k f.graph each (set.there k f is)) free own unfolds;
      valid = (unfolded_is side.graphs functions set side.outermost function named free own unfolds).valid;
      set = record {
        there = λ h less. in_set side.graphs own h less;
        run = λ h less m values. callees_run_on side.graphs own functions set h less m values;
      };
    }

    -- a property of the nodes of all graphs of the side
    pub all_graphs : (R : Node → Type 0) → ((node : Node) → P node → R node) → R (Basic [] next.Err) → (new : Side) → IsInlinedSide own_family side new
        → All (λ (g : Graph). All R g.nodes) new.graphs
    all_graphs R has fails _ as_it_is = All-weaker (λ (g : Graph). All P g.nodes) (λ (g : Graph). All R g.nodes) (λ g all. All-weaker P R has g.nodes all) side.graphs each
    all_graphs R has fails _ (inlined functions function free own set kinds named unfolds) =
        all_beside (λ (g : Graph). All R g.nodes) side.graphs own
        (All-weaker (λ (g : Graph). All P g.nodes) (λ (g : Graph). All R g.nodes) (λ g all. All-weaker P R has g.nodes all) side.graphs each)
        (All-cons R (Basic [] next.Err) [] fails (All-nil R))
        (All-weaker P R has own.nodes
        (all_kept Own P kept side.graphs functions set side.outermost function named kinds
        (λ k f is. all_at (λ (g : Graph). All P g.nodes) side.graphs k f.graph each (set.there k f is)) free own unfolds))
