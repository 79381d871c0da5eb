-- What was searched leads to the point, and paths of a run's graph.
use Rattle.std.proofs.Common.{◌≡◌, ◌⊎◌, ◌<◌, ℕ, List, [], length, Option, Some, None, refl, sym, ◌∙◌, subst, inl, inr, arith}
use Rattle.std.specs.Prelude.{Contains, replicate, slice_get, option_and_then, unwrap_or}
use Rattle.std.proofs.lemmas.List.{length-replicate}
use Rattle.graph_core_spec.specs.Graph.{Graph, Node, empty}
use Rattle.graph_core_spec.specs.Run.{IsEdge, IsPath, first, on}
use Rattle.proof_tree.specs.Ahead.{Grows}
use Rattle.proof_tree_spec.specs.Frames.{Side}
use Rattle.sim_rules_spec.specs.Sides.{graph_at}
use Rattle.sim_rules.specs.Tables.{Gains, IsBefore, among, back, IsSearched, IsStep, Leads, last, more, LeadsTo, list_at}
use Rattle.sim_rules.proofs.Gaining.{none_before, step_within}

abbrev pub empty_lists : ℕ → List (List ℕ)
empty_lists n = replicate n []

module _ (nodes : List Node) (point : ℕ) (lists : List (List ℕ)) (begun found : List ℕ) (table : Gains (IsStep nodes) (empty_lists (length nodes)) lists)
    (begins : Grows (λ k. IsStep nodes k point) [] begun) (searched : IsSearched lists begun found) where
  leads : (n : ℕ) → IsBefore lists begun n → Leads nodes point n
  leads n (among _ h) = last n (begins.only n (subst (λ (l : List ℕ). Contains l n) begins.grown h))
  leads n (back m _ h rest) = more n m (step m n (table.only m n h)) (leads m rest)
    where
      step : (m n : ℕ) → Contains (list_at (empty_lists (length nodes)) m) n ⊎ IsStep nodes n m → IsStep nodes n m
      step m n (inl none) = absurd (none_before (length nodes) m n none)
      step m n (inr is) = is

  within : (n : ℕ) → Leads nodes point n → n < length nodes
  within n (last _ is) = step_within nodes n point is
  within n (more _ m is rest) = step_within nodes n m is

  complete : (n : ℕ) → Leads nodes point n → Contains found n
  complete n (last _ is) = searched.kept n (begins.all n is)
  complete n (more _ m is rest) =
      let inside = within m rest in
      let long : length (empty_lists (length nodes)) ≡ length nodes = length-replicate (length nodes) [] in
      searched.closed m n (complete m rest) (table.all m n (omega (arith, inside, long)) is)

  pub leads_to : LeadsTo nodes point found
  leads_to = λ n. ((λ h. leads n (searched.sound n h)), complete n)

-- ---- paths

node_is : (m : ℕ) (o : Option Graph) → option_and_then (λ (graph : Graph). slice_get graph.nodes m) o ≡ slice_get (unwrap_or o empty).nodes m
node_is m (Some g) = refl
node_is m None = refl

module _ (side : Side) (point : ℕ) where
  abbrev nodes_at : List Node
  nodes_at = (graph_at side).nodes

  step_of : (m n : ℕ) → IsEdge side.graphs side.outermost m n → IsStep nodes_at m n
  step_of m n e = record { node = e.node; here = sym (node_is m (slice_get side.graphs side.outermost)) ∙ e.here; goes = e.goes }

  edge_of : (m n : ℕ) → IsStep nodes_at m n → IsEdge side.graphs side.outermost m n
  edge_of m n s = record { node = s.node; here = node_is m (slice_get side.graphs side.outermost) ∙ s.here; goes = s.goes }

  onward : (m n : ℕ) → IsStep nodes_at m n → (n ≡ point) ⊎ Leads nodes_at point n → Leads nodes_at point m
  onward m n s (inl e) = last m (subst (IsStep nodes_at m) e s)
  onward m n s (inr rest) = more m n s rest

  leads_by : (m n : ℕ) → IsPath side.graphs side.outermost m n → (n ≡ point) ⊎ Leads nodes_at point n → Leads nodes_at point m
  leads_by m n (first _ e) rest = onward m n (step_of m n e) rest
  leads_by m n (on o _ path e) rest = leads_by m o path (inr (onward o n (step_of o n e) rest))

  front : (m n o : ℕ) → IsEdge side.graphs side.outermost m n → IsPath side.graphs side.outermost n o → IsPath side.graphs side.outermost m o
  front m n o e (first _ f) = on n o (first n e) f
  front m n o e (on p _ path f) = on p o (front m n p e path) f

  pub path_leads : (m : ℕ) → IsPath side.graphs side.outermost m point → Leads nodes_at point m
  path_leads m path = leads_by m point path (inl refl)

  pub leads_path : (m : ℕ) → Leads nodes_at point m → IsPath side.graphs side.outermost m point
  leads_path m (last _ s) = first point (edge_of m point s)
  leads_path m (more _ n s rest) = front m n point (edge_of m n s) (leads_path n rest)
