-- The nodes of points, as they are sought.
use Rattle.std.proofs.Common.{◌≡◌, ◌∙◌, ℕ, ◌+◌, ◌<◌, ◌≤◌, Bool, true, false, cond, List, [], ◌∷◌, length, map, drop, get_or, Option, Some, None, refl, sym, ap, subst, arith}
use Rattle.std.specs.Prelude.{◌==◌, nat_eq, slice_get, option_and_then}
use Rattle.std.specs.Option.{option_map}
use Rattle.std.specs.Map.{lookup}
use Rattle.std.proofs.lemmas.Bool.{eqb-false, eqb-true, false≢true}
use Rattle.std.proofs.lemmas.List.{drop_all, drop_more, length-map}
use Rattle.std.proofs.lemmas.Option.{same_Some, none-some, slice_get-map}
use Rattle.graph_core_spec.specs.Graph as spec
use Rattle.graph_core_spec.specs.Graph.{Binding, Node, Call, node_at}
use Rattle.graph_core.specs.declared.graph.Graph.{Graph}
use Rattle.graph_core.specs.declared.shared.SharedNode.{SharedNode}
use Rattle.graph_core.specs.declared.shared.SharedNode.TheVariants as shared
use Rattle.graph_core.specs.Shared.{shared_node_of, shared_bindings_of}
use Rattle.graph_core.specs.Graphs.{graph_of, graphs_of}
use Rattle.proof_tree_spec.specs.declared.Place.{Place}
use Rattle.proof_tree_spec.specs.Frames.{Side}
use Rattle.proof_tree_spec.specs.Proofs.{BinaryPoint, SourcePoint}
use Rattle.proof_tree.specs.Frames.{side_of}
use Rattle.cert_check_lines_spec.specs.Sites.{IsNoCall}
use Rattle.cert_check_lines_spec.specs.Members.{same_place}
use Rattle.cert_check_frames.specs.declared.listed.Listed.{Listed}
use Rattle.cert_check_frames.specs.declared.listed.PlaceNode.{PlaceNode}
use Rattle.cert_check_frames.specs.Listed.{firsts_at, place_of, places_at, places_in}
use Rattle.cert_check_jobs.specs.Points.{Finds, IsBinaryAt, IsCallThere, IsSourceAt, IsUnlessCall, is_call}

-- ---- calls

module _ (graphs : List Graph) (outermost node : ℕ) where
  abbrev side : Side
  side = record { graphs = graphs_of graphs; outermost = outermost }

  graph_there : (o : Option Graph) → slice_get graphs outermost ≡ o
      → node_at (graphs_of graphs) outermost node ≡ option_and_then (λ (g : spec.Graph). slice_get g.nodes node) (option_map graph_of o)
  graph_there o is = ap (option_and_then (λ (g : spec.Graph). slice_get g.nodes node)) (slice_get-map graph_of graphs outermost ∙ ap (option_map graph_of) is)

  -- there is no such graph
  pub no_graph : slice_get graphs outermost ≡ None → IsCallThere side node → ⊥
  no_graph none call = none-some (Call call.callee call.inputs call.outputs call.landing) (sym (graph_there None none) ∙ call.is)

  module _ (g : Graph) (there : slice_get graphs outermost ≡ Some g) where
    node_there : (o : Option SharedNode) → slice_get g.nodes node ≡ o → node_at (graphs_of graphs) outermost node ≡ option_map (shared_node_of g.trees) o
    node_there o is = graph_there (Some g) there ∙ slice_get-map (shared_node_of g.trees) g.nodes node ∙ ap (option_map (shared_node_of g.trees)) is

    -- there is no such node
    pub no_node : slice_get g.nodes node ≡ None → IsCallThere side node → ⊥
    no_node none call = none-some (Call call.callee call.inputs call.outputs call.landing) (sym (node_there None none) ∙ call.is)

    pub call_there : (n : SharedNode) → slice_get g.nodes node ≡ Some n → is_call n ≡ true → IsCallThere side node
    call_there (shared.Basic bindings next) here is = absurd (false≢true is)
    call_there (shared.Cond test on_true on_false) here is = absurd (false≢true is)
    call_there (shared.Call callee inputs outputs landing) here is = record {
      callee = callee;
      inputs = shared_bindings_of g.trees inputs;
      outputs = shared_bindings_of g.trees outputs;
      landing = landing;
      is = node_there (Some (shared.Call callee inputs outputs landing)) here;
    }

    pub is_there : (n : SharedNode) → slice_get g.nodes node ≡ Some n → IsCallThere side node → is_call n ≡ true
    is_there (shared.Basic bindings next) here call =
        let is = same_Some _ _ (sym (node_there (Some (shared.Basic bindings next)) here) ∙ call.is) in absurd (cc)
    is_there (shared.Cond test on_true on_false) here call =
        let is = same_Some _ _ (sym (node_there (Some (shared.Cond test on_true on_false)) here) ∙ call.is) in absurd (cc)
    is_there (shared.Call callee inputs outputs landing) here call = refl

-- ---- nodes that are no calls

pub call_taken : (s : Side) (node : ℕ) → IsCallThere s node → IsUnlessCall s (Some node) None
call_taken s node call n is free =
    free call.callee call.inputs call.outputs call.landing
    (subst (λ (k : ℕ). node_at s.graphs s.outermost k ≡ Some (Call call.callee call.inputs call.outputs call.landing)) (same_Some node n is) call.is)

pub no_call_kept : (s : Side) (node : ℕ) → (IsCallThere s node → ⊥) → IsUnlessCall s (Some node) (Some node)
no_call_kept s node none = (
  refl,
  λ callee inputs outputs landing is. none (record { callee = callee; inputs = inputs; outputs = outputs; landing = landing; is = is }),
)

pub nothing_sought : (s : Side) → IsUnlessCall s None None
nothing_sought s n is free = none-some n is

-- ---- paths

pub own_path : (path : List ℕ) (n : ℕ) → n ≡ length path → (n == 0) ≡ true → path ≡ []
own_path [] n is empty = refl
own_path (first ∷ path) n is empty = absurd (omega (arith, is, eqb-true n 0 empty))

pub inner_path : (path : List ℕ) (n : ℕ) → n ≡ length path → (n == 0) ≡ false → path ≡ [] → ⊥
inner_path path n is some none = eqb-false n 0 some (is ∙ ap length none)

-- ---- places

-- the first that are passed don't have the place
pub place_passed : (place : Place) (places : List PlaceNode) (index : ℕ) (d : PlaceNode) → index < length places → same_place place (get_or places index d).place ≡ false
    → lookup (same_place place) (places_in (drop index places)) ≡ lookup (same_place place) (places_in (drop (index + 1) places))
place_passed place places index d within other =
    ap (λ (l : List PlaceNode). lookup (same_place place) (places_in l)) (drop_more places index d within)
    ∙ ap (λ (b : Bool). cond b (Some (get_or places index d).node) (lookup (same_place place) (places_in (drop (index + 1) places)))) other

pub place_found : (place : Place) (places : List PlaceNode) (index : ℕ) (d : PlaceNode) → index < length places → same_place place (get_or places index d).place ≡ true
    → lookup (same_place place) (places_in (drop index places)) ≡ Some (get_or places index d).node
place_found place places index d within same =
    ap (λ (l : List PlaceNode). lookup (same_place place) (places_in l)) (drop_more places index d within)
    ∙ ap (λ (b : Bool). cond b (Some (get_or places index d).node) (lookup (same_place place) (places_in (drop (index + 1) places)))) same

pub no_place : (place : Place) (places : List PlaceNode) (index : ℕ) → length places ≤ index → lookup (same_place place) (places_in (drop index places)) ≡ None
no_place place places index past = ap (λ (l : List PlaceNode). lookup (same_place place) (places_in l)) (drop_all index places past)

-- ---- points

pub binary_found : (code : Listed) (point : BinaryPoint) (node found : Option ℕ) → point.path ≡ [] → node ≡ lookup (nat_eq point.address) (firsts_at code)
    → IsUnlessCall (side_of code.binary) node found → Finds (IsBinaryAt code point) found
binary_found code point node (Some n) own is unless = record { own = own; there = sym is ∙ unless.0; no_call = unless.1 }
binary_found code point node None own is unless = λ n at. unless n (is ∙ at.there) at.no_call

pub source_found : (code : Listed) (point : SourcePoint) (node found : Option ℕ) → point.path ≡ [] → node ≡ lookup (same_place point.place) (places_at code)
    → IsUnlessCall (side_of code.source) node found → Finds (IsSourceAt code point) found
source_found code point node (Some n) own is unless = record { own = own; there = sym is ∙ unless.0; no_call = unless.1 }
source_found code point node None own is unless = λ n at. unless n (is ∙ at.there) at.no_call
