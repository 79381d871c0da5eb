-- Graphs and points of bodies, and of all bodies of a unit.
use Rattle.std.proofs.Common.{◌≡◌, ◌∙◌, ℕ, ◌+◌, ◌<◌, List, [], ◌∷◌, ◌++◌, length, map, take, get_or, Some, refl, sym, ap, ap₂, arith}
use Rattle.std.specs.Prelude.{slice_get, option_map, Option}
use Rattle.std.specs.Borrow.{Bor}
use Rattle.std.proofs.lemmas.List.{map-append, take_more}
use Rattle.std.proofs.lemmas.Option.{get_or_from_slice_get}
use Rattle.graph_core_spec.specs.Graph as graph
use Rattle.graph_core.specs.Graphs.{graph_of}
use Rattle.proof_tree_spec.specs.declared.Place.{Place}
use Rattle.c_types_spec.specs.declared.Scalar.{Scalar}
use Rattle.c_types_spec.specs.Core.{Action, Body, Typed}
use Rattle.c_graph_spec.specs.Guards as guards
use Rattle.c_graph_spec.specs.Layout.{Setting}
use Rattle.c_graph_spec.specs.SourceGraph as spec
use Rattle.c_graph_spec.specs.SourceGraph.{body_number, type_named, points, points_of, graphs_of}
use Rattle.c_types.specs.declared.typed.Body.{Body as CodeBody}
use Rattle.c_types.specs.Typed.{bodies_of, body_of, body_of_name}
use Rattle.c_graph.specs.declared.source_graph.SourceGraph.{SourceGraph}
use Rattle.c_graph.specs.Frames.{local_in}
use Rattle.c_graph.specs.Seen.{Made, body_nodes, graph_with, made_for, made_of, points_in}

-- the setting of a body with these locals
abbrev pub setting_with : Typed → guards.Place → List Scalar → Setting
setting_with unit p locals = record {
  place = p;
  graph_number = λ name. body_number name unit.bodies;
  function_type = type_named unit;
  local_type = local_in locals;
}

graph_is : (unit : Typed) (p : guards.Place) (body : Body) → graph_with (body_nodes (setting_with unit p body.locals) body.action) ≡ spec.graph_of unit p body
unfolding spec.graph_of
graph_is unit p body = refl

pub made_is : (unit : Typed) (p : guards.Place) (body : Body) (g : graph.Graph) (list : List (Place × ℕ)) (locals : List Scalar) (a b : Action) → locals ≡ body.locals → a ≡ body.action → b ≡ body.action
    → list ≡ points (setting_with unit p locals) a 1 → g ≡ graph_with (body_nodes (setting_with unit p locals) b) → (g, list) ≡ made_for unit p body
made_is unit p body g list locals a b locals_are a_is b_is list_is g_is =
    ap₂ (λ (x : graph.Graph) (y : List (Place × ℕ)). let m : Made = (x, y) in m)
    (g_is ∙ ap₂ (λ (l : List Scalar) (x : Action). graph_with (body_nodes (setting_with unit p l) x)) locals_are b_is ∙ graph_is unit p body)
    (list_is ∙ ap₂ (λ (l : List Scalar) (x : Action). points (setting_with unit p l) x 1) locals_are a_is)

-- nothing of it depends on the body's name
pub made_named : (unit : Typed) (p : guards.Place) (name other : List ℕ) (body : CodeBody) → made_for unit p (body_of_name name body) ≡ made_for unit p (body_of_name other body)
unfolding spec.graph_of
made_named unit p name other body = refl

-- ---- units

-- the bodies before a place, and that one
pub bodies_more : (unit : Typed) (p : guards.Place) (entries : List (Bor (List ℕ) × CodeBody)) (i : ℕ) (key : Bor (List ℕ)) (body : CodeBody) → i < length entries → slice_get entries i ≡ Some (key, body)
    → map (made_for unit p) (bodies_of (take (i + 1) entries)) ≡ map (made_for unit p) (bodies_of (take i entries)) ++ made_for unit p (body_of body) ∷ []
bodies_more unit p entries i key body below is =
    let at : get_or entries i (key, body) ≡ (key, body) = get_or_from_slice_get entries i (key, body) (key, body) is in
    ap (λ l. map (made_for unit p) (bodies_of l)) (take_more entries i (key, body) below ∙ ap (λ x. take i entries ++ x ∷ []) at)
    ∙ ap (map (made_for unit p)) (map-append (λ entry. body_of_name entry.0.now entry.1) (take i entries) ((key, body) ∷ []))
    ∙ map-append (made_for unit p) (bodies_of (take i entries)) (body_of_name key.now body ∷ [])
    ∙ ap (λ m. map (made_for unit p) (bodies_of (take i entries)) ++ m ∷ []) (made_named unit p key.now body.name.now body)

graphs_in : (list : List SourceGraph) → map (λ (g : SourceGraph). graph_of g.graph) list ≡ map (λ (m : Made). m.0) (map made_of list)
graphs_in [] = refl
graphs_in (g ∷ list) = ap (λ l. graph_of g.graph ∷ l) (graphs_in list)

graphs_made : (unit : Typed) (p : guards.Place) (bodies : List Body) → map (λ (m : Made). m.0) (map (made_for unit p) bodies) ≡ map (spec.graph_of unit p) bodies
graphs_made unit p [] = refl
graphs_made unit p (b ∷ bodies) = ap (λ l. spec.graph_of unit p b ∷ l) (graphs_made unit p bodies)

points_of_list : (list : List SourceGraph) → map (λ (g : SourceGraph). points_in g.points.items) list ≡ map (λ (m : Made). m.1) (map made_of list)
points_of_list [] = refl
points_of_list (g ∷ list) = ap (λ l. points_in g.points.items ∷ l) (points_of_list list)

points_made : (unit : Typed) (p : guards.Place) (bodies : List Body) → map (λ (m : Made). m.1) (map (made_for unit p) bodies) ≡ map (points_of unit p) bodies
points_made unit p [] = refl
points_made unit p (b ∷ bodies) = ap (λ l. points_of unit p b ∷ l) (points_made unit p bodies)

pub all_graphs : (unit : Typed) (p : guards.Place) (list : List SourceGraph) → map made_of list ≡ map (made_for unit p) unit.bodies → map (λ (g : SourceGraph). graph_of g.graph) list ≡ graphs_of unit p
all_graphs unit p list e = graphs_in list ∙ ap (map (λ (m : Made). m.0)) e ∙ graphs_made unit p unit.bodies

pub all_points : (unit : Typed) (p : guards.Place) (list : List SourceGraph) → map made_of list ≡ map (made_for unit p) unit.bodies → map (λ (g : SourceGraph). points_in g.points.items) list ≡ map (points_of unit p) unit.bodies
all_points unit p list e = points_of_list list ∙ ap (map (λ (m : Made). m.1)) e ∙ points_made unit p unit.bodies
