-- States at which frames start, and frames of which nothing is said yet.
use Rattle.std.proofs.Common.{◌≡◌, ◌∙◌, ℕ, ◌<◌, true, false, ◌==◌, ◌&&◌, refl, ap, arith, List, [], ◌∷◌, length, Some}
use Rattle.std.specs.Prelude.{is_some, slice_get, Contains}
use Rattle.std.proofs.lemmas.Bool.{and_parts, and_from, eqb-true, eq-eqb}
use Rattle.std.proofs.lemmas.Option.{slice_get-get_or}
use Rattle.term_core_spec.specs.Value.{Assignment}
use Rattle.graph_core_spec.specs.declared.Next.TheVariants as next
use Rattle.graph_core_spec.specs.Graph.{Basic, Graph, Graphs, node_at}
use Rattle.graph_core_spec.specs.Simulation as systems
use Rattle.graph_core_spec.specs.Simulation.{IsHeld, held}
use Rattle.graph_core_spec.specs.Run.{State, Running, Returned, Failed, is_at}
use Rattle.sim_inline_laws.proofs.Beside.{node_in}

-- a state at a node, where no function waits
pub at_node : (graphs : Graphs) (outermost n : ℕ) (x : State) → is_at graphs outermost n x ≡ true → (values : Assignment) × (x ≡ Running outermost n values [])
at_node graphs outermost n (Running g m values []) e =
    let graph_is = and_parts (g == outermost) (m == n && is_some (node_at graphs g m)) e in
    let node_is = and_parts (m == n) (is_some (node_at graphs g m)) graph_is.1 in
    let g_is : g ≡ outermost = eqb-true g outermost graph_is.0 in
    let m_is : m ≡ n = eqb-true m n node_is.0 in
    (values, λ i. Running (g_is i) (m_is i) values [])
at_node graphs outermost n (Running g m values (f ∷ below)) e = absurd (let bad : false ≡ true = e in cc)
at_node graphs outermost n (Returned values) e = absurd (let bad : false ≡ true = e in cc)
at_node graphs outermost n Failed e = absurd (let bad : false ≡ true = e in cc)

pub is_at_node : (graphs : Graphs) (outermost n : ℕ) (graph : Graph) (values : Assignment) → slice_get graphs outermost ≡ Some graph → n < length graph.nodes
    → is_at graphs outermost n (Running outermost n values []) ≡ true
is_at_node graphs outermost n graph values there less =
    and_from (outermost == outermost) (n == n && is_some (node_at graphs outermost n)) (eq-eqb outermost outermost refl)
    (and_from (n == n) (is_some (node_at graphs outermost n)) (eq-eqb n n refl)
    (ap is_some (node_in graphs outermost graph n there ∙ slice_get-get_or graph.nodes n (Basic [] next.Err) less)))

-- without holds none is met, and without goals none is arrived at
pub none_held : (f : systems.Frame State State) (x y : State) → f.holds ≡ [] → IsHeld f x y → ⊥
none_held f x y none (held h among t u some before_binary before_source at_binary at_source related) =
    let e : length f.holds ≡ 0 = ap (λ (l : List (systems.Hold State State)). length l) none in
    omega (arith, among.1, e)

pub no_goal : (f : systems.Frame State State) (g : systems.Goal State State) → f.goals ≡ [] → Contains f.goals g → ⊥
no_goal f g none (k, less, is) =
    let e : length f.goals ≡ 0 = ap (λ (l : List (systems.Goal State State)). length l) none in
    omega (arith, less, e)
