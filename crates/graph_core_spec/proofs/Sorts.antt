-- The values of a run have their variables' sorts.
use Rattle.std.proofs.Common.{◌≡◌, ℕ, ◌==◌, ◌&&◌, zero, suc, Bool, true, false, if◌then◌else◌, List, [], ◌∷◌, length, Option, Some, None, refl, sym, ap, subst, arith, lit<}
use Rattle.std.specs.Prelude.{⊤, slice_get, option_and_then}
use Rattle.std.specs.List.{All}
use Rattle.std.proofs.lemmas.Bool.{and_parts}
use Rattle.std.proofs.lemmas.Option.{slice_get_within, get_or_from_slice_get}
use Rattle.term_core_spec.specs.declared.Width.{Width}
use Rattle.term_core_spec.specs.declared.Width.TheVariants.{W8, W16, W32, W64}
use Rattle.term_core_spec.specs.declared.Sort.{Sort}
use Rattle.term_core_spec.specs.declared.Sort.TheVariants.{Truth, Word, Memory}
use Rattle.term_core_spec.specs.declared.Variable.{Variable}
use Rattle.term_core_spec.specs.contracts.FamilyPartialEq.TheImpl as family_test
use Rattle.term_core_spec.specs.contracts.SortPartialEq.TheImpl as sort_test
use Rattle.term_core_spec.specs.Same.{same_variable}
use Rattle.term_core_spec.specs.Value.{Value, Assignment, IsAssignment, IsOfSort, value}
use Rattle.term_core_spec.proofs.Soundness.{value-sort}
use Rattle.graph_core_spec.specs.TransitionSystem.{after}
use Rattle.graph_core_spec.specs.declared.Next.{Next}
use Rattle.graph_core_spec.specs.declared.Next.TheVariants as next
use Rattle.graph_core_spec.specs.Graph.{Binding, IsBinding, AreBindings, Node, Basic, Cond, Call, IsNode, Graph, Graphs, IsValid, node_at}
use Rattle.graph_core_spec.specs.Run.{Waiting, State, Running, Returned, Failed, leave, go, enter, act, step, system_of, bound, entered, resumed, is_shared, unset}
use Rattle.graph_core_spec.specs.Sorts.{AreWaiting, IsState, IsSorted}

-- ---- variables that are the same have one sort

same_widths : (v w : Width) → sort_test.ghosts.eq (Word v) (Word w) ≡ true → v ≡ w
same_widths W8 W8 h = refl
same_widths W16 W16 h = refl
same_widths W32 W32 h = refl
same_widths W64 W64 h = refl
same_widths W8 W16 h = let bad : false ≡ true = h in cc
same_widths W8 W32 h = let bad : false ≡ true = h in cc
same_widths W8 W64 h = let bad : false ≡ true = h in cc
same_widths W16 W8 h = let bad : false ≡ true = h in cc
same_widths W16 W32 h = let bad : false ≡ true = h in cc
same_widths W16 W64 h = let bad : false ≡ true = h in cc
same_widths W32 W8 h = let bad : false ≡ true = h in cc
same_widths W32 W16 h = let bad : false ≡ true = h in cc
same_widths W32 W64 h = let bad : false ≡ true = h in cc
same_widths W64 W8 h = let bad : false ≡ true = h in cc
same_widths W64 W16 h = let bad : false ≡ true = h in cc
same_widths W64 W32 h = let bad : false ≡ true = h in cc

same_sorts : (s t : Sort) → sort_test.ghosts.eq s t ≡ true → s ≡ t
same_sorts Truth Truth h = refl
same_sorts (Word v) (Word w) h = ap (λ (width : Width). Word width) (same_widths v w h)
same_sorts Memory Memory h = refl
same_sorts Truth (Word w) h = let bad : false ≡ true = h in cc
same_sorts Truth Memory h = let bad : false ≡ true = h in cc
same_sorts (Word v) Truth h = let bad : false ≡ true = h in cc
same_sorts (Word v) Memory h = let bad : false ≡ true = h in cc
same_sorts Memory Truth h = let bad : false ≡ true = h in cc
same_sorts Memory (Word w) h = let bad : false ≡ true = h in cc

last_of_four : (a b c d : Bool) → (a && (b && (c && d))) ≡ true → d ≡ true
last_of_four a b c d h = (and_parts c d (and_parts b (c && d) (and_parts a (b && (c && d)) h).1).1).1

one_sort : (v w : Variable) → same_variable v w ≡ true → v.sort ≡ w.sort
one_sort v w h = same_sorts v.sort w.sort (last_of_four (family_test.ghosts.eq v.family w.family) (v.index == w.index) (v.instance == w.instance) (sort_test.ghosts.eq v.sort w.sort) h)

-- ---- bindings

chosen : (b : Bool) (s : Sort) (x y : Value) → (b ≡ true → IsOfSort s x) → IsOfSort s y → IsOfSort s (if b then x else y)
chosen true s x y yes_is other = yes_is refl
chosen false s x y yes_is other = other

first_binds : (b : Binding) (bindings : List Binding) → AreBindings (b ∷ bindings) → IsBinding b
first_binds b bindings are = are 0 b (omega arith)

rest_bind : (b : Binding) (bindings : List Binding) → AreBindings (b ∷ bindings) → AreBindings bindings
rest_bind b bindings are = λ k d less. are (suc k) d (omega arith)

pub bound_sorted : (bindings : List Binding) (values rest : Assignment) → AreBindings bindings → IsAssignment values → IsAssignment rest → IsAssignment (bound bindings values rest)
unfolding bound
bound_sorted [] values rest are sorted others = others
bound_sorted (b ∷ bindings) values rest are sorted others = λ v. chosen (same_variable v b.variable) v.sort (value values b.term) (bound bindings values rest v)
    (λ same. subst (λ (s : Sort). IsOfSort s (value values b.term)) (sym (one_sort v b.variable same)) (value-sort values sorted b.term b.variable.sort (first_binds b bindings are)))
    (bound_sorted bindings values rest (rest_bind b bindings are) sorted others v)

unset_sorted : (s : Sort) → IsOfSort s (unset s)
unset_sorted Truth = tt
unset_sorted (Word W8) = (refl, lit< tt)
unset_sorted (Word W16) = (refl, lit< tt)
unset_sorted (Word W32) = (refl, lit< tt)
unset_sorted (Word W64) = (refl, lit< tt)
unset_sorted Memory = λ address. lit< tt

pub entered_sorted : (inputs : List Binding) (values : Assignment) → AreBindings inputs → IsAssignment values → IsAssignment (entered inputs values)
entered_sorted inputs values are sorted = bound_sorted inputs values _ are sorted (λ v. chosen (is_shared v) v.sort (values v) (unset v.sort) (λ shared. sorted v) (unset_sorted v.sort))

pub resumed_sorted : (outputs : List Binding) (values waited : Assignment) → AreBindings outputs → IsAssignment values → IsAssignment waited → IsAssignment (resumed outputs values waited)
resumed_sorted outputs values waited are sorted waiting = bound_sorted outputs values _ are sorted (λ v. chosen (is_shared v) v.sort (values v) (waited v) (λ shared. sorted v) (waiting v))

-- ---- steps of valid graphs

left_sorted : (values : Assignment) (below : List Waiting) → IsAssignment values → AreWaiting below → IsState (leave values below)
left_sorted values [] sorted waiting = sorted
left_sorted values (f ∷ below) sorted waiting = (resumed_sorted f.outputs values f.values waiting.1 sorted waiting.0, waiting.2)

gone_sorted : (g : ℕ) (to : Next) (values : Assignment) (below : List Waiting) → IsAssignment values → AreWaiting below → IsState (go g to values below)
gone_sorted g (next.At n) values below sorted waiting = (sorted, waiting)
gone_sorted g next.Ret values below sorted waiting = left_sorted values below sorted waiting
gone_sorted g next.Err values below sorted waiting = tt

begun_sorted : (callee : ℕ) (graph : Option Graph) (values : Assignment) (below : List Waiting) → IsAssignment values → AreWaiting below → IsState (enter callee graph values below)
begun_sorted callee None values below sorted waiting = tt
begun_sorted callee (Some graph) values below sorted waiting = (sorted, waiting)

-- a node that is there has its bindings
IsOptionalNode : ℕ → Option Node → Type 0
IsOptionalNode count None = ⊤
IsOptionalNode count (Some node) = IsNode count node

acted_sorted : (graphs : Graphs) (g n : ℕ) (values : Assignment) (below : List Waiting) (count : ℕ) (node : Option Node) → IsOptionalNode count node
    → IsAssignment values → AreWaiting below → IsState (act graphs g n values below node)
unfolding IsOptionalNode
acted_sorted graphs g n values below count None is sorted waiting = tt
acted_sorted graphs g n values below count (Some (Basic bindings to)) is sorted waiting = gone_sorted g to _ below (bound_sorted bindings values values is.0 sorted sorted) waiting
acted_sorted graphs g n values below count (Some (Cond test on_true on_false)) is sorted waiting = gone_sorted g _ values below sorted waiting
acted_sorted graphs g n values below count (Some (Call callee inputs outputs landing)) is sorted waiting =
    begun_sorted callee (slice_get graphs callee) _ _ (entered_sorted inputs values is.0 sorted) (sorted, is.1, waiting)

node_in : (graph : Option Graph) (n : ℕ) → ((there : Graph) → graph ≡ Some there → IsValid there) → (count : ℕ) × IsOptionalNode count (option_and_then (λ (g : Graph). slice_get g.nodes n) graph)
unfolding IsOptionalNode
node_in None n valid = (0, tt)
node_in (Some graph) n valid = (length graph.nodes, found (slice_get graph.nodes n) refl)
  where
    found : (node : Option Node) → node ≡ slice_get graph.nodes n → IsOptionalNode (length graph.nodes) node
    found None e = tt
    found (Some node) e = subst (IsNode (length graph.nodes)) (get_or_from_slice_get graph.nodes n node node (sym e))
        ((valid graph refl).nodes n node (slice_get_within graph.nodes n node (sym e)))

valid_at : (graphs : Graphs) → All IsValid graphs → (g : ℕ) (there : Graph) → slice_get graphs g ≡ Some there → IsValid there
valid_at graphs valid g there e = subst IsValid (get_or_from_slice_get graphs g there there e) (valid g there (slice_get_within graphs g there e))

pub step_sorted : (graphs : Graphs) → All IsValid graphs → (s : State) → IsState s → IsState (step graphs s)
unfolding step
step_sorted graphs valid (Running g n values below) sorted =
    let node = node_in (slice_get graphs g) n (λ there e. valid_at graphs valid g there e) in
    acted_sorted graphs g n values below node.0 (node_at graphs g n) node.1 sorted.0 sorted.1
step_sorted graphs valid (Returned values) sorted = sorted
step_sorted graphs valid Failed sorted = tt

pub run_sorted : (graphs : Graphs) (outermost : ℕ) → All IsValid graphs → (k : ℕ) (s : State) → IsState s → IsState (after (system_of graphs outermost) k s)
unfolding after
run_sorted graphs outermost valid zero s sorted = sorted
run_sorted graphs outermost valid (suc k) s sorted = run_sorted graphs outermost valid k (step graphs s) (step_sorted graphs valid s sorted)

pub stays_sorted : (graphs : Graphs) (s : State) → IsSorted graphs s → IsSorted graphs (step graphs s)
stays_sorted graphs s holds = record { valid = holds.valid; sorted = step_sorted graphs holds.valid s holds.sorted }
