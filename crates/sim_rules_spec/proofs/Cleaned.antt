-- What a run does doesn't depend on variables of which its graphs don't speak: these may as well be unset.
use Rattle.std.proofs.Common.{◌≡◌, ◌∙◌, ℕ, ◌||◌, zero, suc, Bool, true, false, if◌then◌else◌, List, [], ◌∷◌, Option, Some, None, refl, sym, ap, ap₂, subst, inl, inr}
use Rattle.std.specs.Prelude.{⊤, slice_get, option_and_then, nat_le}
use Rattle.std.specs.List.{All}
use Rattle.std.proofs.lemmas.Bool.{cases_Bool}
use Rattle.std.proofs.lemmas.List.Elements.{All-head, All-tail}
use Rattle.std.proofs.lemmas.Option.{slice_get_within, get_or_from_slice_get}
use Rattle.term_core_spec.specs.declared.Family.{Family}
use Rattle.term_core_spec.specs.declared.Variable.{Variable}
use Rattle.term_core_spec.specs.Same.{same_variable}
use Rattle.term_core_spec.specs.Term.{Term}
use Rattle.term_core_spec.specs.Value.{Value, Assignment, value}
use Rattle.term_core_spec.proofs.Same.{variable-same}
use Rattle.term_core_spec.proofs.Variables.{value-occurs}
use Rattle.graph_core_spec.specs.TransitionSystem.{after, arrivals, tick, reached, stopped}
use Rattle.graph_core_spec.specs.declared.Mark.{Mark}
use Rattle.graph_core_spec.specs.declared.Next.{Next}
use Rattle.graph_core_spec.specs.declared.Next.TheVariants as next
use Rattle.graph_core_spec.specs.Graph.{Binding, Node, Basic, Cond, Call, Graph, Graphs, node_at}
use Rattle.graph_core_spec.specs.Run.{Waiting, State, Running, Returned, Failed, leave, go, enter, act, step, system_of, bound, entered, resumed, is_shared, is_truth, unset, has_returned, has_failed, is_at}
use Rattle.path_cond_spec.proofs.Runs.{arrivals-suc}
use Rattle.sim_rules_spec.specs.Points.{values_in, outermost_values}
use Rattle.sim_rules_spec.specs.Proper.{IsOwnTerm, IsOwnBinding, AreOwnBindings, IsOwnNode, IsOwnGraph}

-- no step, no arrival
pub arrivals-zero : (graphs : Graphs) (outermost n : ℕ) (s : State) → arrivals (system_of graphs outermost) n zero s ≡ 0
unfolding arrivals
arrivals-zero graphs outermost n s = refl

module _ (own : Family → Bool) where
  -- ---- states in which all other variables are unset

  abbrev pub cleaned : Assignment → Assignment
  cleaned values = λ v. if own v.family then values v else unset v.sort

  abbrev pub cleaned_frames : List Waiting → List Waiting
  cleaned_frames [] = []
  cleaned_frames (f ∷ below) = record f { values = cleaned f.values } ∷ cleaned_frames below

  abbrev pub cleaned_state : State → State
  cleaned_state (Running g n values below) = Running g n (cleaned values) (cleaned_frames below)
  cleaned_state (Returned values) = Returned (cleaned values)
  cleaned_state Failed = Failed

  -- what waiting functions take from their callees is their own
  abbrev AreOwnFrames : List Waiting → Type 0
  AreOwnFrames [] = ⊤
  AreOwnFrames (f ∷ below) = AreOwnBindings own f.outputs × AreOwnFrames below

  abbrev pub IsOwnState : State → Type 0
  IsOwnState (Running g n values below) = AreOwnFrames below
  IsOwnState (Returned values) = ⊤
  IsOwnState Failed = ⊤

  -- ---- bindings

  cleaned-own : (values : Assignment) (v : Variable) → own v.family ≡ true → cleaned values v ≡ values v
  cleaned-own values v h = ap (λ (b : Bool). if b then values v else unset v.sort) h

  value-cleaned : (values : Assignment) (t : Term) → IsOwnTerm own t → value (cleaned values) t ≡ value values t
  value-cleaned values t speaks = value-occurs (cleaned values) values t (λ v o. cleaned-own values v (speaks v o))

  bound_at : (bindings : List Binding) (values rest : Assignment) → AreOwnBindings own bindings → (v : Variable)
      → bound bindings (cleaned values) (cleaned rest) v ≡ cleaned (bound bindings values rest) v
  unfolding bound
  bound_at [] values rest are v = refl
  bound_at (b ∷ bindings) values rest are v =
      let first : IsOwnBinding own b = All-head (IsOwnBinding own) b bindings are in
      let others = All-tail (IsOwnBinding own) b bindings are in
      elim (cases_Bool (same_variable v b.variable)) [
        | inl same ↦
            let is : v ≡ b.variable = variable-same v b.variable same in
            let mine : own v.family ≡ true = ap (λ (w : Variable). own w.family) is ∙ first.0 in
            ap (λ (p : Bool). if p then value (cleaned values) b.term else bound bindings (cleaned values) (cleaned rest) v) same
            ∙ value-cleaned values b.term first.1
            ∙ sym (cleaned-own (bound (b ∷ bindings) values rest) v mine
            ∙ ap (λ (p : Bool). if p then value values b.term else bound bindings values rest v) same)
        | inr other ↦
            ap (λ (p : Bool). if p then value (cleaned values) b.term else bound bindings (cleaned values) (cleaned rest) v) other
            ∙ bound_at bindings values rest others v
            ∙ sym (ap (λ (p : Bool). if own v.family then (if p then value values b.term else bound bindings values rest v) else unset v.sort) other)
      ]

  bound-cleaned : (bindings : List Binding) (values rest : Assignment) → AreOwnBindings own bindings
      → bound bindings (cleaned values) (cleaned rest) ≡ cleaned (bound bindings values rest)
  bound-cleaned bindings values rest are = λ i v. bound_at bindings values rest are v i

  choice : (p q : Bool) (x y z : Value) → (if p then (if q then x else z) else (if q then y else z)) ≡ (if q then (if p then x else y) else z)
  choice true true x y z = refl
  choice true false x y z = refl
  choice false true x y z = refl
  choice false false x y z = refl

  choice_unset : (p q : Bool) (x z : Value) → (if p then (if q then x else z) else z) ≡ (if q then (if p then x else z) else z)
  choice_unset true true x z = refl
  choice_unset true false x z = refl
  choice_unset false true x z = refl
  choice_unset false false x z = refl

  entered-cleaned : (inputs : List Binding) (values : Assignment) → AreOwnBindings own inputs → entered inputs (cleaned values) ≡ cleaned (entered inputs values)
  entered-cleaned inputs values are =
      let rest : (λ (v : Variable). if is_shared v then cleaned values v else unset v.sort) ≡ cleaned (λ (v : Variable). if is_shared v then values v else unset v.sort) =
      λ i v. choice_unset (is_shared v) (own v.family) (values v) (unset v.sort) i in
      ap (bound inputs (cleaned values)) rest ∙ bound-cleaned inputs values (λ v. if is_shared v then values v else unset v.sort) are

  resumed-cleaned : (outputs : List Binding) (values waited : Assignment) → AreOwnBindings own outputs
      → resumed outputs (cleaned values) (cleaned waited) ≡ cleaned (resumed outputs values waited)
  resumed-cleaned outputs values waited are =
      let rest : (λ (v : Variable). if is_shared v then cleaned values v else cleaned waited v) ≡ cleaned (λ (v : Variable). if is_shared v then values v else waited v) =
      λ i v. choice (is_shared v) (own v.family) (values v) (waited v) (unset v.sort) i in
      ap (bound outputs (cleaned values)) rest ∙ bound-cleaned outputs values (λ v. if is_shared v then values v else waited v) are

  -- ---- steps

  -- what a step of a cleaned state gives is what the state's step gives, cleaned
  Commutes : State → State → Type 0
  Commutes done plain = (done ≡ cleaned_state plain) × IsOwnState plain

  left : (values : Assignment) (below : List Waiting) → AreOwnFrames below → Commutes (leave (cleaned values) (cleaned_frames below)) (leave values below)
  unfolding Commutes
  left values [] waiting = (refl, tt)
  left values (f ∷ below) waiting =
      (ap (λ (a : Assignment). Running f.graph f.landing a (cleaned_frames below)) (resumed-cleaned f.outputs values f.values waiting.0), waiting.1)

  gone : (g : ℕ) (to : Next) (values : Assignment) (below : List Waiting) → AreOwnFrames below → Commutes (go g to (cleaned values) (cleaned_frames below)) (go g to values below)
  unfolding Commutes
  gone g (next.At n) values below waiting = (refl, waiting)
  gone g next.Ret values below waiting = left values below waiting
  gone g next.Err values below waiting = (refl, tt)

  begun : (callee : ℕ) (graph : Option Graph) (values : Assignment) (below : List Waiting) → AreOwnFrames below
      → Commutes (enter callee graph (cleaned values) (cleaned_frames below)) (enter callee graph values below)
  unfolding Commutes
  begun callee None values below waiting = (refl, tt)
  begun callee (Some graph) values below waiting = (refl, waiting)

  IsOwnOptional : Option Node → Type 0
  IsOwnOptional None = ⊤
  IsOwnOptional (Some node) = IsOwnNode own node

  acted : (graphs : Graphs) (g n : ℕ) (values : Assignment) (below : List Waiting) (node : Option Node) → IsOwnOptional node → AreOwnFrames below
      → Commutes (act graphs g n (cleaned values) (cleaned_frames below) node) (act graphs g n values below node)
  unfolding Commutes IsOwnOptional
  acted graphs g n values below None is waiting = (refl, tt)
  acted graphs g n values below (Some (Basic bindings to)) is waiting =
      let rest = gone g to (bound bindings values values) below waiting in
      (ap (λ (a : Assignment). go g to a (cleaned_frames below)) (bound-cleaned bindings values values is) ∙ rest.0, rest.1)
  acted graphs g n values below (Some (Cond test on_true on_false)) is waiting =
      let rest = gone g (if is_truth (value values test) then on_true else on_false) values below waiting in
      (ap (λ (u : Value). go g (if is_truth u then on_true else on_false) (cleaned values) (cleaned_frames below)) (value-cleaned values test is) ∙ rest.0, rest.1)
  acted graphs g n values below (Some (Call callee inputs outputs landing)) is waiting =
      let frame : Waiting = record { graph = g; call = n; landing = landing; outputs = outputs; values = values } in
      let rest = begun callee (slice_get graphs callee) (entered inputs values) (frame ∷ below) (is.1, waiting) in
      (ap (λ (a : Assignment). enter callee (slice_get graphs callee) a (cleaned_frames (frame ∷ below))) (entered-cleaned inputs values is.0) ∙ rest.0, rest.1)

  module _ (graphs : Graphs) (outermost : ℕ) (speaks : All (IsOwnGraph own) graphs) where
    graph_in : (g : ℕ) (there : Graph) → slice_get graphs g ≡ Some there → IsOwnGraph own there
    graph_in g there e = subst (IsOwnGraph own) (get_or_from_slice_get graphs g there there e) (speaks g there (slice_get_within graphs g there e))

    node_in : (graph : Option Graph) (n : ℕ) → ((there : Graph) → graph ≡ Some there → IsOwnGraph own there)
        → IsOwnOptional (option_and_then (λ (g : Graph). slice_get g.nodes n) graph)
    unfolding IsOwnOptional
    node_in None n mine = tt
    node_in (Some graph) n mine = found (slice_get graph.nodes n) refl
      where
        found : (node : Option Node) → node ≡ slice_get graph.nodes n → IsOwnOptional node
        found None e = tt
        found (Some node) e = subst (IsOwnNode own) (get_or_from_slice_get graph.nodes n node node (sym e))
            ((mine graph refl) n node (slice_get_within graph.nodes n node (sym e)))

    stepped : (s : State) → IsOwnState s → Commutes (step graphs (cleaned_state s)) (step graphs s)
    unfolding step Commutes
    stepped (Running g n values below) waiting = acted graphs g n values below (node_at graphs g n) (node_in (slice_get graphs g) n (λ there e. graph_in g there e)) waiting
    stepped (Returned values) waiting = (refl, tt)
    stepped Failed waiting = (refl, tt)

    after-cleaned : (k : ℕ) (s : State) → IsOwnState s → after (system_of graphs outermost) k (cleaned_state s) ≡ cleaned_state (after (system_of graphs outermost) k s)
    unfolding after Commutes
    after-cleaned zero s is = refl
    after-cleaned (suc k) s is =
        let one = stepped s is in
        ap (after (system_of graphs outermost) k) one.0 ∙ after-cleaned k (step graphs s) one.1

    -- ---- what a state and the same one cleaned have in common

    at-cleaned : (n : ℕ) (s : State) → is_at graphs outermost n (cleaned_state s) ≡ is_at graphs outermost n s
    at-cleaned n (Running g m values []) = refl
    at-cleaned n (Running g m values (f ∷ below)) = refl
    at-cleaned n (Returned values) = refl
    at-cleaned n Failed = refl

    returned-cleaned : (s : State) → has_returned (cleaned_state s) ≡ has_returned s
    returned-cleaned (Running g m values below) = refl
    returned-cleaned (Returned values) = refl
    returned-cleaned Failed = refl

    failed-cleaned : (s : State) → has_failed (cleaned_state s) ≡ has_failed s
    failed-cleaned (Running g m values below) = refl
    failed-cleaned (Returned values) = refl
    failed-cleaned Failed = refl

    outermost-cleaned : (values : Assignment) (below : List Waiting) (v : Variable) → own v.family ≡ true
        → outermost_values (cleaned values) (cleaned_frames below) v ≡ outermost_values values below v
    outermost-cleaned values [] v mine = cleaned-own values v mine
    outermost-cleaned values (f ∷ below) v mine =
        ap₂ (λ (a b : Value). if is_shared v then a else b) (cleaned-own values v mine) (outermost-cleaned f.values below v mine)

    values-cleaned : (s : State) (v : Variable) → own v.family ≡ true → values_in (cleaned_state s) v ≡ values_in s v
    values-cleaned (Running g m values below) v mine = outermost-cleaned values below v mine
    values-cleaned (Returned values) v mine = cleaned-own values v mine
    values-cleaned Failed v mine = refl

    -- ---- runs from two states that are the same where they are cleaned

    module _ (s t : State) (own_s : IsOwnState s) (own_t : IsOwnState t) (same : cleaned_state s ≡ cleaned_state t) where
      pub twin : (k : ℕ) → cleaned_state (after (system_of graphs outermost) k s) ≡ cleaned_state (after (system_of graphs outermost) k t)
      twin k = sym (after-cleaned k s own_s) ∙ ap (after (system_of graphs outermost) k) same ∙ after-cleaned k t own_t

      pub same_at : (n k : ℕ) → is_at graphs outermost n (after (system_of graphs outermost) k s) ≡ is_at graphs outermost n (after (system_of graphs outermost) k t)
      same_at n k = sym (at-cleaned n (after (system_of graphs outermost) k s)) ∙ ap (is_at graphs outermost n) (twin k) ∙ at-cleaned n (after (system_of graphs outermost) k t)

      pub same_returned : (k : ℕ) → has_returned (after (system_of graphs outermost) k s) ≡ has_returned (after (system_of graphs outermost) k t)
      same_returned k = sym (returned-cleaned (after (system_of graphs outermost) k s)) ∙ ap has_returned (twin k) ∙ returned-cleaned (after (system_of graphs outermost) k t)

      pub same_failed : (k : ℕ) → has_failed (after (system_of graphs outermost) k s) ≡ has_failed (after (system_of graphs outermost) k t)
      same_failed k = sym (failed-cleaned (after (system_of graphs outermost) k s)) ∙ ap has_failed (twin k) ∙ failed-cleaned (after (system_of graphs outermost) k t)

      pub same_values : (k : ℕ) (v : Variable) → own v.family ≡ true → values_in (after (system_of graphs outermost) k s) v ≡ values_in (after (system_of graphs outermost) k t) v
      same_values k v mine =
          sym (values-cleaned (after (system_of graphs outermost) k s) v mine) ∙ ap (λ (u : State). values_in u v) (twin k) ∙ values-cleaned (after (system_of graphs outermost) k t) v mine

      pub same_arrivals : (n k : ℕ) → arrivals (system_of graphs outermost) n k s ≡ arrivals (system_of graphs outermost) n k t
      same_arrivals n zero = arrivals-zero graphs outermost n s ∙ sym (arrivals-zero graphs outermost n t)
      same_arrivals n (suc k) =
          arrivals-suc graphs outermost n k s
          ∙ ap₂ (λ (b : Bool) (c : ℕ). tick (system_of graphs outermost) b c) (same_at n (suc k)) (same_arrivals n k)
          ∙ sym (arrivals-suc graphs outermost n k t)

      same_reached : (ms : List Mark) (k : ℕ) → reached (system_of graphs outermost) ms k s ≡ reached (system_of graphs outermost) ms k t
      unfolding reached
      same_reached [] k = refl
      same_reached (m ∷ ms) k = ap₂ (λ (c : ℕ) (b : Bool). nat_le m.count c || b) (same_arrivals m.node k) (same_reached ms k)

      pub same_stopped : (ms : List Mark) (k : ℕ) → stopped (system_of graphs outermost) ms k s ≡ stopped (system_of graphs outermost) ms k t
      same_stopped ms k = ap₂ (λ (a b : Bool). a || b) (same_returned k) (same_reached ms k)
