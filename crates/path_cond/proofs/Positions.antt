-- Some visits, from what is known of each.
use Rattle.std.proofs.Common.{◌≡◌, ◌∙◌, ℕ, ◌<◌, false, List, [], ◌∷◌, length, get_or, map, Option, Some, refl, sym, ap, ap₂, subst, arith}
use Rattle.std.specs.Prelude.{slice_get, option_and_then}
use Rattle.std.specs.List.{All}
use Rattle.std.proofs.lemmas.List.Elements.{All-head, All-tail, All-map}
use Rattle.std.proofs.lemmas.Option.{slice_get-get_or, get_or_from_slice_get, slice_get_within}
use Rattle.term_core_spec.specs.declared.Variable.{Variable}
use Rattle.term_core_spec.specs.Term.{Term, truth}
use Rattle.term_core_spec.specs.Substitution.{State}
use Rattle.term_bank.specs.Nodes.{tree_at, Holds}
use Rattle.graph_core_spec.specs.Graph.{Graph}
use Rattle.path_cond_spec.specs.Junctions.{Junction}
use Rattle.path_cond_spec.specs.Conditions.{Conditional, united, merged, conditional_at, conditionals}
use Rattle.path_cond.specs.declared.ids.Ids.{Ids}
use Rattle.path_cond.specs.declared.known.Known.{Known}
use Rattle.path_cond.specs.Ids.{id_at}
use Rattle.path_cond.specs.Merged.{AreIds}
use Rattle.path_cond.specs.Known.{AreConditionals, HasConditional}
use Rattle.path_cond.specs.Result.{conditions_at}
use Rattle.path_cond.specs.States.{HasState}
use Rattle.path_cond.specs.Table.{IsKnownAt, AreKnown}
use Rattle.path_cond.specs.United.{id_of, ids_of, AreFull}
use Rattle.path_cond.proofs.Banks.{tree_is}
use Rattle.path_cond.proofs.Current.{full_state}
use Rattle.path_cond.proofs.Uniting.{found_first}
use Rattle.path_cond.proofs.Walking.{count_all}

module _ (trees : List Term) (variables : List Variable) (start : State) (g : Graph) (js : List Junction) (known : Known) (cs : List Conditional) (are : AreKnown trees variables start g js known cs) where
  abbrev f : ℕ → Conditional
  f m = conditional_at start cs m

  abbrev AreWithin : List ℕ → Type 0
  AreWithin members = All (λ (m : ℕ). m < length cs) members

  member_at : (m : ℕ) → m < length cs → IsKnownAt trees variables start g js known m (f m)
  member_at m less = are.each m (f m) (slice_get-get_or cs m (united start []) less)

  condition_holds : (m : ℕ) → m < length cs → Holds trees (get_or known.conditions.items m 0) (f m).condition
  condition_holds m less =
      let at = member_at m less in
      subst (λ (i : ℕ). Holds trees i (f m).condition) (sym (get_or_from_slice_get known.conditions.items m at.condition 0 at.condition_is)) at.holds

  pub member_ids : (members : List ℕ) → AreWithin members → AreIds (length trees) (conditions_at known.conditions.items members)
  member_ids members within =
      All-map (λ (i : ℕ). i < length trees) (λ (m : ℕ). get_or known.conditions.items m 0) members
      (λ k d less. slice_get_within trees (get_or known.conditions.items (get_or members k d) 0) (f (get_or members k d)).condition (condition_holds (get_or members k d) (within k d less)))

  pub member_full : (members : List ℕ) → AreWithin members → AreFull (length trees) (length variables) known.states.items members
  member_full members within = λ k d less.
      let m : ℕ = get_or members k d in
      let at = member_at m (within k d less) in
      (at.state, at.state_is, full_state variables trees start (id_at at.state) (f m).state at.has)

  conditions_of : (members : List ℕ) → AreWithin members → map (tree_at trees) (conditions_at known.conditions.items members) ≡ map (λ (c : Conditional). c.condition) (map f members)
  conditions_of [] within = refl
  conditions_of (m ∷ members) within =
      ap₂ (λ (t : Term) (ts : List Term). t ∷ ts)
      (tree_is trees (get_or known.conditions.items m 0) (f m).condition (condition_holds m (All-head (λ (n : ℕ). n < length cs) m members within)))
      (conditions_of members (All-tail (λ (n : ℕ). n < length cs) m members within))

  states_of : (k : ℕ) (v : Variable) → slice_get variables k ≡ Some v → (members : List ℕ) → AreWithin members
      → map (tree_at trees) (ids_of known.states.items members k) ≡ map (λ (c : Conditional). c.state v) (map f members)
  states_of k v there [] within = refl
  states_of k v there (m ∷ members) within =
      let is = member_at m (All-head (λ (n : ℕ). n < length cs) m members within) in
      let at = is.has.bound k v there in
      let id : id_of known.states.items k m ≡ Some at.0 = ap (λ (o : Option Ids). option_and_then (λ (ids : Ids). id_at ids k) o) is.state_is ∙ at.1 in
      ap (map (tree_at trees)) (found_first 0 known.states.items k m at.0 members id)
      ∙ ap₂ (λ (t : Term) (ts : List Term). t ∷ ts) (tree_is trees at.0 ((f m).state v) at.2) (states_of k v there members (All-tail (λ (n : ℕ). n < length cs) m members within))

  pub member_conditionals : (members : List ℕ) → AreWithin members
      → AreConditionals trees variables start (conditions_at known.conditions.items members) known.states.items members (map f members)
  member_conditionals members within = record {
    conditions_are = conditions_of members within;
    states_are = λ k v there. states_of k v there members within;
    others = λ v out. All-map (λ (c : Conditional). c.state v ≡ start v) f members
        (λ k d less. (member_at (get_or members k d) (within k d less)).has.others v out);
  }

  -- each has a condition
  pub positions_within : (members : List ℕ) → AreWithin members → All (λ (m : ℕ). m < length known.conditions.items) members
  positions_within members within = λ k d less. let at = within k d less in let same = are.conditions in omega arith

pub counted_within : (g : Graph) (js : List Junction) (start : State) (members : List ℕ) → All (λ (m : ℕ). m < length js) members → All (λ (m : ℕ). m < length (conditionals g js start)) members
counted_within g js start members within = λ k d less. let at = within k d less in let same = count_all g js start in omega arith

-- what has the conditionals of these junctions has as many of those
pub counts_same : (trees : List Term) (variables : List Variable) (start : State) (g : Graph) (js : List Junction) (start' : State) (g' : Graph) (js' : List Junction) (known : Known)
    → AreKnown trees variables start g js known (conditionals g js start) → AreKnown trees variables start' g' js' known (conditionals g' js' start')
    → (members : List ℕ) → All (λ (m : ℕ). m < length (conditionals g js start)) members → All (λ (m : ℕ). m < length (conditionals g' js' start')) members
counts_same trees variables start g js start' g' js' known one other members within = λ k d less.
    let at = within k d less in
    let a = one.conditions in
    let b = other.conditions in
    omega arith

-- no visit: the condition is false, and the state that of the start
pub none_united : (trees : List Term) (variables : List Variable) (start : State) (condition : ℕ) (state : Ids) → Holds trees condition (truth false)
    → HasState trees variables start (id_at state) start → HasConditional trees variables start (united start []) (condition, state)
unfolding merged
none_united trees variables start condition state holds has = record {
  condition = holds;
  state = record { bound = λ k v there. has.bound k v there; others = λ v out. refl };
}
