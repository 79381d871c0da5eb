-- Runs of graphs with calls inlined one after the other end as the function's do.
use Rattle.std.proofs.Common.{◌≡◌, ◌≢◌, ◌∙◌, inl, inr, ℕ, ◌<◌, ◌≤◌, true, false, refl, sym, ap, arith, ◌||◌, [], length, Option, Some}
use Rattle.std.proofs.lemmas.List.Elements.{All-weaker}
use Rattle.std.proofs.lemmas.Bool.{or_left}
use Rattle.term_core_spec.specs.declared.Variable.{Variable}
use Rattle.term_core_spec.specs.Sort.{is_memory}
use Rattle.term_core_spec.specs.Value.{Assignment}
use Rattle.graph_core_spec.specs.Graph.{Binding, Graph, Graphs}
use Rattle.graph_core_spec.specs.Run.{State, Running, is_register, is_zone_end}
use Rattle.graph_core_spec.specs.Fixed.{AlwaysHoldsFixed}
use Rattle.graph_inline_spec.specs.Inlining.{IsElsewhere}
use Rattle.graph_inline_spec.specs.Kept.{EndsAlike}
use Rattle.graph_inline_spec.proofs.Naming.{clash}
use Rattle.graph_inline_spec.proofs.Ends.{ends_alike, fixed_kept}
use Rattle.proof_tree_spec.specs.Frames.{Side}
use Rattle.graph_inline_spec.specs.Beside.{beside, own_number}
use Rattle.sim_inline_laws.specs.Unfolding.{Inlinable, Functions, AreInlinable, Unfolds, as_it_is, one_more}
use Rattle.sim_inline_laws.specs.Runs.{IsOfFunction, EndAlike, start_of, RunsAreKept, FixedBytesAreKept, CalleesRunOn, beside_side}
use Rattle.sim_inline_laws.proofs.Beside.{in_set, at_own}
use Rattle.sim_inline_laws.proofs.Copied.{is_moved, copy_ends, copy_holds, runs_on, begins_same}
use Rattle.sim_inline_laws.proofs.Unfolded.{unfolded_is, plain_call, inlines}

-- ---- one run after the other

pub both_alike : (a b c : Side) (x y z : State) → EndAlike a b x y → EndAlike b c y z → EndAlike a c x z
both_alike a b c x y z one two = record {
  returns = λ k values e.
      let (j, middle, at, same) = one.returns k values e in
      let (i, result, there, again) = two.returns j middle at in
      (i, result, there, λ v is. again v is ∙ same v is);
  returns_only = λ i result e.
      let (j, middle, at, again) = two.returns_only i result e in
      let (k, values, there, same) = one.returns_only j middle at in
      (k, values, there, λ v is. again v is ∙ same v is);
  fails = λ k e. let (j, at) = one.fails k e in two.fails j at;
  fails_only = λ i e. let (j, at) = two.fails_only i e in one.fails_only j at;
}

-- a variable of the function is of no inlined call
of_function_elsewhere : (instance : ℕ) → 2 ≤ instance → (v : Variable) → IsOfFunction v → IsElsewhere instance v
of_function_elsewhere instance later v (inl shared) = inl shared
of_function_elsewhere instance later v (inr less) = inr (λ e. omega (arith, less, e, later))

one_alike : (graphs : Graphs) (old new : Graph) (instance : ℕ) → 2 ≤ instance → (x y : State) → EndsAlike instance (beside graphs old) (beside graphs new) (own_number graphs) x y
    → (outermost : ℕ) → EndAlike (beside_side (record { graphs = graphs; outermost = outermost }) old) (beside_side (record { graphs = graphs; outermost = outermost }) new) x y
one_alike graphs old new instance later x y ends outermost = record {
  returns = λ k values e. let (j, result, at, same) = ends.returns k values e in (j, result, at, λ v is. same v (of_function_elsewhere instance later v is));
  returns_only = λ j result e. let (k, values, at, same) = ends.returns_only j result e in (k, values, at, λ v is. same v (of_function_elsewhere instance later v is));
  fails = ends.fails;
  fails_only = ends.fails_only;
}

-- ---- all calls

module _ (graphs : Graphs) (outermost : ℕ) (functions : Functions) (function : Inlinable) (set : AreInlinable graphs functions) (named : functions outermost ≡ Some function)
    (m : ℕ) (there : m < length function.graph.nodes) (values : Assignment) where
  abbrev side : Side
  side = record { graphs = graphs; outermost = outermost }

  abbrev begin : State
  begin = start_of side m values

  abbrev begin_own : State
  begin_own = Running (own_number graphs) m values []

  pub chain_ends : (free : ℕ) (own : Graph) → Unfolds functions function free own → EndAlike side (beside_side side own) begin begin_own
  chain_ends _ _ as_it_is =
      copy_ends graphs outermost function.graph (own_number graphs) (at_own graphs function.graph ∙ sym (set.there outermost function named)) functions set.calls begin begin_own (is_moved begin (refl, tt))
  chain_ends _ _ (one_more free instance g new n callee inputs outputs landing f before fits call is made) =
      let so_far = unfolded_is graphs functions set outermost function named free g before in
      let step = inlines graphs functions set outermost function named free instance g new n callee inputs outputs landing f so_far fits call is made in
      both_alike side (beside_side side g) (beside_side side new) begin begin_own begin_own (chain_ends free g before)
      (one_alike graphs g new instance (omega (arith, fits, so_far.later)) begin_own begin_own
      (ends_alike (beside graphs g) (own_number graphs) n f.own instance (beside graphs new) step m (omega (arith, there, so_far.size)) values values (λ v is. refl)) outermost)

  module _ (fixed : ℕ → Option ℕ) (memory : Variable) (is_memory_too : is_memory memory.sort ≡ true) (always : AlwaysHoldsFixed graphs outermost fixed memory begin) where
    pub chain_holds : (free : ℕ) (own : Graph) → Unfolds functions function free own → AlwaysHoldsFixed (beside graphs own) (own_number graphs) fixed memory begin_own
    chain_holds _ _ as_it_is =
        copy_holds graphs outermost function.graph (own_number graphs) (at_own graphs function.graph ∙ sym (set.there outermost function named)) functions set.calls fixed memory is_memory_too begin (refl, tt) always
    chain_holds _ _ (one_more free instance g new n callee inputs outputs landing f before fits call is made) =
        let so_far = unfolded_is graphs functions set outermost function named free g before in
        let step = inlines graphs functions set outermost function named free instance g new n callee inputs outputs landing f so_far fits call is made in
        let plain = plain_call graphs functions set outermost function named free instance g new n callee inputs outputs landing f so_far fits call is made in
        fixed_kept (beside graphs g) (own_number graphs) n f.own instance (beside graphs new) step m (omega (arith, there, so_far.size)) values values (λ v same. refl) fixed memory
        (or_left (is_memory memory.sort) (is_register memory.family || is_zone_end memory) is_memory_too)
        (All-weaker (λ (b : Binding). is_memory b.variable.sort ≡ false) (λ (b : Binding). b.variable ≢ memory)
        (λ b none e. clash (ap (λ (u : Variable). is_memory u.sort) e ∙ is_memory_too) none) outputs plain.takes)
        (chain_holds free g before)

pub runs_kept : RunsAreKept
runs_kept side functions function free own set named unfolds m there values =
    chain_ends side.graphs side.outermost functions function set named m there values free own unfolds

pub bytes_kept : FixedBytesAreKept
bytes_kept side functions function free own set named unfolds m there values fixed memory is always =
    chain_holds side.graphs side.outermost functions function set named m there values fixed memory is always free own unfolds

-- the functions of the set go on as they did
pub callees_run_on : CalleesRunOn
callees_run_on graphs own functions set h there m values =
    runs_on graphs h own h (in_set graphs own h there) functions set.calls refl (Running h m values []) (begins_same graphs h own h (in_set graphs own h there) functions set.calls refl m values)
