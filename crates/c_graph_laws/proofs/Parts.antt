-- Parts of statements: tests and what comes after them.
use Rattle.std.proofs.Common.{◌≡◌, ℕ, ◌<◌, ◌^◌, Bool, true, false, not, if◌then◌else◌, ℤ, pos, refl, ap, arith, List, [], ◌∷◌, ◌++◌, Option}
use Rattle.memory_spec.specs.Zones.{Zone}
use Rattle.term_core_spec.specs.Term.{Term}
use Rattle.term_core_spec.specs.Value.{Truth, Number, Assignment, value}
use Rattle.graph_core_spec.specs.declared.Next.{Next}
use Rattle.graph_core_spec.specs.Graph.{Graphs, Cond}
use Rattle.graph_core_spec.specs.Run.{Waiting, State, go, is_truth, system_of}
use Rattle.graph_core_spec.specs.TransitionSystem.{TransitionSystem}
use Rattle.c_types_spec.specs.declared.Scalar.{Scalar}
use Rattle.c_types_spec.specs.Values.{of_bits, same_value}
use Rattle.c_run_spec.specs.Evaluation.{Evaluated}
use Rattle.c_run_spec.specs.Execution.{Flow, on_ok}
use Rattle.c_graph_spec.specs.State.{width_of}
use Rattle.c_graph_spec.specs.Layout.{Exits}
use Rattle.c_graph_laws.proofs.Occurs.{Comes, Tests}
use Rattle.c_graph_laws.proofs.Steps.{pass, stop, conditional}
use Rattle.c_graph_laws.proofs.Means.{Means, breaks, means}
use Rattle.c_graph_laws.proofs.Flows.{Follows, broke, later}

-- tests one after the other
pub tests_split : (graphs : Graphs) (g : ℕ) (a b : List Term) (from to : Next) → Tests graphs g (a ++ b) from to
    → (middle : Next) × Tests graphs g a from middle × Tests graphs g b middle to
tests_split graphs g [] b from to t = (from, refl, t)
tests_split graphs g (test ∷ a) b from to t = let rest = tests_split graphs g a b t.0 to t.2 in (rest.0, (t.0, t.1, rest.1), rest.2)

module _ (graphs : Graphs) (outermost g : ℕ) (types : List Scalar) (zone : Zone) (returned : Option Scalar) (below : List Waiting) where
  abbrev w : TransitionSystem State
  w = system_of graphs outermost

  abbrev pub Flowing : (d n : ℕ) (x : State) (to : Next) (e : Exits) (in_loop in_switch ended : Bool) → Flow → Type 0
  Flowing d n x to e in_loop in_switch ended f = Follows graphs outermost g types zone returned below d n x to e in_loop in_switch ended f

  -- an expression is evaluated, and then something is done
  pub evaluated : (d n : ℕ) (tests : List Term) (x truth : Term) (type : Scalar) (r : Evaluated) (s : Assignment) (from last to : Next) (e : Exits) (in_loop in_switch ended : Bool)
      (next : ℤ → Flow) → Tests graphs g tests from last → Means s tests x truth type r
      → ((v : ℤ) (k : ℕ) → k < 2 ^ type.width → v ≡ of_bits type k → value s x ≡ Number (width_of type) k → value s truth ≡ Truth (not (same_value v (pos 0)))
      → Flowing d n (go g last s below) to e in_loop in_switch ended (next v))
      → Flowing d n (go g from s below) to e in_loop in_switch ended (on_ok r next)
  evaluated d n tests x truth type _ s from last to e in_loop in_switch ended next t (breaks broken fails) on =
      let failed = stop graphs outermost g tests from last s below t fails in
      broke broken.0 broken.1 failed.0 failed.1
  evaluated d n tests x truth type _ s from last to e in_loop in_switch ended next t (means v k small is holds word true_is) on =
      let passed = pass graphs outermost g tests from last s below t holds in
      later graphs outermost g types zone returned below d n d n passed.0 (go g from s below) (go g last s below) to e in_loop in_switch ended (next v) passed.1 (omega arith) (omega arith)
      (on v k small is word true_is)

  -- a test of a value against 0
  pub branched : (d n : ℕ) (truth : Term) (zero : Bool) (s : Assignment) (last on_true on_false to : Next) (e : Exits) (in_loop in_switch ended : Bool) (yes_flow no_flow : Flow)
      → Comes graphs g last (Cond truth on_true on_false) → value s truth ≡ Truth (not zero)
      → (zero ≡ false → Flowing d n (go g on_true s below) to e in_loop in_switch ended yes_flow)
      → (zero ≡ true → Flowing d n (go g on_false s below) to e in_loop in_switch ended no_flow)
      → Flowing d n (go g last s below) to e in_loop in_switch ended (if zero then no_flow else yes_flow)
  branched d n truth true s last on_true on_false to e in_loop in_switch ended yes_flow no_flow comes is yes_on no_on =
      later graphs outermost g types zone returned below d n d n 1 (go g last s below) (go g on_false s below) to e in_loop in_switch ended no_flow
      (conditional graphs outermost g last on_true on_false truth false s below comes (ap is_truth is)) (omega arith) (omega arith) (no_on refl)
  branched d n truth false s last on_true on_false to e in_loop in_switch ended yes_flow no_flow comes is yes_on no_on =
      later graphs outermost g types zone returned below d n d n 1 (go g last s below) (go g on_true s below) to e in_loop in_switch ended yes_flow
      (conditional graphs outermost g last on_true on_false truth true s below comes (ap is_truth is)) (omega arith) (omega arith) (yes_on refl)
