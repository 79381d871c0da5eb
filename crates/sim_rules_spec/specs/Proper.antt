-- What is assumed of a frame and its opening.
use Rattle.std.specs.Prelude.{◌≡◌, ◌≤◌, ◌^◌, ℕ, Bool, true, false, List, All, Some, None, slice_get}
use Rattle.term_core_spec.specs.declared.Family.{Family}
use Rattle.term_core_spec.specs.declared.Family.TheVariants as family
use Rattle.term_core_spec.specs.declared.Width.TheVariants.{W32}
use Rattle.term_core_spec.specs.declared.Sort.TheVariants.{Word}
use Rattle.term_core_spec.specs.declared.Variable.{Variable}
use Rattle.term_core_spec.specs.Sort.{sort_of}
use Rattle.term_core_spec.specs.Term.{Term, Occurs}
use Rattle.term_core_spec.specs.Value.{Assignment, IsAssignment}
use Rattle.term_core_spec.specs.Substitution.{values_of}
use Rattle.graph_core_spec.specs.TransitionSystem.{AreCounted}
use Rattle.graph_core_spec.specs.Simulation.{IsRelated}
use Rattle.graph_core_spec.specs.Graph.{Binding, Node, Basic, Cond, Call, Graph}
use Rattle.graph_core_spec.specs.Run.{State, has_failed}
use Rattle.proof_tree_spec.specs.Frames.{Side, Frame, binary_marks, source_marks}
use Rattle.sim_rules_spec.specs.Points.{Convention, is_binary, is_source, values_in, values_at}
use Rattle.sim_rules_spec.specs.Systems.{IsBinaryFine, IsSourceFine}
use Rattle.sim_rules_spec.specs.Rules.{Opening}

-- ---- graphs that speak of a side's own variables

module _ (own : Family → Bool) where
  abbrev pub IsOwnTerm : Term → Type 0
  IsOwnTerm t = (v : Variable) → Occurs v t → own v.family ≡ true

  abbrev pub IsOwnBinding : Binding → Type 0
  IsOwnBinding b = (own b.variable.family ≡ true) × IsOwnTerm b.term

  abbrev pub AreOwnBindings : List Binding → Type 0
  AreOwnBindings bindings = All IsOwnBinding bindings

  abbrev pub IsOwnNode : Node → Type 0
  IsOwnNode (Basic bindings next) = AreOwnBindings bindings
  IsOwnNode (Cond test on_true on_false) = IsOwnTerm test
  IsOwnNode (Call callee inputs outputs landing) = AreOwnBindings inputs × AreOwnBindings outputs

  abbrev pub IsOwnGraph : Graph → Type 0
  IsOwnGraph g = All IsOwnNode g.nodes

-- the graph is there, and all graphs of the set speak of these families alone
pub record IsProperSide (side : Side) (own : Family → Bool) : Type 0 where
  pub graph : Graph
  pub there : slice_get side.graphs side.outermost ≡ Some graph
  pub speaks : All (IsOwnGraph own) side.graphs

-- each mark counts an arrival at least
pub record IsProper (f : Frame) : Type 0 where
  pub binary : IsProperSide f.binary is_binary
  pub source : IsProperSide f.source is_source
  pub binary_goals : AreCounted (binary_marks f)
  pub source_goals : AreCounted (source_marks f)
  pub binary_bounds : AreCounted f.start.binary_bounds
  pub source_bounds : AreCounted f.start.source_bounds

-- the term speaks of values at entry alone
abbrev pub IsEntryLine : Term → Type 0
IsEntryLine line = (v : Variable) → Occurs v line → v.family ≡ family.Entry

-- fixed bytes are at addresses below 2 ^ 32, and the zone is from one word to another, over values at entry
pub record IsConvention (c : Convention) : Type 0 where
  pub fixed_below : (at : ℕ) → 2 ^ 32 ≤ at → c.fixed at ≡ None
  pub from_word : sort_of c.zone_from ≡ Some (Word W32)
  pub to_word : sort_of c.zone_to ≡ Some (Word W32)
  pub from_entry : IsEntryLine c.zone_from
  pub to_entry : IsEntryLine c.zone_to

-- two states have the values of an opening's terms
pub record IsOpened (o : Opening) (at : ℕ) (x y : State) : Type 0 where
  pub binary : (v : Variable) → is_binary v.family ≡ true → values_of (values_at at x y) o.binary v ≡ values_in x v
  pub source : (v : Variable) → is_source v.family ≡ true → values_of (values_at at x y) o.source v ≡ values_in y v

-- fixed bytes are at addresses below 2 ^ 32; an opening's terms are well sorted, and states of which it is known have their
-- values
pub record Opens (c : Convention) (f : Frame) (o : Opening) : Type 0 where
  pub fixed_below : (at : ℕ) → 2 ^ 32 ≤ at → c.fixed at ≡ None
  pub binary_sorts : (a : Assignment) → IsAssignment a → IsAssignment (values_of a o.binary)
  pub source_sorts : (a : Assignment) → IsAssignment a → IsAssignment (values_of a o.source)
  pub opened : (x y : State) → has_failed x ≡ false → has_failed y ≡ false → IsRelated o.known x y → IsBinaryFine c f x → IsSourceFine c f y → (at : ℕ) → IsOpened o at x y
