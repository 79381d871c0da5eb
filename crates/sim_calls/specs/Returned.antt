-- The terms of variables where both sides are back from a callee, in a bank.
use Rattle.std.specs.Prelude.{◌≡◌, ℕ, ◌==◌, if◌then◌else◌, List, [], Option, Some, None}
use Rattle.std.specs.Option.{option_or}
use Rattle.term_core_spec.specs.declared.Family.{Family}
use Rattle.term_core_spec.specs.declared.Family.TheVariants as family
use Rattle.term_core_spec.specs.declared.Variable.{Variable}
use Rattle.term_core_spec.specs.Same.{same_variable}
use Rattle.term_core_spec.specs.Sort.{is_memory}
use Rattle.term_core_spec.specs.Term.{Term, open_term, over, subtract}
use Rattle.term_core_spec.specs.Substitution.{State as Terms, substituted}
use Rattle.term_bank.specs.Nodes.{Holds}
use Rattle.graph_core_spec.specs.Graph.{Binding}
use Rattle.sim_rules_spec.specs.Calling.{word}
use Rattle.sim_rules_spec.specs.Calls.{CallPair, Callee, left, left_memory, is_kept_register, machine_register, binary_returns, source_returns}
use Rattle.sim_rules_spec.specs.Points.{Convention, binary_memory, source_memory, zone_memory}
use Rattle.sim_rules_spec.specs.Rules.{at_cut, terms_at}
use Rattle.sim_calls.specs.declared.cut.Cut.{Cut}
use Rattle.sim_calls.specs.Cuts.{IsCut}

-- ---- ids

-- a register: the result, as before, or what the callee leaves
abbrev pub register_id : (returned : Option ℕ) → (lefts before : Variable → Option ℕ) → Variable → Option ℕ
register_id returned lefts before v =
    if is_kept_register v.index then before v else (if v.index == 10 then option_or returned (lefts v) else lefts v)

-- a variable of the source: what the call binds, what the callee leaves of its memory, or as before
abbrev pub source_id : (bound lefts before : Variable → Option ℕ) → Variable → Option ℕ
source_id bound lefts before v = option_or (bound v) (if is_memory v.sort then lefts v else before v)

-- a variable of a family; `memory` is the binary's
abbrev pub returned_by : (memory : ℕ) → (returned : Option ℕ) → (lefts bound binary source : Variable → Option ℕ) → Family → Variable → Option ℕ
returned_by memory returned lefts bound binary source family.Register v = register_id returned lefts binary v
returned_by memory returned lefts bound binary source family.Entry v = binary v
returned_by memory returned lefts bound binary source family.Parameter v = source_id bound lefts source v
returned_by memory returned lefts bound binary source family.Local v = source_id bound lefts source v
returned_by memory returned lefts bound binary source family.IsSet v = source_id bound lefts source v
returned_by memory returned lefts bound binary source family.SourceMemory v = source_id bound lefts source v
returned_by memory returned lefts bound binary source family.BinaryMemory v = if same_variable v binary_memory then Some memory else binary v
returned_by memory returned lefts bound binary source family.ZoneMemory v = if same_variable v zone_memory then Some memory else None
returned_by memory returned lefts bound binary source family.Address v = None
returned_by memory returned lefts bound binary source family.LoadedByte v = None
returned_by memory returned lefts bound binary source family.Further v = source_id bound lefts source v

-- ---- the terms of these ids

-- the binary's memory, with a zone from one address to below the next
abbrev pub left_memory_by : (from to : Term) → (stack : ℕ) → Term
left_memory_by from to stack =
    let sp = open_term (machine_register 2) in
    over (left source_memory) (over (open_term zone_memory) (left zone_memory) (subtract sp (word stack)) sp) from to

abbrev pub HasResult : List Term → (term : Option Term) → (id : Option ℕ) → Type 0
HasResult trees (Some t) (Some id) = Holds trees id (substituted left t)
HasResult trees (Some t) None = ⊥
HasResult trees None (Some id) = ⊥
HasResult trees None None = Unit {0}

-- the memory and the result that a callee leaves at a cut
pub record IsExit (trees : List Term) (c : Convention) (callee : Callee) (cut : Cut) (memory : ℕ) (returned : Option ℕ) : Type 0 where
  pub is_cut : IsCut trees c cut
  pub memory_is : Holds trees memory (left_memory c callee (at_cut c).binary)
  pub result_is : HasResult trees callee.result returned

-- a call that binds nothing but where it is back
abbrev pub returning : List Binding → CallPair
returning outputs = record { binary_inputs = []; source_inputs = []; source_outputs = outputs }

-- the terms of variables there
abbrev pub returns_by : Convention → Callee → (outputs : List Binding) → Terms
returns_by c callee outputs = terms_at (binary_returns c callee (at_cut c)) (source_returns (returning outputs) (at_cut c))
