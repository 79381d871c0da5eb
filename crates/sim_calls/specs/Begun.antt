-- The terms of variables where a callee begins, in a bank.
use Rattle.std.specs.Prelude.{◌≡◌, ℕ, false, if◌then◌else◌, List, Option, Some, None}
use Rattle.std.specs.Option.{option_or}
use Rattle.term_core_spec.specs.declared.Width.TheVariants.{W8, W16, W32, W64}
use Rattle.term_core_spec.specs.declared.Sort.{Sort}
use Rattle.term_core_spec.specs.declared.Sort.TheVariants as sort
use Rattle.term_core_spec.specs.declared.Family.{Family}
use Rattle.term_core_spec.specs.declared.Family.TheVariants as family
use Rattle.term_core_spec.specs.declared.Variable.{Variable}
use Rattle.term_core_spec.specs.Same.{same_variable}
use Rattle.term_core_spec.specs.Term.{Term, truth, constant}
use Rattle.term_core_spec.specs.Substitution.{State as Terms}
use Rattle.term_bank.specs.Nodes.{Holds}
use Rattle.graph_core_spec.specs.Run.{is_shared}
use Rattle.sim_rules_spec.specs.Calls.{CallPair, binary_begins, source_begins}
use Rattle.sim_rules_spec.specs.Points.{Convention, zone_memory}
use Rattle.sim_rules_spec.specs.Rules.{at_cut, terms_at}
use Rattle.sim_calls.specs.declared.begun.Zeros.{Zeros}

pub record AreZeros (trees : List Term) (zeros : Zeros) : Type 0 where
  pub falsehood : Holds trees zeros.truth (truth false)
  pub byte : Holds trees zeros.byte (constant W8 0)
  pub half : Holds trees zeros.half (constant W16 0)
  pub word : Holds trees zeros.word (constant W32 0)
  pub double : Holds trees zeros.double (constant W64 0)

-- what a function's own variable of a sort holds before it is bound
abbrev pub zero_id : Zeros → Sort → Option ℕ
zero_id zeros sort.Truth = Some zeros.truth
zero_id zeros (sort.Word W8) = Some zeros.byte
zero_id zeros (sort.Word W16) = Some zeros.half
zero_id zeros (sort.Word W32) = Some zeros.word
zero_id zeros (sort.Word W64) = Some zeros.double
zero_id zeros sort.Memory = None

-- a variable of a callee, by what the call binds and by the terms before
abbrev pub entered_id : (bound before : Variable → Option ℕ) → Zeros → Variable → Option ℕ
entered_id bound before zeros v = option_or (bound v) (if is_shared v then before v else zero_id zeros v.sort)

-- a variable of a family, by what each side's call binds and by the terms before; `memory` is the binary's
abbrev pub begun_by : Zeros → (memory : ℕ) → (bound_binary binary bound_source source : Variable → Option ℕ) → Family → Variable → Option ℕ
begun_by zeros memory bound_binary binary bound_source source family.Register v = entered_id bound_binary binary zeros v
begun_by zeros memory bound_binary binary bound_source source family.Entry v = binary v
begun_by zeros memory bound_binary binary bound_source source family.Parameter v = entered_id bound_source source zeros v
begun_by zeros memory bound_binary binary bound_source source family.Local v = entered_id bound_source source zeros v
begun_by zeros memory bound_binary binary bound_source source family.IsSet v = entered_id bound_source source zeros v
begun_by zeros memory bound_binary binary bound_source source family.SourceMemory v = entered_id bound_source source zeros v
begun_by zeros memory bound_binary binary bound_source source family.BinaryMemory v = entered_id bound_binary binary zeros v
begun_by zeros memory bound_binary binary bound_source source family.ZoneMemory v = if same_variable v zone_memory then Some memory else None
begun_by zeros memory bound_binary binary bound_source source family.Address v = None
begun_by zeros memory bound_binary binary bound_source source family.LoadedByte v = None
begun_by zeros memory bound_binary binary bound_source source family.Further v = entered_id bound_source source zeros v

-- the terms of these ids
abbrev pub begins_by : Convention → CallPair → Terms
begins_by c calls = terms_at (binary_begins calls (at_cut c)) (source_begins calls (at_cut c))
