-- What a term says of a state of the binary and a state of the source.
use Rattle.std.specs.Prelude.{ℕ, ◌^◌, Bool, true, false, nat_lt, if◌then◌else◌, List, [], ◌∷◌, ◌++◌, Option, Some, None}
use Rattle.std.specs.List.{list_all}
use Rattle.term_core_spec.specs.declared.Width.TheVariants.{W32}
use Rattle.term_core_spec.specs.declared.Sort.TheVariants as sort
use Rattle.term_core_spec.specs.declared.Family.{Family}
use Rattle.term_core_spec.specs.declared.Family.TheVariants as family
use Rattle.term_core_spec.specs.declared.Variable.{Variable}
use Rattle.term_core_spec.specs.Same.{same_variable}
use Rattle.term_core_spec.specs.Term.{Term, and_term, or_term, not_term, equal, less, load, open_term, constant}
use Rattle.term_core_spec.specs.Value.{Value, Number, Assignment, low_bits}
use Rattle.graph_core_spec.specs.Run.{State, Running, Returned, Failed, Waiting, is_shared, unset}
use Rattle.path_cond_spec.specs.Passages.{holds}

-- ---- variables

-- the memory of each side
abbrev pub binary_memory : Variable
binary_memory = record { family = family.BinaryMemory; index = 0; instance = 0; sort = sort.Memory }

abbrev pub source_memory : Variable
source_memory = record { family = family.SourceMemory; index = 0; instance = 0; sort = sort.Memory }

-- the memory in the zone that only the binary may use: at a point it is the binary's memory there
abbrev pub zone_memory : Variable
zone_memory = record { family = family.ZoneMemory; index = 0; instance = 0; sort = sort.Memory }

-- the ends of that zone, as words of the source's states; caller and callee share them
abbrev pub zone_low : Variable
zone_low = record { family = family.Further; index = 0; instance = 0; sort = sort.Word W32 }

abbrev pub zone_high : Variable
zone_high = record { family = family.Further; index = 1; instance = 0; sort = sort.Word W32 }

-- any address: memories are compared there
abbrev pub address : Variable
address = record { family = family.Address; index = 0; instance = 0; sort = sort.Word W32 }

-- the variables of the binary's runs: the machine's registers, their values at entry, and its memory
abbrev pub is_binary : Family → Bool
is_binary family.Register = true
is_binary family.Entry = true
is_binary family.BinaryMemory = true
is_binary f = false

-- those of the source's runs: parameters, locals, whether these are set, its memory, and further words of its states
abbrev pub is_source : Family → Bool
is_source family.Parameter = true
is_source family.Local = true
is_source family.IsSet = true
is_source family.SourceMemory = true
is_source family.Further = true
is_source f = false

-- what is said of each variable by the side to which it belongs, and of the others
abbrev pub of_sides : {T : Type 0} → (binary source others : Variable → T) → Variable → T
of_sides binary source others = λ v. if is_binary v.family then binary v else (if is_source v.family then source v else others v)

-- ---- states

-- of the functions that wait, each has its own variables; memories, registers and the ends of the zone there are once
abbrev pub outermost_values : Assignment → List Waiting → Assignment
outermost_values values [] = values
outermost_values values (f ∷ below) = λ v. if is_shared v then values v else outermost_values f.values below v

-- the values in a state: of a function's own variables, those of the outermost function
abbrev pub values_in : State → Assignment
values_in (Running g n values below) = outermost_values values below
values_in (Returned values) = values
values_in Failed = λ v. unset v.sort

-- the values of the variables that belong to no side, at an address and with this memory in the zone
abbrev pub other_values : (at : ℕ) → (zone : Value) → Assignment
other_values at zone = λ v. if same_variable v zone_memory then zone else (if same_variable v address then Number W32 (low_bits 32 at) else unset v.sort)

-- the values at two states
abbrev pub values_at : (at : ℕ) → State → State → Assignment
values_at at x y = of_sides (values_in x) (values_in y) (other_values at (values_in x binary_memory))

-- the lines hold at two states
abbrev pub all_hold : List Term → (at : ℕ) → State → State → Bool
all_hold lines at x y = list_all (λ (line : Term). holds (values_at at x y) line) lines

-- ---- conventions

-- from which address to below which the memories of the sides may differ, over values at entry, and which addresses these
-- are in the runs that are spoken of; what else holds of the states where both have returned; and which bytes of the
-- source's memory are fixed
pub record Convention : Type 0 where
  pub zone_from : Term
  pub zone_to : Term
  pub bottom : ℕ
  pub top : ℕ
  pub returns : List Term
  pub fixed : ℕ → Option ℕ

-- outside the zone both memories have the same byte
abbrev pub in_zone : Convention → Term
in_zone c = and_term (not_term (less (open_term address) c.zone_from)) (less (open_term address) c.zone_to)

abbrev pub same_byte : Convention → Term
same_byte c = or_term (in_zone c) (equal (load (open_term binary_memory) (open_term address)) (load (open_term source_memory) (open_term address)))

-- the lines of a relation, then memory
abbrev pub with_memory : Convention → List Term → List Term
with_memory c lines = lines ++ same_byte c ∷ []

-- these are the zone's ends, by values at entry and by the source's words
abbrev pub zone_lines : Convention → (low high : Term) → List Term
zone_lines c low high = equal low (constant W32 c.bottom) ∷ equal high (constant W32 c.top) ∷ []

abbrev pub entry_zone : Convention → List Term
entry_zone c = zone_lines c c.zone_from c.zone_to

abbrev pub source_zone : Convention → List Term
source_zone c = zone_lines c (open_term zone_low) (open_term zone_high)

-- no byte is at an address from 2 ^ 32 on: there each memory has 0
abbrev pub bounded : (ℕ → Option ℕ) → ℕ → Option ℕ
bounded fixed = λ at. if nat_lt at (2 ^ 32) then fixed at else Some 0

abbrev pub nothing : ℕ → Option ℕ
nothing at = None
