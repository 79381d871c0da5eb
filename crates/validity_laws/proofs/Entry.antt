-- What is stated at the entry of a function is well sorted, and in it the source has one memory.
use Rattle.std.proofs.Common.{◌≡◌, ◌∙◌, ℕ, suc, ◌+◌, ◌-◌, ◌^◌, ◌<◌, ◌≤◌, Bool, true, false, if◌then◌else◌, List, [], ◌∷◌, ◌++◌, map, length, Option, Some, None, refl, ap, inl, inr, arith}
use Rattle.std.specs.Prelude.{All, nat_lt, IfSome}
use Rattle.std.proofs.lemmas.Bool.{lt-ltb}
use Rattle.std.proofs.lemmas.List.Elements.{All-nil, All-cons, All-append, All-head, All-tail}
use Rattle.memory_spec.specs.Runs as memory
use Rattle.elf_read_spec.specs.Image.{global_pointer}
use Rattle.term_core_spec.specs.declared.Width.{Width}
use Rattle.term_core_spec.specs.declared.Width.TheVariants.{W8, W32}
use Rattle.term_core_spec.specs.declared.Sort.{Sort}
use Rattle.term_core_spec.specs.declared.Sort.TheVariants.{Word, Memory}
use Rattle.term_core_spec.specs.declared.Family.{Family}
use Rattle.term_core_spec.specs.declared.Family.TheVariants as family
use Rattle.term_core_spec.specs.declared.Variable.{Variable}
use Rattle.term_core_spec.specs.Sort.{sort_of, sort_of_atom, sort_of_binary, bits}
use Rattle.term_core_spec.specs.Term.{Term, Occurs, equal, less, not_term, bit_and, open_term, truth, over, load, low, sign_extend, zero_extend}
use Rattle.term_core_spec.specs.Same.{same_variable}
use Rattle.term_core_spec.specs.Substitution.{State}
use Rattle.decompile_spec.specs.State as code
use Rattle.c_types_spec.specs.declared.Scalar.{Scalar}
use Rattle.c_graph_spec.specs.State.{local, is_set, zone_low, zone_high, result}
use Rattle.c_graph_spec.specs.Values.{at_width}
use Rattle.c_graph_laws.proofs.Extents.{IsPlain as IsPlainType, ResultExtent, full, scalar}
use Rattle.c_graph_laws.proofs.Sorted.{at_width_sorted}
use Rattle.sim_rules_spec.specs.Points.{binary_memory, source_memory, zone_memory, address, is_binary, is_source, of_sides, in_zone, same_byte}
use Rattle.sim_rules_spec.specs.Calling.{word, register, at_entry, kept_registers, result_lines, return_lines, zone_from, outside_zone, global_pointer_lines}
use Rattle.sim_rules_spec.specs.Rules.{Opening, terms_at_start, terms_at, at_cut}
use Rattle.agreement_laws.specs.EntryFrame.{Pair, Fact, given, result_term, widened, parameter, run_of, argument_facts, registers, binary_facts, local_facts, zone_facts, source_facts, entry_opening, entry_premises}
use Rattle.validity_laws.specs.Derivation.{no_zone, stated}
use Rattle.validity_laws.proofs.Good.{IsPlain, IsGood, IsGoodState, IsTest, AreTests, open_good, truth_good, not_good, or_good, and_good, equal_good, less_good, load_good, over_good, either_good, put_good}

-- ---- variables of other families

other_plain : (f : Family) (index instance : ℕ) (s : Sort) → (f ≡ family.SourceMemory → ⊥) → IsPlain (record { family = f; index = index; instance = instance; sort = s })
other_plain f index instance s apart is = absurd (apart is)

pub register_good : (r : ℕ) → IsGood (register r) (Word W32)
register_good r = open_good (code.register r) (other_plain family.Register r 0 (Word W32) (λ h. cc))

pub at_entry_good : (r : ℕ) → IsGood (at_entry r) (Word W32)
at_entry_good r = open_good (code.entry_register r) (other_plain family.Entry r 0 (Word W32) (λ h. cc))

parameter_good : (number : ℕ) (type : Scalar) → IsGood (open_term (parameter number type)) (parameter number type).sort
parameter_good number type = open_good (parameter number type) (other_plain family.Parameter number 0 _ (λ h. cc))

pub local_good : (number : ℕ) (type : Scalar) → IsGood (open_term (local number type)) (local number type).sort
local_good number type = open_good (local number type) (other_plain family.Local number 0 _ (λ h. cc))

pub result_open : (type : Scalar) → IsGood (open_term (result type)) (result type).sort
result_open type = open_good (result type) (other_plain family.Further 2 0 _ (λ h. cc))

address_good : IsGood (open_term address) (Word W32)
address_good = open_good address (other_plain family.Address 0 0 (Word W32) (λ h. cc))

pub source_good : IsGood (open_term source_memory) Memory
source_good = open_good source_memory (λ h. refl)

pub zone_good : IsGood (open_term zone_memory) Memory
zone_good = open_good zone_memory (other_plain family.ZoneMemory 0 0 Memory (λ h. cc))

binary_good : IsGood (open_term binary_memory) Memory
binary_good = open_good binary_memory (other_plain family.BinaryMemory 0 0 Memory (λ h. cc))

-- ---- words

pub word_good : (n : ℕ) → n < 2 ^ 32 → IsGood (word n) (Word W32)
unfolding sort_of sort_of_atom Occurs
word_good n below = record { sorted = rw (lt-ltb n (2 ^ 32) below) refl; plain = λ v o. absurd o }

masked_good : (r mask : ℕ) → mask < 2 ^ 32 → IsGood (bit_and (at_entry r) (word mask)) (Word W32)
unfolding sort_of sort_of_atom sort_of_binary Occurs
masked_good r mask below = record {
  sorted = rw (lt-ltb mask (2 ^ 32) below) refl;
  plain = λ v o. elim o [ inl l ↦ (at_entry_good r).plain v l | inr m ↦ absurd m ];
}

pub from_good : (stack : ℕ) → stack < 2 ^ 32 → IsGood (zone_from stack) (Word W32)
unfolding sort_of sort_of_atom sort_of_binary Occurs
from_good stack below = record {
  sorted = rw (lt-ltb stack (2 ^ 32) below) refl;
  plain = λ v o. elim o [ inl l ↦ (at_entry_good 2).plain v l | inr m ↦ absurd m ];
}

-- a value of a type, widened to a word
pub widened_good : (type : Scalar) (v : Variable) → IsPlainType type → IsGood (open_term v) v.sort → v.sort ≡ (parameter 0 type).sort → IsGood (widened type v) (Word W32)
unfolding Occurs
widened_good type v plain good same = record {
  sorted = at_width_sorted type (scalar 32 false) plain (full false) (open_term v) (good.sorted ∙ ap Some same);
  plain = λ w o. good.plain w (occurs type W32 (open_term v) w o);
}
  where
    extended : (b : Bool) (u : Width) (x : Term) (w : Variable) → Occurs w (if b then sign_extend u x else zero_extend u x) → Occurs w x
    extended true u x w o = o
    extended false u x w o = o

    cut : (b : Bool) (u : Width) (x : Term) (w : Variable) → Occurs w (if b then low u x else x) → Occurs w x
    cut true u x w o = o
    cut false u x w o = o

    by : (b : Bool) (type : Scalar) (u : Width) (x : Term) (w : Variable)
        → Occurs w (if b then (if type.is_signed then sign_extend u x else zero_extend u x) else (if nat_lt (bits u) type.width then low u x else x)) → Occurs w x
    by true type u x w o = extended type.is_signed u x w o
    by false type u x w o = cut (nat_lt (bits u) type.width) u x w o

    occurs : (type : Scalar) (u : Width) (x : Term) (w : Variable) → Occurs w (at_width type u x) → Occurs w x
    occurs type u x w o = by (nat_lt type.width (bits u)) type u x w o

-- ---- lines of return

kept_good : (list : List ℕ) → AreTests (map (λ (r : ℕ). equal (register r) (at_entry r)) list)
kept_good [] = All-nil IsTest
kept_good (r ∷ list) =
    All-cons IsTest (equal (register r) (at_entry r)) (map (λ (r : ℕ). equal (register r) (at_entry r)) list)
    (equal_good W32 (register r) (at_entry r) (register_good r) (at_entry_good r)) (kept_good list)

pub returns_good : (o : Option Scalar) → ResultExtent o → AreTests (return_lines (result_term o))
returns_good o plain = All-append IsTest (result_lines (result_term o)) (map (λ (r : ℕ). equal (register r) (at_entry r)) kept_registers) (by o plain) (kept_good kept_registers)
  where
    by : (o : Option Scalar) → ResultExtent o → AreTests (result_lines (result_term o))
    by None plain = All-nil IsTest
    by (Some type) plain =
        All-cons IsTest (equal (register 10) (widened type (result type))) []
        (equal_good W32 (register 10) (widened type (result type)) (register_good 10) (widened_good type (result type) plain (result_open type) refl)) (All-nil IsTest)

-- memories have the same byte outside the zone
pub byte_good : (q : Pair) → q.stack < 2 ^ 32 → IsTest (same_byte (stated q))
byte_good q small =
    let low = from_good q.stack small in
    let high = at_entry_good 2 in
    or_good (in_zone (stated q)) (equal (load (open_term binary_memory) (open_term address)) (load (open_term source_memory) (open_term address)))
    (and_good (not_term (less (open_term address) (zone_from q.stack))) (less (open_term address) (at_entry 2))
    (not_good (less (open_term address) (zone_from q.stack)) (less_good W32 (open_term address) (zone_from q.stack) address_good low))
    (less_good W32 (open_term address) (at_entry 2) address_good high))
    (equal_good W8 (load (open_term binary_memory) (open_term address)) (load (open_term source_memory) (open_term address))
    (load_good (open_term binary_memory) (open_term address) binary_good address_good) (load_good (open_term source_memory) (open_term address) source_good address_good))

-- ---- what holds at entry

pointer_good : (o : Option ℕ) → IfSome o (λ p. p < 2 ^ 32) → AreTests (global_pointer_lines o)
pointer_good None is = All-nil IsTest
pointer_good (Some p) is = All-cons IsTest (equal (at_entry 3) (word p)) [] (equal_good W32 (at_entry 3) (word p) (at_entry_good 3) (word_good p is)) (All-nil IsTest)

abbrev pub IsBelow : memory.Run → Type 0
IsBelow r = (0 < length r.bytes) × (r.start + length r.bytes ≤ 2 ^ 32)

runs_good : (stack : ℕ) → stack < 2 ^ 32 → (runs : List memory.Run) → All IsBelow runs → AreTests (map (outside_zone stack) (map run_of runs))
runs_good stack small [] all = All-nil IsTest
runs_good stack small (r ∷ runs) all =
    let below = All-head IsBelow r runs all in
    let first = word_good r.start (omega (arith, below.0, below.1)) in
    let last = word_good (r.start + length r.bytes - 1) (omega (arith, below.0, below.1)) in
    All-cons IsTest (outside_zone stack (run_of r)) (map (outside_zone stack) (map run_of runs))
    (or_good (not_term (less (word r.start) (at_entry 2))) (less (word (r.start + length r.bytes - 1)) (zone_from stack))
    (not_good (less (word r.start) (at_entry 2)) (less_good W32 (word r.start) (at_entry 2) first (at_entry_good 2)))
    (less_good W32 (word (r.start + length r.bytes - 1)) (zone_from stack) last (from_good stack small)))
    (runs_good stack small runs (All-tail IsBelow r runs all))

pub premises_good : (q : Pair) → q.stack < 2 ^ 32 → IfSome (global_pointer q.image) (λ p. p < 2 ^ 32) → All IsBelow q.numbering.runs → AreTests (entry_premises q)
premises_good q small pointer below =
    let apart : List Term = if nat_lt 0 q.stack then map (outside_zone q.stack) (map run_of q.numbering.runs) else [] in
    let third : List Term = not_term (less (at_entry 2) (word q.stack)) ∷ (global_pointer_lines (global_pointer q.image) ++ apart) in
    let second : List Term = equal (bit_and (at_entry 2) (word 15)) (word 0) ∷ third in
    All-cons IsTest (equal (bit_and (at_entry 1) (word 3)) (word 0)) second
    (equal_good W32 (bit_and (at_entry 1) (word 3)) (word 0) (masked_good 1 3 (omega arith)) (word_good 0 (omega arith)))
    (All-cons IsTest (equal (bit_and (at_entry 2) (word 15)) (word 0)) third
    (equal_good W32 (bit_and (at_entry 2) (word 15)) (word 0) (masked_good 2 15 (omega arith)) (word_good 0 (omega arith)))
    (All-cons IsTest (not_term (less (at_entry 2) (word q.stack))) (global_pointer_lines (global_pointer q.image) ++ apart)
    (not_good (less (at_entry 2) (word q.stack)) (less_good W32 (at_entry 2) (word q.stack) (at_entry_good 2) (word_good q.stack small)))
    (All-append IsTest (global_pointer_lines (global_pointer q.image)) apart (pointer_good (global_pointer q.image) pointer) (by (nat_lt 0 q.stack)))))
  where
    by : (b : Bool) → AreTests (if b then map (outside_zone q.stack) (map run_of q.numbering.runs) else [])
    by true = runs_good q.stack small q.numbering.runs below
    by false = All-nil IsTest

-- ---- the terms of variables

abbrev IsGoodFact : Fact → Type 0
IsGoodFact fact = IsGood fact.term fact.variable.sort

given_good : (facts : List Fact) (rest : State) → All IsGoodFact facts → IsGoodState rest → IsGoodState (given facts rest)
given_good [] rest all good = good
given_good (fact ∷ facts) rest all good = λ v plain.
    put_good v fact.variable fact.term (given facts rest v) (All-head IsGoodFact fact facts all) (given_good facts rest (All-tail IsGoodFact fact facts all) good v plain)

one_fact : (v : Variable) (t : Term) (facts : List Fact) → IsGood t v.sort → All IsGoodFact facts → All IsGoodFact (record { variable = v; term = t } ∷ facts)
one_fact v t facts is rest = All-cons IsGoodFact (record { variable = v; term = t }) facts is rest

arguments_good : (number : ℕ) (types : List Scalar) → All IsPlainType types → All IsGoodFact (argument_facts number types)
arguments_good number [] are = All-nil IsGoodFact
arguments_good number (type ∷ types) are =
    one_fact (code.register (10 + number)) (widened type (parameter number type)) (argument_facts (suc number) types)
    (widened_good type (parameter number type) (All-head IsPlainType type types are) (parameter_good number type) refl)
    (arguments_good (suc number) types (All-tail IsPlainType type types are))

registers_good : (list : List ℕ) → All IsGoodFact (map (λ (r : ℕ). record { variable = code.register r; term = at_entry r }) list)
registers_good [] = All-nil IsGoodFact
registers_good (r ∷ list) =
    one_fact (code.register r) (at_entry r) (map (λ (r : ℕ). record { variable = code.register r; term = at_entry r }) list) (at_entry_good r) (registers_good list)

locals_good : (number : ℕ) (parameters locals : List Scalar) → All IsGoodFact (local_facts number parameters locals)
locals_good number parameters [] = All-nil IsGoodFact
locals_good number [] (type ∷ locals) =
    one_fact (is_set number) (truth false) (local_facts (suc number) [] locals) (truth_good false) (locals_good (suc number) [] locals)
locals_good number (parameter_type ∷ parameters) (type ∷ locals) =
    one_fact (is_set number) (truth true) (record { variable = local number parameter_type; term = open_term (parameter number parameter_type) } ∷ local_facts (suc number) parameters locals)
    (truth_good true)
    (one_fact (local number parameter_type) (open_term (parameter number parameter_type)) (local_facts (suc number) parameters locals)
    (parameter_good number parameter_type) (locals_good (suc number) parameters locals))

pub cut_binary_good : (q : Pair) → q.stack < 2 ^ 32 → IsGoodState (at_cut (stated q)).binary
cut_binary_good q small v plain =
    put_good v binary_memory (over (open_term source_memory) (open_term zone_memory) (zone_from q.stack) (at_entry 2)) (open_term v)
    (over_good (open_term source_memory) (open_term zone_memory) (zone_from q.stack) (at_entry 2) source_good zone_good (from_good q.stack small) (at_entry_good 2))
    (open_good v plain)

pub cut_source_good : (q : Pair) → q.stack < 2 ^ 32 → IsGoodState (at_cut (stated q)).source
cut_source_good q small v plain =
    put_good v zone_low (zone_from q.stack) (if same_variable v zone_high then at_entry 2 else open_term v) (from_good q.stack small)
    (put_good v zone_high (at_entry 2) (open_term v) (at_entry_good 2) (open_good v plain))

pub binary_state_good : (q : Pair) → q.stack < 2 ^ 32 → All IsPlainType q.body.signature.parameters → IsGoodState (entry_opening q no_zone).binary
binary_state_good q small plain =
    given_good (binary_facts q) (at_cut (stated q)).binary
    (All-append IsGoodFact (argument_facts 0 q.body.signature.parameters) (map (λ (r : ℕ). record { variable = code.register r; term = at_entry r }) registers)
    (arguments_good 0 q.body.signature.parameters plain) (registers_good registers)) (cut_binary_good q small)

pub source_state_good : (q : Pair) → q.stack < 2 ^ 32 → IsGoodState (entry_opening q no_zone).source
source_state_good q small =
    given_good (source_facts q) open_term
    (All-append IsGoodFact (local_facts 0 q.body.signature.parameters q.body.locals) (zone_facts q.stack) (locals_good 0 q.body.signature.parameters q.body.locals)
    (one_fact zone_low (zone_from q.stack) (record { variable = zone_high; term = at_entry 2 } ∷ []) (from_good q.stack small)
    (one_fact zone_high (at_entry 2) [] (at_entry_good 2) (All-nil IsGoodFact)))) (λ v plain. open_good v plain)

-- ---- both sides

pub sides_good : (binary source others : State) → IsGoodState binary → IsGoodState source → IsGoodState others → IsGoodState (of_sides binary source others)
sides_good binary source others x y z v plain =
    either_good (is_binary v.family) v.sort (binary v) (if is_source v.family then source v else others v) (λ h. x v plain)
    (either_good (is_source v.family) v.sort (source v) (others v) (λ h. y v plain) (z v plain))

pub start_good : (o : Opening) → IsGoodState o.binary → IsGoodState o.source → IsGoodState (terms_at_start o)
start_good o x y = sides_good o.binary o.source open_term x y (λ v plain. open_good v plain)

pub point_good : (binary source : State) → IsGoodState binary → IsGoodState source → IsGoodState (terms_at binary source)
point_good binary source x y =
    sides_good binary source _ x y
    (λ v plain. put_good v zone_memory (binary binary_memory) (open_term v) (x binary_memory (other_plain family.BinaryMemory 0 0 Memory (λ h. cc))) (open_good v plain))
