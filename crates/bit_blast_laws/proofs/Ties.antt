-- The clauses that tie the loads of one memory are satisfied.
use Rattle.std.proofs.Common.{◌≡◌, ℕ, Bool, true, false, List, [], ◌∷◌, ◌++◌, length, refl, ap, sym, ◌∙◌, arith}
use Rattle.std.specs.Prelude.{◌==◌, ◌||◌, not, if◌then◌else◌, filter}
use Rattle.clause_check_spec.specs.declared.Literal.{Literal}
use Rattle.clause_check_spec.specs.Clause.{Valuation, holds, negation}
use Rattle.term_core_spec.specs.declared.Width.TheVariants.{W32}
use Rattle.term_core_spec.specs.declared.Sort.TheVariants as sort
use Rattle.term_core_spec.specs.declared.BinaryOperator.TheVariants as binary
use Rattle.term_core_spec.specs.Term.{Term, Leaf, Unary, Binary, Ternary, Quaternary, Octonary}
use Rattle.term_core_spec.specs.Value.{Value, Truth, Number, Bytes, IsOfSort, Assignment, IsAssignment, low_bits, loaded, value, binary_value}
use Rattle.term_core_spec.specs.Same.{same_term}
use Rattle.term_core_spec.proofs.Soundness.{value-sort, at_word, at_memory}
use Rattle.term_core_spec.proofs.Same.{same_is}
use Rattle.bit_blast_spec.specs.Gates.{last_of, claims}
use Rattle.bit_blast_spec.specs.Circuits.{Bits, equal_bits}
use Rattle.bit_blast_spec.specs.Goal.{Table, Load, bits_in, loads_of, equal_where, tie, tie_all, is_of_memory, tie_memories}
use Rattle.bit_blast_laws.specs.Meaning.{number_of, AllHold}
use Rattle.bit_blast_laws.proofs.Gates.{holds-negation}
use Rattle.bit_blast_laws.proofs.Bitwise.{equal_holds}
use Rattle.bit_blast_laws.specs.Shows.{Shows, AllShow}
use Rattle.bit_blast_laws.proofs.Tables.{shown_there}
use Rattle.bit_blast_laws.proofs.Settled.{AllSettle}
use Rattle.bit_blast_laws.proofs.Every.{every_equal}
use Rattle.bit_blast_laws.proofs.Bare.{IsNoClaim, bare, bare_hold, settled_parts, hold_both}
use Rattle.bit_blast_laws.proofs.Divisions.{same_head, AllSatisfied, claims_hold, by_first}
use Rattle.bit_blast_laws.proofs.Loaded.{Loaded, AllLoaded}

-- ---- the value of a load

-- the byte at an address of a memory
pub byte_at : Value → (address : ℕ) → ℕ
byte_at (Bytes bytes) address = bytes (low_bits 32 address)
byte_at (Truth truth) address = 0
byte_at (Number width number) address = 0

-- the address has 32 bits, and the byte has the 8 of the memory there
pub record Means (values : Valuation) (assignment : Assignment) (load : Load) : Type 0 where
  pub long_address : length load.address ≡ 32
  pub long_byte : length load.byte ≡ 8
  pub is : number_of values load.byte ≡ byte_at (value assignment load.memory) (number_of values load.address)

unfoldable pub AllMean : Valuation → Assignment → List Load → Type 0
AllMean values assignment [] = Unit {0}
AllMean values assignment (load ∷ loads) = Means values assignment load × AllMean values assignment loads

load_shows : (values : Valuation) (m x : Value) (address byte : Bits) → IsOfSort sort.Memory m → IsOfSort (sort.Word W32) x
    → Shows values x address → Shows values (loaded m x) byte
    → (length address ≡ 32) × (length byte ≡ 8) × (number_of values byte ≡ byte_at m (number_of values address))
unfolding byte_at
load_shows values m x address byte of_memory of_word =
    at_memory (λ u. Shows values x address → Shows values (loaded u x) byte
    → (length address ≡ 32) × (length byte ≡ 8) × (number_of values byte ≡ byte_at u (number_of values address))) m of_memory
    (λ bytes below.
    at_word (λ v. Shows values v address → Shows values (loaded (Bytes bytes) v) byte
    → (length address ≡ 32) × (length byte ≡ 8) × (number_of values byte ≡ bytes (low_bits 32 (number_of values address)))) W32 x of_word
    (λ n small shown here. (shown.0, here.0, here.1 ∙ ap (λ a. bytes (low_bits 32 a)) (sym shown.1))))

load_means : (values : Valuation) (assignment : Assignment) → IsAssignment assignment → (table : Table) (memory address : Term) (byte : Bits)
    → AllShow values assignment table → Loaded table memory address → Shows values (value assignment (Binary binary.Load memory address)) byte
    → Means values assignment (record { memory = memory; address = bits_in table address; byte = byte })
unfolding value binary_value
load_means values assignment h table memory address byte all known here =
    let found =
    load_shows values (value assignment memory) (value assignment address) (bits_in table address) byte
    (value-sort assignment h memory sort.Memory known.from) (value-sort assignment h address (sort.Word W32) known.at)
    (shown_there values assignment address table all known.there) here
    in
    record { long_address = found.0; long_byte = found.1; is = found.2 }

pub loads_mean : (values : Valuation) (assignment : Assignment) → IsAssignment assignment → (table entries : Table) → AllShow values assignment table
    → AllLoaded table entries → AllShow values assignment entries → AllMean values assignment (loads_of table entries)
unfolding AllMean
loads_mean values assignment h table [] all known shows = tt
loads_mean values assignment h table ((Binary binary.Load memory address, byte) ∷ entries) all known shows =
    (load_means values assignment h table memory address byte all known.0 shows.0, loads_mean values assignment h table entries all known.1 shows.1)
loads_mean values assignment h table ((Binary binary.And x y, found) ∷ entries) all known shows = loads_mean values assignment h table entries all known.1 shows.1
loads_mean values assignment h table ((Binary binary.Or x y, found) ∷ entries) all known shows = loads_mean values assignment h table entries all known.1 shows.1
loads_mean values assignment h table ((Binary binary.Equal x y, found) ∷ entries) all known shows = loads_mean values assignment h table entries all known.1 shows.1
loads_mean values assignment h table ((Binary binary.Less x y, found) ∷ entries) all known shows = loads_mean values assignment h table entries all known.1 shows.1
loads_mean values assignment h table ((Binary (binary.Word operator) x y, found) ∷ entries) all known shows = loads_mean values assignment h table entries all known.1 shows.1
loads_mean values assignment h table ((Binary binary.Join x y, found) ∷ entries) all known shows = loads_mean values assignment h table entries all known.1 shows.1
loads_mean values assignment h table ((Leaf leaf, found) ∷ entries) all known shows = loads_mean values assignment h table entries all known.1 shows.1
loads_mean values assignment h table ((Unary operator x, found) ∷ entries) all known shows = loads_mean values assignment h table entries all known.1 shows.1
loads_mean values assignment h table ((Ternary operator x y z, found) ∷ entries) all known shows = loads_mean values assignment h table entries all known.1 shows.1
loads_mean values assignment h table ((Quaternary operator a b c d, found) ∷ entries) all known shows = loads_mean values assignment h table entries all known.1 shows.1
loads_mean values assignment h table ((Octonary a b c d e f g i, found) ∷ entries) all known shows = loads_mean values assignment h table entries all known.1 shows.1

-- ---- clauses where addresses are equal

first_rule : (s x y : Bool) → x ≡ y → (s || (not x || (y || false))) ≡ true
first_rule true x y e = refl
first_rule false true true e = refl
first_rule false true false e = cc
first_rule false false y e = refl

second_rule : (s x y : Bool) → x ≡ y → (s || (x || (not y || false))) ≡ true
second_rule true x y e = refl
second_rule false true y e = refl
second_rule false false true e = cc
second_rule false false false e = refl

-- where the addresses differ these clauses say nothing
unlike_satisfied : (values : Valuation) (same : Literal) (xs ys : Bits) → holds values (negation same) ≡ true → AllSatisfied values (equal_where same xs ys)
unfolding AllSatisfied
unlike_satisfied values same [] ys e = tt
unlike_satisfied values same (x ∷ xs) [] e = tt
unlike_satisfied values same (x ∷ xs) (y ∷ ys) e =
    (by_first (holds values (negation same)) _ e, (by_first (holds values (negation same)) _ e, unlike_satisfied values same xs ys e))

like_satisfied : (values : Valuation) (same : Literal) (xs ys : Bits) → number_of values xs ≡ number_of values ys → AllSatisfied values (equal_where same xs ys)
unfolding AllSatisfied
like_satisfied values same [] ys e = tt
like_satisfied values same (x ∷ xs) [] e = tt
like_satisfied values same (x ∷ xs) (y ∷ ys) e =
    let head = same_head (holds values x) (holds values y) (number_of values xs) (number_of values ys) e in
    let s = holds values (negation same) in (
      ap (λ b. s || (b || (holds values y || false))) (holds-negation values x) ∙ first_rule s (holds values x) (holds values y) head.0,
      (
        ap (λ b. s || (holds values x || (b || false))) (holds-negation values y) ∙ second_rule s (holds values x) (holds values y) head.0,
        like_satisfied values same xs ys head.1,
      ),
    )

where_satisfied : (values : Valuation) (same : Literal) (xs ys : Bits) (b : Bool) → holds values same ≡ b
    → (b ≡ true → number_of values xs ≡ number_of values ys) → AllSatisfied values (equal_where same xs ys)
where_satisfied values same xs ys true e equal = like_satisfied values same xs ys (equal refl)
where_satisfied values same xs ys false e equal = unlike_satisfied values same xs ys (holds-negation values same ∙ ap not e)

-- ---- loads of one memory

pub AllOf : Valuation → Assignment → Term → List Load → Type 0
AllOf values assignment memory [] = Unit {0}
AllOf values assignment memory (load ∷ loads) = (load.memory ≡ memory) × Means values assignment load × AllOf values assignment memory loads

if_of : (values : Valuation) (assignment : Assignment) (memory : Term) (load : Load) (loads : List Load) (b : Bool) → same_term load.memory memory ≡ b
    → Means values assignment load → AllOf values assignment memory loads → AllOf values assignment memory (if b then load ∷ loads else loads)
unfolding AllOf
if_of values assignment memory load loads true e here all = (same_is load.memory memory e, here, all)
if_of values assignment memory load loads false e here all = all

of_memory : (values : Valuation) (assignment : Assignment) (memory : Term) (loads : List Load) → AllMean values assignment loads
    → AllOf values assignment memory (filter (is_of_memory memory) loads)
unfolding AllMean AllOf
of_memory values assignment memory [] all = tt
of_memory values assignment memory (load ∷ loads) all =
    if_of values assignment memory load (filter (is_of_memory memory) loads) (same_term load.memory memory) refl all.0
    (of_memory values assignment memory loads all.1)

is_equal : (a b : ℕ) → (a == b) ≡ true → a ≡ b
is_equal a b e = grind arith

-- bytes of one memory at equal addresses
same_bytes : (values : Valuation) (assignment : Assignment) (memory : Term) (load later : Load) → load.memory ≡ memory → later.memory ≡ memory
    → Means values assignment load → Means values assignment later → number_of values load.address ≡ number_of values later.address
    → number_of values load.byte ≡ number_of values later.byte
same_bytes values assignment memory load later e f means also same =
    means.is ∙ ap (λ a. byte_at (value assignment load.memory) a) same
    ∙ ap (λ m. byte_at (value assignment m) (number_of values later.address)) (e ∙ sym f) ∙ sym also.is

tie_settles : (values : Valuation) (assignment : Assignment) → values 1 ≡ true → (memory : Term) (load : Load) (loads : List Load) (last : ℕ)
    → load.memory ≡ memory → Means values assignment load → AllOf values assignment memory loads
    → AllSettle assignment values last (tie load loads last).gates → AllHold values last (tie load loads last).gates
unfolding tie AllOf
tie_settles values assignment truth memory load [] last e means all settle = tt
tie_settles values assignment truth memory load (later ∷ loads) last e means all settle =
    let same = equal_bits load.address later.address last in
    let first = last_of last same.gates in
    let rules = equal_where same.out load.byte later.byte in
    let second = last_of first (claims rules) in
    let rest = tie load loads second in
    let one = settled_parts assignment values last same.gates (claims rules ++ rest.gates) settle in
    let two = settled_parts assignment values first (claims rules) rest.gates one.1 in
    let own = bare_hold assignment values last same.gates (every_equal IsNoClaim bare load.address later.address last) one.0 in
    let compared = equal_holds values load.address later.address last (means.long_address ∙ sym all.1.long_address) truth own in
    let satisfied =
    where_satisfied values same.out load.byte later.byte (number_of values load.address == number_of values later.address) compared
    (λ equal.
    same_bytes values assignment memory load later e all.0 means all.1 (is_equal (number_of values load.address) (number_of values later.address) equal))
    in
    hold_both values last same.gates (claims rules ++ rest.gates) own
    (hold_both values first (claims rules) rest.gates (claims_hold values first rules satisfied)
    (tie_settles values assignment truth memory load loads second e means all.2 two.1))

ties_settle : (values : Valuation) (assignment : Assignment) → values 1 ≡ true → (memory : Term) (loads : List Load) (last : ℕ)
    → AllOf values assignment memory loads → AllSettle assignment values last (tie_all loads last).gates → AllHold values last (tie_all loads last).gates
unfolding tie_all AllOf
ties_settle values assignment truth memory [] last all settle = tt
ties_settle values assignment truth memory (load ∷ loads) last all settle =
    let own = tie load loads last in
    let after = last_of last own.gates in
    let parts = settled_parts assignment values last own.gates (tie_all loads after).gates settle in
    hold_both values last own.gates (tie_all loads after).gates
    (tie_settles values assignment truth memory load loads last all.0 all.1 all.2 parts.0)
    (ties_settle values assignment truth memory loads after all.2 parts.1)

pub memories_settle : (values : Valuation) (assignment : Assignment) → values 1 ≡ true → (memories : List Term) (loads : List Load) (last : ℕ)
    → AllMean values assignment loads → AllSettle assignment values last (tie_memories memories loads last).gates
    → AllHold values last (tie_memories memories loads last).gates
unfolding tie_memories
memories_settle values assignment truth [] loads last all settle = tt
memories_settle values assignment truth (memory ∷ memories) loads last all settle =
    let of_one = filter (is_of_memory memory) loads in
    let own = tie_all of_one last in
    let after = last_of last own.gates in
    let parts = settled_parts assignment values last own.gates (tie_memories memories loads after).gates settle in
    hold_both values last own.gates (tie_memories memories loads after).gates
    (ties_settle values assignment truth memory of_one last (of_memory values assignment memory loads all) parts.0)
    (memories_settle values assignment truth memories loads after all parts.1)
