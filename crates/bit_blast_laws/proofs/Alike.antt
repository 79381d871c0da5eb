-- Loads that are tied: of one memory at equal addresses they have equal bytes.
use Rattle.std.proofs.Common.{◌≡◌, ℕ, Bool, true, false, List, [], ◌∷◌, ◌++◌, length, refl, ap, sym, ◌∙◌, subst, ◌⊎◌, inl, inr, arith}
use Rattle.std.specs.Prelude.{◌==◌, ◌+◌, ◌*◌, ◌||◌, not, if◌then◌else◌, filter}
use Rattle.clause_check_spec.specs.declared.Literal.{Literal}
use Rattle.clause_check_spec.specs.Clause.{Valuation, holds, negation}
use Rattle.term_core_spec.specs.declared.BinaryOperator.TheVariants as binary
use Rattle.term_core_spec.specs.Term.{Term, Leaf, Unary, Binary, Ternary, Quaternary, Octonary}
use Rattle.term_core_spec.specs.Same.{same_term}
use Rattle.term_core_spec.proofs.Same.{same_is, same_itself}
use Rattle.bit_blast_spec.specs.Gates.{last_of, claims}
use Rattle.bit_blast_spec.specs.Circuits.{Bits, equal_bits}
use Rattle.bit_blast_spec.specs.Goal.{Table, Load, bits_in, with_load, loads_of, equal_where, tie, tie_all, is_of_memory, memories_of, tie_memories}
use Rattle.bit_blast_laws.specs.Meaning.{digit, number_of, AllHold}
use Rattle.bit_blast_laws.proofs.Gates.{hold_parts, holds-negation}
use Rattle.bit_blast_laws.proofs.Bitwise.{equal_holds}
use Rattle.bit_blast_laws.specs.Back.{first_byte, loads_from}

abbrev IsLong : Load → Type 0
IsLong load = (length load.address ≡ 32) × (length load.byte ≡ 8)

abbrev pub AllLong : List Load → Type 0
AllLong [] = Unit {0}
AllLong (load ∷ loads) = IsLong load × AllLong loads

abbrev Alike : Valuation → Load → Load → Type 0
Alike values a b = number_of values a.address ≡ number_of values b.address → number_of values a.byte ≡ number_of values b.byte

abbrev AllAlike : Valuation → Load → List Load → Type 0
AllAlike values load [] = Unit {0}
AllAlike values load (later ∷ loads) = Alike values load later × AllAlike values load loads

abbrev Pairs : Valuation → List Load → Type 0
Pairs values [] = Unit {0}
Pairs values (load ∷ loads) = AllAlike values load loads × Pairs values loads

abbrev pub In : {A : Type 0} → A → List A → Type 0
In x [] = ⊥
In x (y ∷ ys) = (y ≡ x) ⊎ In x ys

-- ---- clauses that are satisfied

agreed : (s x y : Bool) → s ≡ false → (s || (not x || (y || false))) ≡ true → (s || (x || (not y || false))) ≡ true → x ≡ y
agreed true x y e h k = cc
agreed false true true e h k = refl
agreed false true false e h k = cc
agreed false false true e h k = cc
agreed false false false e h k = refl

where_alike : (values : Valuation) (same : Literal) (xs ys : Bits) (last : ℕ) → length xs ≡ length ys → holds values same ≡ true
    → AllHold values last (claims (equal_where same xs ys)) → number_of values xs ≡ number_of values ys
where_alike values same [] [] last long e hold = refl
where_alike values same [] (y ∷ ys) last long e hold = cc
where_alike values same (x ∷ xs) [] last long e hold = cc
where_alike values same (x ∷ xs) (y ∷ ys) last long e hold =
    let s = holds values (negation same) in
    let head =
    agreed s (holds values x) (holds values y) (holds-negation values same ∙ ap not e)
    (ap (λ b. s || (b || (holds values y || false))) (sym (holds-negation values x)) ∙ hold.0)
    (ap (λ b. s || (holds values x || (b || false))) (sym (holds-negation values y)) ∙ hold.1.0)
    in
    let shorter : length xs ≡ length ys = omega (arith, long) in
    ap (λ b. digit b + 2 * number_of values xs) head ∙ ap (λ n. digit (holds values y) + 2 * n) (where_alike values same xs ys last shorter e hold.1.1)

is_same : (a b : ℕ) → a ≡ b → (a == b) ≡ true
is_same a b e = grind arith

is_equal : (a b : ℕ) → (a == b) ≡ true → a ≡ b
is_equal a b e = grind arith

tie_alike : (values : Valuation) → values 1 ≡ true → (load : Load) (loads : List Load) (last : ℕ) → IsLong load → AllLong loads
    → AllHold values last (tie load loads last).gates → AllAlike values load loads
unfolding tie
tie_alike values truth load [] last long all hold = tt
tie_alike values truth load (later ∷ loads) last long all hold =
    let same = equal_bits load.address later.address last in
    let first = last_of last same.gates in
    let rules = equal_where same.out load.byte later.byte in
    let second = last_of first (claims rules) in
    let rest = tie load loads second in
    let one = hold_parts values last same.gates (claims rules ++ rest.gates) hold in
    let two = hold_parts values first (claims rules) rest.gates one.1 in
    let compared = equal_holds values load.address later.address last (long.0 ∙ sym all.0.0) truth one.0 in (
      λ e. where_alike values same.out load.byte later.byte first (long.1 ∙ sym all.0.1)
          (compared ∙ is_same (number_of values load.address) (number_of values later.address) e) two.0,
      tie_alike values truth load loads second long all.1 two.1,
    )

ties_alike : (values : Valuation) → values 1 ≡ true → (loads : List Load) (last : ℕ) → AllLong loads
    → AllHold values last (tie_all loads last).gates → Pairs values loads
unfolding tie_all
ties_alike values truth [] last all hold = tt
ties_alike values truth (load ∷ loads) last all hold =
    let own = tie load loads last in
    let after = last_of last own.gates in
    let parts = hold_parts values last own.gates (tie_all loads after).gates hold in
    (tie_alike values truth load loads last all.0 all.1 parts.0, ties_alike values truth loads after all.1 parts.1)

if_long : (load : Load) (loads : List Load) (b : Bool) → IsLong load → AllLong loads → AllLong (if b then load ∷ loads else loads)
if_long load loads true long all = (long, all)
if_long load loads false long all = all

long_filter : (memory : Term) (loads : List Load) → AllLong loads → AllLong (filter (is_of_memory memory) loads)
long_filter memory [] all = tt
long_filter memory (load ∷ loads) all =
    if_long load (filter (is_of_memory memory) loads) (is_of_memory memory load) all.0 (long_filter memory loads all.1)

memories_alike : (values : Valuation) → values 1 ≡ true → (memory : Term) (memories : List Term) (loads : List Load) (last : ℕ) → AllLong loads → In memory memories
    → AllHold values last (tie_memories memories loads last).gates → Pairs values (filter (is_of_memory memory) loads)
unfolding tie_memories
memories_alike values truth memory [] loads last all here hold = absurd here
memories_alike values truth memory (other ∷ memories) loads last all (inl e) hold =
    let own = tie_all (filter (is_of_memory other) loads) last in
    let after = last_of last own.gates in
    let parts = hold_parts values last own.gates (tie_memories memories loads after).gates hold in
    subst (λ m. Pairs values (filter (is_of_memory m) loads)) e (ties_alike values truth (filter (is_of_memory other) loads) last (long_filter other loads all) parts.0)
memories_alike values truth memory (other ∷ memories) loads last all (inr h) hold =
    let own = tie_all (filter (is_of_memory other) loads) last in
    let after = last_of last own.gates in
    let parts = hold_parts values last own.gates (tie_memories memories loads after).gates hold in
    memories_alike values truth memory memories loads after all h parts.1

-- ---- where a load is

kept_first : {A : Type 0} (b : Bool) (x y : A) (rest : List A) → b ≡ true → y ≡ x → In x (if b then y ∷ rest else rest)
kept_first true x y rest h e = inl e
kept_first false x y rest h e = absurd (cc)

kept_rest : {A : Type 0} (b : Bool) (x y : A) (rest : List A) → In x rest → In x (if b then y ∷ rest else rest)
kept_rest true x y rest h = inr h
kept_rest false x y rest h = h

in_filter : (memory : Term) (load : Load) (loads : List Load) → load.memory ≡ memory → In load loads → In load (filter (is_of_memory memory) loads)
in_filter memory load [] f here = absurd here
in_filter memory load (other ∷ loads) f (inl e) =
    kept_first (is_of_memory memory other) load other (filter (is_of_memory memory) loads)
    (ap (λ t. same_term t memory) (ap (λ (l : Load). l.memory) e ∙ f) ∙ same_itself memory) e
in_filter memory load (other ∷ loads) f (inr h) =
    kept_rest (is_of_memory memory other) load other (filter (is_of_memory memory) loads) (in_filter memory load loads f h)

in_other : (y x : Term) (terms : List Term) → same_term y x ≡ false → In x terms → In x (filter (λ memory. if same_term y memory then false else true) terms)
in_other y x [] f here = absurd here
in_other y x (z ∷ terms) f (inl e) =
    kept_first (if same_term y z then false else true) x z (filter (λ memory. if same_term y memory then false else true) terms)
    (ap (λ b. if b then false else true) (ap (λ t. same_term y t) e ∙ f)) e
in_other y x (z ∷ terms) f (inr h) =
    kept_rest (if same_term y z then false else true) x z (filter (λ memory. if same_term y memory then false else true) terms) (in_other y x terms f h)

by_same : (y x : Term) (terms : List Term) (b : Bool) → same_term y x ≡ b → In x terms → In x (y ∷ filter (λ memory. if same_term y memory then false else true) terms)
by_same y x terms true e h = inl (same_is y x e)
by_same y x terms false e h = inr (in_other y x terms e h)

in_memories : (load : Load) (loads : List Load) → In load loads → In load.memory (memories_of loads)
in_memories load [] here = absurd here
in_memories load (other ∷ loads) (inl e) = inl (ap (λ (l : Load). l.memory) e)
in_memories load (other ∷ loads) (inr h) =
    by_same other.memory load.memory (memories_of loads) (same_term other.memory load.memory) refl (in_memories load loads h)

in_with : (table : Table) (load : Load) (entry : Term × Bits) (loads : List Load) → In load loads → In load (with_load table entry loads)
in_with table load (Binary binary.Load memory address, byte) loads h = inr h
in_with table load (Binary binary.And x y, byte) loads h = h
in_with table load (Binary binary.Or x y, byte) loads h = h
in_with table load (Binary binary.Equal x y, byte) loads h = h
in_with table load (Binary binary.Less x y, byte) loads h = h
in_with table load (Binary (binary.Word operator) x y, byte) loads h = h
in_with table load (Binary binary.Join x y, byte) loads h = h
in_with table load (Leaf leaf, byte) loads h = h
in_with table load (Unary operator x, byte) loads h = h
in_with table load (Ternary operator x y z, byte) loads h = h
in_with table load (Quaternary operator a b c d, byte) loads h = h
in_with table load (Octonary a b c d e f g i, byte) loads h = h

in_loads : (table before more : Table) (memory address : Term) (byte : Bits)
    → In (record { memory = memory; address = bits_in table address; byte = byte }) (loads_of table (before ++ (Binary binary.Load memory address, byte) ∷ more))
in_loads table [] more memory address byte = inl refl
in_loads table (entry ∷ before) more memory address byte =
    in_with table (record { memory = memory; address = bits_in table address; byte = byte }) entry
    (loads_of table (before ++ (Binary binary.Load memory address, byte) ∷ more)) (in_loads table before more memory address byte)

-- ---- the byte that is found

either : (b : Bool) (x y z : ℕ) → (b ≡ true → x ≡ z) → y ≡ z → (if b then x else y) ≡ z
either true x y z f g = f refl
either false x y z f g = g

alike_in : (values : Valuation) (other load : Load) (loads : List Load) → In load loads → AllAlike values other loads → Alike values other load
alike_in values other load [] here all = absurd here
alike_in values other load (later ∷ loads) (inl e) all = subst (λ l. Alike values other l) e all.0
alike_in values other load (later ∷ loads) (inr h) all = alike_in values other load loads h all.1

first_found : (values : Valuation) (load : Load) (loads : List Load) → In load loads → Pairs values loads
    → first_byte values (number_of values load.address) loads ≡ number_of values load.byte
first_found values load [] here pairs = absurd here
first_found values load (other ∷ loads) (inl e) pairs =
    subst (λ (l : Load). first_byte values (number_of values l.address) (other ∷ loads) ≡ number_of values l.byte) e
    (ap (λ b. if b then number_of values other.byte else first_byte values (number_of values other.address) loads)
    (is_same (number_of values other.address) (number_of values other.address) refl))
first_found values load (other ∷ loads) (inr h) pairs =
    either (number_of values other.address == number_of values load.address) (number_of values other.byte)
    (first_byte values (number_of values load.address) loads) (number_of values load.byte)
    (λ e. alike_in values other load loads h pairs.0 (is_equal (number_of values other.address) (number_of values load.address) e))
    (first_found values load loads h pairs.1)

pub byte_found : (values : Valuation) → values 1 ≡ true → (table before more : Table) (memory address : Term) (byte : Bits) (last : ℕ)
    → table ≡ before ++ (Binary binary.Load memory address, byte) ∷ more → AllLong (loads_of table table)
    → AllHold values last (tie_memories (memories_of (loads_of table table)) (loads_of table table) last).gates
    → first_byte values (number_of values (bits_in table address)) (loads_from memory table) ≡ number_of values byte
byte_found values truth table before more memory address byte last e long hold =
    let load : Load = record { memory = memory; address = bits_in table address; byte = byte } in
    let here : In load (loads_of table table) = subst (λ t. In load (loads_of table t)) (sym e) (in_loads table before more memory address byte) in
    first_found values load (loads_from memory table) (in_filter memory load (loads_of table table) refl here)
    (memories_alike values truth memory (memories_of (loads_of table table)) (loads_of table table) last long (in_memories load (loads_of table table) here) hold)
