-- The facts of the opening hold of both sides' variables at the entry, and these are like those of the C call.
use Rattle.std.proofs.Common.{◌≡◌, ◌∙◌, ℕ, ◌+◌, ◌-◌, ◌^◌, ◌<◌, ◌≤◌, ◌==◌, ◌&&◌, zero, suc, Bool, true, false, not, List, [], ◌∷◌, ◌++◌, length, map, slice_get, get_or, nat_lt, Option, Some, None, refl, sym, ap, subst, arith}
use Rattle.std.specs.Prelude.{ℤ, IsTrue, ⊤}
use Rattle.std.specs.List.{All}
use Rattle.std.proofs.lemmas.Bool.{lt-ltb, le-ltb, eq-eqb, or_right}
use Rattle.std.proofs.lemmas.List.Elements.{All-append, All-head, All-tail}
use Rattle.std.proofs.Math.Nat.{mod-eq_of_lt}
use Rattle.memory_spec.specs.Memory.{Memory, byte_at}
use Rattle.memory_spec.specs.Zones.{Zone}
use Rattle.rv_machine_spec.specs.Arithmetic as machine
use Rattle.term_core_spec.specs.declared.Width.{Width}
use Rattle.term_core_spec.specs.declared.Width.TheVariants.{W32}
use Rattle.term_core_spec.specs.Sort.{bits}
use Rattle.term_core_spec.specs.Term.{Term, equal, open_term, truth}
use Rattle.term_core_spec.specs.Value.{Truth, Number, Bytes, Assignment, value, binary_value, low_bits}
use Rattle.term_core_spec.proofs.Sorts.{same_width-same}
use Rattle.path_cond_spec.specs.Passages.{holds}
use Rattle.graph_core_spec.specs.Run.{is_truth}
use Rattle.decompile_spec.specs.State as code
use Rattle.decompile_laws.proofs.Values.{same_truth_evaluates}
use Rattle.c_types_spec.specs.declared.Scalar.{Scalar}
use Rattle.c_types_spec.specs.Values.{bits_of, is_of}
use Rattle.c_run_spec.specs.Calls.{locals_at_entry}
use Rattle.c_graph_spec.specs.State.{width_of, local, is_set, zone_low, zone_high}
use Rattle.c_graph_laws.proofs.Extents.{IsPlain, full, scalar}
use Rattle.c_graph_laws.specs.Together.{Alike, HasLocal, unset, set}
use Rattle.c_graph_laws.proofs.Divisions.{at_width_is}
use Rattle.c_graph_laws.proofs.Bits.{bits_resized, bits_below, value_back}
use Rattle.sim_rules_spec.specs.Points.{values_at, same_byte, binary_memory}
use Rattle.sim_rules_spec.specs.Calling as calling
use Rattle.validity_spec.specs.Convention.{argument_words}
use Rattle.validity_spec.specs.Claim.{HaveTypes}
use Rattle.agreement_laws.specs.EntryFrame.{Pair, Fact, convention_of, lines_of, parameter, widened, argument_facts, registers, binary_facts, local_facts, zone_facts, source_facts}
use Rattle.agreement_laws.specs.Statements.{binary_entry, source_entry}
use Rattle.agreement_laws.proofs.Assigned.{source_values, source_sorted, low_word}
use Rattle.agreement_laws.proofs.Premises.{all_more}
use Rattle.agreement_laws.proofs.ReadBack.{open_value, zone_from_is, line_value, bits_word}

-- ---- lines

pub equal_itself : (s : Assignment) (x y : Term) (w : Width) (n : ℕ) → value s x ≡ Number w n → value s y ≡ Number w n → holds s (equal x y) ≡ true
unfolding value binary_value
equal_itself s x y w n ex ey = rw (ex, ey, same_width-same w, eq-eqb n n refl) refl

same_truth : (s : Assignment) (x y : Term) (b : Bool) → value s x ≡ Truth b → value s y ≡ Truth b → holds s (equal x y) ≡ true
same_truth s x y true ex ey = ap is_truth (same_truth_evaluates s x y true true ex ey)
same_truth s x y false ex ey = ap is_truth (same_truth_evaluates s x y false false ex ey)

truth_value : (s : Assignment) (b : Bool) → value s (truth b) ≡ Truth b
unfolding value
truth_value s b = refl

abbrev pub FactHolds : Assignment → Fact → Type 0
FactHolds s fact = holds s (equal (open_term fact.variable) fact.term) ≡ true

pub all_lines : (s : Assignment) (facts : List Fact) → All (FactHolds s) facts → All (λ (line : Term). holds s line ≡ true) (lines_of facts)
all_lines s [] all = λ i d lt. absurd (omega (arith, lt))
all_lines s (fact ∷ facts) all =
    all_more (λ (line : Term). holds s line ≡ true) (equal (open_term fact.variable) fact.term) (lines_of facts) (All-head (FactHolds s) fact facts all)
    (all_lines s facts (All-tail (FactHolds s) fact facts all))

none_of : {X : Type 0} (P : X → Type 0) → All P []
none_of P = λ i d lt. absurd (omega (arith, lt))

-- ---- arguments

-- the values are of the first of these types
abbrev pub Front : List Scalar → List ℤ → Type 0
Front types [] = ⊤
Front [] (v ∷ values) = ⊥
Front (type ∷ types) (v ∷ values) = IsTrue (is_of type v) × Front types values

pub words_length : (arguments : List ℤ) → length (argument_words arguments) ≡ length arguments
words_length [] = refl
words_length (v ∷ arguments) = ap suc (words_length arguments)

pub word_is : (arguments : List ℤ) (i : ℕ) (v : ℤ) → slice_get arguments i ≡ Some v → slice_get (argument_words arguments) i ≡ Some (machine.word v)
word_is [] i v e = absurd (cc)
word_is (u ∷ arguments) zero v e = let same : u ≡ v = cc in ap (λ (x : ℤ). Some (machine.word x)) same
word_is (u ∷ arguments) (suc i) v e = word_is arguments i v e

get_word : (words : List ℕ) (i n : ℕ) → slice_get words i ≡ Some n → get_or words i 0 ≡ n
get_word [] i n e = absurd (cc)
get_word (w ∷ words) zero n e = let same : w ≡ n = cc in same
get_word (w ∷ words) (suc i) n e = get_word words i n e

-- the values from a number on are those of these words and registers
abbrev pub Passed : Assignment → (words : List ℕ) → (number : ℕ) → List ℤ → Type 0
Passed a words number arguments = (i : ℕ) (v : ℤ) → slice_get arguments i ≡ Some v
    → (get_or words (number + i) 0 ≡ machine.word v) × (a (code.register (10 + (number + i))) ≡ Number W32 (machine.word v))

later : (a : Assignment) (words : List ℕ) (number : ℕ) (u : ℤ) (arguments : List ℤ) → Passed a words number (u ∷ arguments) → Passed a words (suc number) arguments
later a words number u arguments passed i v e =
    let next : number + suc i ≡ suc number + i = omega arith in
    let h = passed (suc i) v e in
    (subst (λ (n : ℕ). get_or words n 0 ≡ machine.word v) next h.0, subst (λ (n : ℕ). a (code.register (10 + n)) ≡ Number W32 (machine.word v)) next h.1)

here : (a : Assignment) (words : List ℕ) (number : ℕ) (u : ℤ) (arguments : List ℤ) → Passed a words number (u ∷ arguments)
    → (get_or words number 0 ≡ machine.word u) × (a (code.register (10 + number)) ≡ Number W32 (machine.word u))
here a words number u arguments passed =
    let same : number + 0 ≡ number = omega arith in
    let h = passed 0 u refl in
    (subst (λ (n : ℕ). get_or words n 0 ≡ machine.word u) same h.0, subst (λ (n : ℕ). a (code.register (10 + n)) ≡ Number W32 (machine.word u)) same h.1)

module _ (p : Pair) (a : Assignment) (had : ℕ → ℕ) (memory : Memory) (entries : (r : ℕ) → a (code.entry_register r) ≡ Number W32 (had r))
    (begun : All (λ (r : ℕ). a (code.register r) ≡ a (code.entry_register r)) registers) (memory_is : a binary_memory ≡ Bytes (byte_at memory))
    (room : p.stack ≤ had 2) (below : had 2 < 2 ^ 32) (words : List ℕ) (at : ℕ) where
  -- the dead stack
  abbrev zone : Zone
  zone = record { low = had 2 - p.stack; high = had 2 }

  abbrev b : Assignment
  b = source_values words memory zone

  abbrev s : Assignment
  s = values_at at (binary_entry p a) (source_entry p b)

  -- a parameter, or a local of its type, has the bits of the value
  bits_there : (type : Scalar) → IsPlain type → (number : ℕ) (v : ℤ) → get_or words number 0 ≡ machine.word v
      → low_bits (bits (width_of type)) (get_or words number 0) ≡ bits_of type.width v
  bits_there type plain number v e = ap (low_bits (bits (width_of type))) e ∙ low_word type plain v

  widened_is : (type : Scalar) → IsPlain type → (number : ℕ) (v : ℤ) → IsTrue (is_of type v) → get_or words number 0 ≡ machine.word v
      → value s (widened type (parameter number type)) ≡ Number W32 (machine.word v)
  widened_is type plain number v typed e =
      at_width_is s type (scalar 32 false) plain (full false) (open_term (parameter number type)) (bits_of type.width v)
      (open_value s (parameter number type) ∙ ap (Number (width_of type)) (bits_there type plain number v e))
      ∙ ap (Number W32) (sym (bits_resized type (scalar 32 false) plain (full false) (bits_of type.width v) (bits_below type.width v))
      ∙ ap (bits_of 32) (sym (value_back type v typed)) ∙ bits_word v)

  arguments_hold : (number : ℕ) (types : List Scalar) (arguments : List ℤ) → All IsPlain types → HaveTypes types arguments → Passed a words number arguments
      → All (FactHolds s) (argument_facts number types)
  arguments_hold number [] arguments plain typed passed = none_of (FactHolds s)
  arguments_hold number (type ∷ types) [] plain typed passed = absurd typed
  arguments_hold number (type ∷ types) (v ∷ arguments) plain typed passed =
      let h = here a words number v arguments passed in
      all_more (FactHolds s) (record { variable = code.register (10 + number); term = widened type (parameter number type) }) (argument_facts (suc number) types)
      (equal_itself s (open_term (code.register (10 + number))) (widened type (parameter number type)) W32 (machine.word v)
      (open_value s (code.register (10 + number)) ∙ h.1)
      (widened_is type (All-head IsPlain type types plain) number v typed.0 h.0))
      (arguments_hold (suc number) types arguments (All-tail IsPlain type types plain) typed.1 (later a words number v arguments passed))

  abbrev at_entry_fact : ℕ → Fact
  at_entry_fact r = record { variable = code.register r; term = calling.at_entry r }

  abbrev AreBegun : List ℕ → Type 0
  AreBegun rs = All (λ (r : ℕ). a (code.register r) ≡ a (code.entry_register r)) rs

  registers_hold : (rs : List ℕ) → AreBegun rs → All (FactHolds s) (map at_entry_fact rs)
  registers_hold [] are = none_of (FactHolds s)
  registers_hold (r ∷ rs) are =
      all_more (FactHolds s) (at_entry_fact r) (map at_entry_fact rs)
      (equal_itself s (open_term (code.register r)) (calling.at_entry r) W32 (had r)
      (open_value s (code.register r) ∙ All-head (λ (r : ℕ). a (code.register r) ≡ a (code.entry_register r)) r rs are ∙ entries r)
      (open_value s (code.entry_register r) ∙ entries r))
      (registers_hold rs (All-tail (λ (r : ℕ). a (code.register r) ≡ a (code.entry_register r)) r rs are))

  set_fact : (number : ℕ) (t : Bool) → nat_lt number (length words) ≡ t → FactHolds s (record { variable = is_set number; term = truth t })
  set_fact number t e = same_truth s (open_term (is_set number)) (truth t) t (open_value s (is_set number) ∙ ap Truth e) (truth_value s t)

  unset_hold : (number : ℕ) (locals : List Scalar) → length words ≤ number → All (FactHolds s) (local_facts number [] locals)
  unset_hold number [] past = none_of (FactHolds s)
  unset_hold number (type ∷ locals) past =
      all_more (FactHolds s) (record { variable = is_set number; term = truth false }) (local_facts (suc number) [] locals)
      (set_fact number false (le-ltb number (length words) past)) (unset_hold (suc number) locals (omega arith))

  locals_hold : (number : ℕ) (parameters locals : List Scalar) → number + length parameters ≡ length words → All (FactHolds s) (local_facts number parameters locals)
  locals_hold number parameters [] long = none_of (FactHolds s)
  locals_hold number [] (type ∷ locals) long = unset_hold number (type ∷ locals) (omega (arith, long))
  locals_hold number (parameter_type ∷ parameters) (type ∷ locals) long =
      all_more (FactHolds s) (record { variable = is_set number; term = truth true })
      (record { variable = local number parameter_type; term = open_term (parameter number parameter_type) } ∷ local_facts (suc number) parameters locals)
      (set_fact number true (lt-ltb number (length words) (omega (arith, long))))
      (all_more (FactHolds s) (record { variable = local number parameter_type; term = open_term (parameter number parameter_type) }) (local_facts (suc number) parameters locals)
      (equal_itself s (open_term (local number parameter_type)) (open_term (parameter number parameter_type)) (width_of parameter_type) (low_bits (bits (width_of parameter_type)) (get_or words number 0))
      (open_value s (local number parameter_type)) (open_value s (parameter number parameter_type)))
      (locals_hold (suc number) parameters locals (omega (arith, long))))

  pub low_value : b zone_low ≡ Number W32 (had 2 - p.stack)
  low_value = ap (Number W32) (mod-eq_of_lt (omega arith))

  pub high_value : b zone_high ≡ Number W32 (had 2)
  high_value = ap (Number W32) (mod-eq_of_lt below)

  zone_hold : All (FactHolds s) (zone_facts p.stack)
  zone_hold =
      all_more (FactHolds s) (record { variable = zone_low; term = calling.zone_from p.stack }) (record { variable = zone_high; term = calling.at_entry 2 } ∷ [])
      (equal_itself s (open_term zone_low) (calling.zone_from p.stack) W32 (had 2 - p.stack)
      (open_value s zone_low ∙ low_value) (zone_from_is s (had 2) p.stack room below (entries 2)))
      (all_more (FactHolds s) (record { variable = zone_high; term = calling.at_entry 2 }) []
      (equal_itself s (open_term zone_high) (calling.at_entry 2) W32 (had 2)
      (open_value s zone_high ∙ high_value) (open_value s (code.entry_register 2) ∙ entries 2))
      (none_of (FactHolds s)))

  byte_line : holds s (same_byte (convention_of p zone)) ≡ true
  byte_line =
      let q = low_bits 32 at in
      let is_value = line_value (convention_of p zone) (byte_at memory) (byte_at memory) (had 2 - p.stack) (had 2) s q memory_is refl refl
      (zone_from_is s (had 2) p.stack room below (entries 2)) (open_value s (code.entry_register 2) ∙ entries 2) in
      ap is_truth is_value
      ∙ or_right (not (nat_lt q (had 2 - p.stack)) && nat_lt q (had 2)) (byte_at memory (low_bits 32 q) == byte_at memory (low_bits 32 q))
      (eq-eqb (byte_at memory (low_bits 32 q)) (byte_at memory (low_bits 32 q)) refl)

  pub facts_hold : (arguments : List ℤ) → All IsPlain p.body.signature.parameters → HaveTypes p.body.signature.parameters arguments → Passed a words 0 arguments
      → 0 + length p.body.signature.parameters ≡ length words
      → All (λ (line : Term). holds s line ≡ true) (lines_of (binary_facts p ++ source_facts p) ++ same_byte (convention_of p zone) ∷ [])
  facts_hold arguments plain typed passed long =
      All-append (λ (line : Term). holds s line ≡ true) (lines_of (binary_facts p ++ source_facts p)) (same_byte (convention_of p zone) ∷ [])
      (all_lines s (binary_facts p ++ source_facts p)
      (All-append (FactHolds s) (binary_facts p) (source_facts p)
      (All-append (FactHolds s) (argument_facts 0 p.body.signature.parameters) (map at_entry_fact registers)
      (arguments_hold 0 p.body.signature.parameters arguments plain typed passed) (registers_hold registers begun))
      (All-append (FactHolds s) (local_facts 0 p.body.signature.parameters p.body.locals) (zone_facts p.stack)
      (locals_hold 0 p.body.signature.parameters p.body.locals long) zone_hold)))
      (all_more (λ (line : Term). holds s line ≡ true) (same_byte (convention_of p zone)) [] byte_line (none_of (λ (line : Term). holds s line ≡ true)))

  -- ---- the locals of the call

  locals_alike : (number : ℕ) (locals : List Scalar) (arguments : List ℤ) → All IsPlain locals → Front locals arguments → Passed a words number arguments
      → number + length arguments ≡ length words → (i : ℕ) (type : Scalar) (v : Option ℤ) → slice_get locals i ≡ Some type
      → slice_get (locals_at_entry locals arguments) i ≡ Some v → HasLocal b (number + i) type v
  locals_alike number [] arguments plain front passed long i type v e f = absurd (cc)
  locals_alike number (other ∷ locals) [] plain front passed long zero type v e f =
      let none : None ≡ v = cc in
      subst (HasLocal b (number + 0) type) none (unset (ap Truth (le-ltb (number + 0) (length words) (omega (arith, long)))))
  locals_alike number (other ∷ locals) [] plain front passed long (suc i) type v e f =
      let next : suc number + i ≡ number + suc i = omega arith in
      subst (λ (n : ℕ). HasLocal b n type v) next
      (past (suc number) locals (omega (arith, long)) i type v e f)
    where
      past : (number : ℕ) (locals : List Scalar) → length words ≤ number → (i : ℕ) (type : Scalar) (v : Option ℤ) → slice_get locals i ≡ Some type
          → slice_get (locals_at_entry locals []) i ≡ Some v → HasLocal b (number + i) type v
      past number [] far i type v e f = absurd (cc)
      past number (other ∷ locals) far zero type v e f =
          let none : None ≡ v = cc in
          subst (HasLocal b (number + 0) type) none (unset (ap Truth (le-ltb (number + 0) (length words) (omega (arith, far)))))
      past number (other ∷ locals) far (suc i) type v e f =
          let next : suc number + i ≡ number + suc i = omega arith in
          subst (λ (n : ℕ). HasLocal b n type v) next (past (suc number) locals (omega (arith, far)) i type v e f)
  locals_alike number (other ∷ locals) (u ∷ arguments) plain front passed long zero type v e f =
      let same : other ≡ type = cc in
      let there : Some u ≡ v = cc in
      let zero_more : number ≡ number + 0 = omega arith in
      subst (λ (n : ℕ). HasLocal b n type v) zero_more
      (subst (HasLocal b number type) there (subst (λ (t : Scalar). HasLocal b number t (Some u)) same
      (set u (ap Truth (lt-ltb number (length words) (omega (arith, long)))) (record {
        bits = bits_of other.width u;
        below = bits_below other.width u;
        word = ap (Number (width_of other)) (bits_there other (All-head IsPlain other locals plain) number u (here a words number u arguments passed).0);
        value_is = value_back other u front.0;
      }))))
  locals_alike number (other ∷ locals) (u ∷ arguments) plain front passed long (suc i) type v e f =
      let next : suc number + i ≡ number + suc i = omega arith in
      subst (λ (n : ℕ). HasLocal b n type v) next
      (locals_alike (suc number) locals arguments (All-tail IsPlain other locals plain) front.1 (later a words number u arguments passed) (omega (arith, long)) i type v e f)

  local_there : (locals : List Scalar) (arguments : List ℤ) (i : ℕ) (type : Scalar) → slice_get locals i ≡ Some type
      → (v : Option ℤ) × (slice_get (locals_at_entry locals arguments) i ≡ Some v)
  local_there [] arguments i type e = absurd (cc)
  local_there (other ∷ locals) [] zero type e = (None, refl)
  local_there (other ∷ locals) (u ∷ arguments) zero type e = (Some u, refl)
  local_there (other ∷ locals) [] (suc i) type e = local_there locals [] i type e
  local_there (other ∷ locals) (u ∷ arguments) (suc i) type e = local_there locals arguments i type e

  pub source_alike : ((q : ℕ) → byte_at memory q < 2 ^ 8) → (arguments : List ℤ) → All IsPlain p.body.locals → Front p.body.locals arguments → Passed a words 0 arguments
      → 0 + length arguments ≡ length words
      → Alike p.body.locals (locals_at_entry p.body.locals arguments) memory zone b
  source_alike ranged arguments plain front passed long = record {
    sorted = source_sorted words memory zone ranged;
    local_is = λ number type v e f.
        let same : 0 + number ≡ number = omega arith in
        subst (λ (n : ℕ). HasLocal b n type v) same (locals_alike 0 p.body.locals arguments plain front passed long number type v e f);
    local_there = λ number type e. local_there p.body.locals arguments number type e;
    memory_is = refl;
    low_is = low_value;
    high_is = high_value;
  }

-- values of the first types
pub front_of : (types others : List Scalar) (arguments : List ℤ) → HaveTypes types arguments → Front (types ++ others) arguments
front_of [] others [] typed = tt
front_of [] others (v ∷ arguments) typed = absurd typed
front_of (type ∷ types) others [] typed = absurd typed
front_of (type ∷ types) others (v ∷ arguments) typed = (typed.0, front_of types others arguments typed.1)

pub same_length : (types : List Scalar) (arguments : List ℤ) → HaveTypes types arguments → length types ≡ length arguments
same_length [] [] typed = refl
same_length [] (v ∷ arguments) typed = absurd typed
same_length (type ∷ types) [] typed = absurd typed
same_length (type ∷ types) (v ∷ arguments) typed = ap suc (same_length types arguments typed.1)

pub are_passed : (a : Assignment) (arguments : List ℤ) → ((i : ℕ) (v : ℤ) → slice_get arguments i ≡ Some v → a (code.register (10 + i)) ≡ Number W32 (machine.word v))
    → Passed a (argument_words arguments) 0 arguments
are_passed a arguments passed i v e =
    let same : i ≡ 0 + i = omega arith in (
      get_word (argument_words arguments) (0 + i) (machine.word v) (subst (λ (n : ℕ). slice_get (argument_words arguments) n ≡ Some (machine.word v)) same (word_is arguments i v e)),
      subst (λ (n : ℕ). a (code.register (10 + n)) ≡ Number W32 (machine.word v)) same (passed i v e),
    )
