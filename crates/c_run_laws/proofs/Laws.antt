-- Laws of runs, each as a simulation of one run by another.
use Rattle.std.proofs.Common.{◌≡◌, ◌⊎◌, ℕ, ◌+◌, ◌||◌, Bool, true, false, IsTrue, Option, Some, None, List, refl, sym, ap, subst, ◌∙◌, inl, inr, arith}
use Rattle.std.specs.Prelude.{ℤ, Result, Ok, Err}
use Rattle.memory_spec.specs.Memory.{Memory, byte_at}
use Rattle.memory_spec.specs.Zones.{Zone}
use Rattle.c_types_spec.specs.declared.Scalar.{Scalar}
use Rattle.c_types_spec.specs.Values.{bits_of, of_bits}
use Rattle.c_run_spec.specs.declared.Guard.{Guard}
use Rattle.c_run_spec.specs.declared.Guard.TheVariants.{FixedByte, BarredZone}
use Rattle.c_run_spec.specs.Setting.{Setting, Broken}
use Rattle.c_run_spec.specs.Accesses.{size_of, in_zone, is_object, some_byte, read_guard, write_guard, bytes_at, with_bytes, object_value, stored, unless}
use Rattle.c_run_spec.specs.Execution.{Called, Unfinished, Failed, Returned}
use Rattle.c_run_spec.specs.Calls.{More, Broke, Back, outcome_of, c_run}
use Rattle.c_run_laws.specs.Statements.{is_barred, AreAlike, IsSameOutcome, fixing, barring, IsInside, Breaks}
use Rattle.c_run_laws.proofs.Alike as alike
use Rattle.c_run_laws.proofs.Simulation.{SettingsAlike, runs_alike}
use Rattle.c_run_laws.proofs.Bytes.{bytes_elsewhere, some_byte-weaker, bytes_read_alike, bytes_written_alike}
use Rattle.c_run_laws.proofs.Guards.{read_of, write_of, read_apart, write_apart, write_unfixed}

abbrev none_excused : Guard → Bool
none_excused guard = false

-- ---- more turns

abbrev Same : Memory → Memory → Type 0
Same memory other = memory ≡ other

result_itself : {A : Type 0} (waits : Bool) (excused : Guard → Bool) (extra : ℕ) (Near : Memory → Memory → Type 0) (r : Result A Broken) → alike.ResultsAlike waits excused extra Near r r
result_itself waits excused extra Near (Ok x) = refl
result_itself waits excused extra Near (Err broken) = inr refl

store_itself : (waits : Bool) (excused : Guard → Bool) (extra : ℕ) (r : Result Memory Broken) → alike.StoresAlike waits excused extra Same r r
store_itself waits excused extra (Ok memory) = (memory, refl, refl)
store_itself waits excused extra (Err broken) = inr refl

more_turns : (setting : Setting) (more : ℕ) → SettingsAlike true none_excused more Same setting setting
more_turns setting more = record {
  bodies = refl;
  globals = refl;
  reads = λ memory after type address offset near.
      subst (λ m. alike.ResultsAlike true none_excused more Same (object_value setting memory type address offset) (object_value setting m type address offset)) near
      (result_itself true none_excused more Same (object_value setting memory type address offset));
  writes = λ memory after type address v offset near.
      subst (λ m. alike.StoresAlike true none_excused more Same (stored setting memory type address v offset) (stored setting m type address v offset)) near
      (store_itself true none_excused more (stored setting memory type address v offset));
  waiting = inl refl;
}

settled : (more : ℕ) (c d : Called) → alike.CallsAlike true none_excused more Same c d → (outcome_of c ≡ More) ⊎ (outcome_of d ≡ outcome_of c)
settled more Unfinished d h = inl refl
settled more (Failed guard offset) d (inl h) = cc
settled more (Failed guard offset) d (inr e) = inr (ap outcome_of e)
settled more (Returned v memory left) d (after, turns, e, count, near) = inr (ap outcome_of e ∙ ap (Back v) (sym near))

pub outcome_stays : (setting : Setting) (function : List ℕ) (arguments : List ℤ) (memory : Memory) (turns more : ℕ)
    → (c_run setting function arguments memory turns ≡ More) ⊎ (c_run setting function arguments memory (turns + more) ≡ c_run setting function arguments memory turns)
unfolding c_run
outcome_stays setting function arguments memory turns more =
    settled more _ _ (runs_alike true none_excused more Same setting setting (more_turns setting more) turns (turns + more) refl function arguments memory memory turns (turns + more) refl refl)

-- ---- what is barred

-- memories that are the same, and have the bytes of `first` where they are barred
abbrev Keeps : Setting → Memory → Memory → Memory → Type 0
Keeps setting first memory other = (memory ≡ other) × ((address : ℕ) → IsTrue (is_barred setting address) → byte_at other address ≡ byte_at first address)

kept_byte : (setting : Setting) (memory : Memory) (size address number q : ℕ) → write_guard setting size address ≡ None → (zone fixed : Bool) → in_zone setting.barred q ≡ zone → setting.is_fixed q ≡ fixed
    → (zone || fixed) ≡ true → byte_at (with_bytes memory size address number) q ≡ byte_at memory q
kept_byte setting memory size address number q open_ true fixed inside f on = bytes_elsewhere (in_zone setting.barred) size address memory number q (write_apart setting size address open_) inside
kept_byte setting memory size address number q open_ false true inside f on = bytes_elsewhere setting.is_fixed size address memory number q (write_unfixed setting size address open_) f
kept_byte setting memory size address number q open_ false false inside f on = cc

kept_write : (setting : Setting) (first memory : Memory) (size address number offset : ℕ) → ((q : ℕ) → IsTrue (is_barred setting q) → byte_at memory q ≡ byte_at first q)
    → (guard : Option Guard) → write_guard setting size address ≡ guard
    → alike.StoresAlike false none_excused 0 (Keeps setting first) (unless guard offset (with_bytes memory size address number)) (unless guard offset (with_bytes memory size address number))
kept_write setting first memory size address number offset keeps (Some guard) e = inr refl
kept_write setting first memory size address number offset keeps None e =
    (with_bytes memory size address number, refl, (refl, λ q barred. kept_byte setting memory size address number q e (in_zone setting.barred q) (setting.is_fixed q) refl refl barred ∙ keeps q barred))

keeping : (setting : Setting) (first : Memory) → SettingsAlike false none_excused 0 (Keeps setting first) setting setting
unfolding stored
keeping setting first = record {
  bodies = refl;
  globals = refl;
  reads = λ memory after type address offset near.
      subst (λ m. alike.ResultsAlike false none_excused 0 (Keeps setting first) (object_value setting memory type address offset) (object_value setting m type address offset)) near.0
      (result_itself false none_excused 0 (Keeps setting first) (object_value setting memory type address offset));
  writes = λ memory after type address v offset near.
      subst (λ m. alike.StoresAlike false none_excused 0 (Keeps setting first) (stored setting m type address v offset) (stored setting after type address v offset)) (sym near.0)
      (kept_write setting first after (size_of type) address (bits_of type.width v) offset near.1 (write_guard setting (size_of type) address) refl);
  waiting = inr refl;
}

kept_end : (setting : Setting) (first after : Memory) (v : Option ℤ) (c d : Called) → alike.CallsAlike false none_excused 0 (Keeps setting first) c d → outcome_of c ≡ Back v after
    → (q : ℕ) → IsTrue (is_barred setting q) → byte_at after q ≡ byte_at first q
kept_end setting first after v Unfinished d h e = cc
kept_end setting first after v (Failed guard offset) d h e = cc
kept_end setting first after v (Returned w memory left) d (written, more, is, count, near) e =
    λ q barred. let same : memory ≡ after = cc in ap (λ m. byte_at m q) (sym same ∙ near.0) ∙ near.1 q barred

pub barred_stay : (setting : Setting) (function : List ℕ) (arguments : List ℤ) (memory after : Memory) (turns : ℕ) (v : Option ℤ) → c_run setting function arguments memory turns ≡ Back v after
    → (address : ℕ) → IsTrue (is_barred setting address) → byte_at after address ≡ byte_at memory address
unfolding c_run
barred_stay setting function arguments memory after turns v e =
    kept_end setting memory after v _ _
    (runs_alike false none_excused 0 (Keeps setting memory) setting setting (keeping setting memory) turns turns (omega arith) function arguments memory memory turns turns (omega arith) (refl, λ q barred. refl)) e

-- ---- the zone

abbrev good : ℤ → Result ℤ Broken
good v = Ok v

zone_read : (setting : Setting) (memory other : Memory) (type : Scalar) (address offset : ℕ) → AreAlike setting memory other → (guard : Option Guard) → read_guard setting (size_of type) address ≡ guard
    → alike.ResultsAlike false none_excused 0 (AreAlike setting) (unless guard offset (of_bits type (bytes_at memory (size_of type) address))) (unless guard offset (of_bits type (bytes_at other (size_of type) address)))
zone_read setting memory other type address offset same (Some guard) e = inr refl
zone_read setting memory other type address offset same None e =
    ap (λ n. good (of_bits type n)) (sym (bytes_read_alike (in_zone setting.barred) memory other same (size_of type) address (read_apart setting (size_of type) address e)))

zone_write : (setting : Setting) (memory other : Memory) (size address number offset : ℕ) → AreAlike setting memory other → (guard : Option Guard)
    → alike.StoresAlike false none_excused 0 (AreAlike setting) (unless guard offset (with_bytes memory size address number)) (unless guard offset (with_bytes other size address number))
zone_write setting memory other size address number offset same (Some guard) = inr refl
zone_write setting memory other size address number offset same None =
    (with_bytes other size address number, refl, bytes_written_alike (in_zone setting.barred) size address number memory other same)

zone_apart : (setting : Setting) → SettingsAlike false none_excused 0 (AreAlike setting) setting setting
unfolding stored object_value
zone_apart setting = record {
  bodies = refl;
  globals = refl;
  reads = λ memory after type address offset near. zone_read setting memory after type address offset near (read_guard setting (size_of type) address) refl;
  writes = λ memory after type address v offset near. zone_write setting memory after (size_of type) address (bits_of type.width v) offset near (write_guard setting (size_of type) address);
  waiting = inr refl;
}

zone_end : (setting : Setting) (c d : Called) → alike.CallsAlike false none_excused 0 (AreAlike setting) c d → IsSameOutcome setting (outcome_of c) (outcome_of d)
zone_end setting Unfinished d (inl h) = cc
zone_end setting Unfinished d (inr e) = ap outcome_of e
zone_end setting (Failed guard offset) d (inl h) = cc
zone_end setting (Failed guard offset) d (inr e) = ap outcome_of e
zone_end setting (Returned v memory left) d (after, more, e, count, near) = (after, ap outcome_of e, near)

pub zone_unread : (setting : Setting) (function : List ℕ) (arguments : List ℤ) (memory other : Memory) (turns : ℕ) → AreAlike setting memory other
    → IsSameOutcome setting (c_run setting function arguments memory turns) (c_run setting function arguments other turns)
unfolding c_run
zone_unread setting function arguments memory other turns near =
    zone_end setting _ _
    (runs_alike false none_excused 0 (AreAlike setting) setting setting (zone_apart setting) turns turns (omega arith) function arguments memory other turns turns (omega arith) near)

-- ---- other bars

abbrev only_fixed : Guard → Bool
only_fixed FixedByte = true
only_fixed guard = false

abbrev only_zone : Guard → Bool
only_zone BarredZone = true
only_zone guard = false

is_fixed_guard : (guard : Guard) → IsTrue (only_fixed guard) → guard ≡ FixedByte
is_fixed_guard FixedByte h = refl
is_fixed_guard guard h = cc

is_zone_guard : (guard : Guard) → IsTrue (only_zone guard) → guard ≡ BarredZone
is_zone_guard BarredZone h = refl
is_zone_guard guard h = cc

-- what a write gives by the guards of two settings
fixed_write : (read : Option Guard) (meets fewer : Bool) → (meets ≡ false → fewer ≡ false) → (offset : ℕ) (after : Memory)
    → alike.StoresAlike false only_fixed 0 Same (unless (write_of read meets) offset after) (unless (write_of read fewer) offset after)
fixed_write (Some guard) meets fewer implies offset after = inr refl
fixed_write None true fewer implies offset after = inl refl
fixed_write None false fewer implies offset after =
    subst (λ b. alike.StoresAlike false only_fixed 0 Same (Ok after) (unless (write_of None b) offset after)) (sym (implies refl)) (after, refl, refl)

or_true : (a b : Bool) → a ≡ true → (a || b) ≡ true
or_true true b h = refl
or_true false b h = cc

fixes : (setting : Setting) (kept : ℕ → Bool) → SettingsAlike false only_fixed 0 Same (fixing setting kept) setting
unfolding stored object_value read_guard write_guard
fixes setting kept = record {
  bodies = refl;
  globals = refl;
  reads = λ memory after type address offset near.
      subst (λ m. alike.ResultsAlike false only_fixed 0 Same (object_value setting memory type address offset) (object_value setting m type address offset)) near
      (result_itself false only_fixed 0 Same (object_value setting memory type address offset));
  writes = λ memory after type address v offset near.
      subst (λ m. alike.StoresAlike false only_fixed 0 Same (stored (fixing setting kept) memory type address v offset) (stored setting m type address v offset)) near
      (fixed_write (read_guard setting (size_of type) address) (some_byte (λ a. setting.is_fixed a || kept a) (size_of type) address) (some_byte setting.is_fixed (size_of type) address)
      (some_byte-weaker setting.is_fixed (λ a. setting.is_fixed a || kept a) (λ a h. or_true (setting.is_fixed a) (kept a) h) (size_of type) address)
      offset (with_bytes memory (size_of type) address (bits_of type.width v)));
  waiting = inr refl;
}

fixed_end : (c d : Called) → alike.CallsAlike false only_fixed 0 Same c d → Breaks FixedByte (outcome_of c) ⊎ (outcome_of d ≡ outcome_of c)
fixed_end Unfinished d (inl h) = cc
fixed_end Unfinished d (inr e) = inr (ap outcome_of e)
fixed_end (Failed guard offset) d (inl h) = inl (offset, ap (λ g. Broke g offset) (is_fixed_guard guard h))
fixed_end (Failed guard offset) d (inr e) = inr (ap outcome_of e)
fixed_end (Returned v memory left) d (after, more, e, count, near) = inr (ap outcome_of e ∙ ap (Back v) (sym near))

pub unwritten_stay : (setting : Setting) (kept : ℕ → Bool) (function : List ℕ) (arguments : List ℤ) (memory : Memory) (turns : ℕ)
    → Breaks FixedByte (c_run (fixing setting kept) function arguments memory turns) ⊎ (c_run setting function arguments memory turns ≡ c_run (fixing setting kept) function arguments memory turns)
unfolding c_run
unwritten_stay setting kept function arguments memory turns =
    fixed_end _ _
    (runs_alike false only_fixed 0 Same (fixing setting kept) setting (fixes setting kept) turns turns (omega arith) function arguments memory memory turns turns (omega arith) refl)

zone_result : {A : Type 0} (is_whole meets fewer : Bool) → (meets ≡ false → fewer ≡ false) → (offset : ℕ) (x : A)
    → alike.ResultsAlike false only_zone 0 Same (unless (read_of is_whole meets) offset x) (unless (read_of is_whole fewer) offset x)
zone_result false meets fewer implies offset x = inr refl
zone_result true true fewer implies offset x = inl refl
zone_result true false fewer implies offset x = ap (λ b. unless (read_of true b) offset x) (implies refl)

zone_stored : (is_whole meets fewer fixed : Bool) → (meets ≡ false → fewer ≡ false) → (offset : ℕ) (x : Memory)
    → alike.StoresAlike false only_zone 0 Same (unless (write_of (read_of is_whole meets) fixed) offset x) (unless (write_of (read_of is_whole fewer) fixed) offset x)
zone_stored false meets fewer fixed implies offset x = inr refl
zone_stored true true fewer fixed implies offset x = inl refl
zone_stored true false fewer true implies offset x = inr (ap (λ b. unless (write_of (read_of true b) true) offset x) (implies refl))
zone_stored true false fewer false implies offset x = (x, ap (λ b. unless (write_of (read_of true b) false) offset x) (implies refl), refl)

narrows : (setting : Setting) (zone : Zone) → IsInside zone setting.barred → SettingsAlike false only_zone 0 Same setting (barring setting zone)
unfolding stored object_value read_guard write_guard
narrows setting zone inside = record {
  bodies = refl;
  globals = refl;
  reads = λ memory after type address offset near.
      subst (λ m. alike.ResultsAlike false only_zone 0 Same (object_value setting memory type address offset) (object_value (barring setting zone) m type address offset)) near
      (zone_result (is_object (size_of type) address) (some_byte (in_zone setting.barred) (size_of type) address) (some_byte (in_zone zone) (size_of type) address)
      (some_byte-weaker (in_zone zone) (in_zone setting.barred) inside (size_of type) address) offset (of_bits type (bytes_at memory (size_of type) address)));
  writes = λ memory after type address v offset near.
      subst (λ m. alike.StoresAlike false only_zone 0 Same (stored setting memory type address v offset) (stored (barring setting zone) m type address v offset)) near
      (zone_stored (is_object (size_of type) address) (some_byte (in_zone setting.barred) (size_of type) address) (some_byte (in_zone zone) (size_of type) address) (some_byte setting.is_fixed (size_of type) address)
      (some_byte-weaker (in_zone zone) (in_zone setting.barred) inside (size_of type) address) offset (with_bytes memory (size_of type) address (bits_of type.width v)));
  waiting = inr refl;
}

narrow_end : (c d : Called) → alike.CallsAlike false only_zone 0 Same c d → Breaks BarredZone (outcome_of c) ⊎ (outcome_of d ≡ outcome_of c)
narrow_end Unfinished d (inl h) = cc
narrow_end Unfinished d (inr e) = inr (ap outcome_of e)
narrow_end (Failed guard offset) d (inl h) = inl (offset, ap (λ g. Broke g offset) (is_zone_guard guard h))
narrow_end (Failed guard offset) d (inr e) = inr (ap outcome_of e)
narrow_end (Returned v memory left) d (after, more, e, count, near) = inr (ap outcome_of e ∙ ap (Back v) (sym near))

pub narrow_zone : (setting : Setting) (zone : Zone) (function : List ℕ) (arguments : List ℤ) (memory : Memory) (turns : ℕ) → IsInside zone setting.barred
    → Breaks BarredZone (c_run setting function arguments memory turns) ⊎ (c_run (barring setting zone) function arguments memory turns ≡ c_run setting function arguments memory turns)
unfolding c_run
narrow_zone setting zone function arguments memory turns inside =
    narrow_end _ _
    (runs_alike false only_zone 0 Same setting (barring setting zone) (narrows setting zone inside) turns turns (omega arith) function arguments memory memory turns turns (omega arith) refl)
