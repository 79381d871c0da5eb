-- The tests of an access hold where it breaks no guard, and its term evaluates to what it reads or leaves.
use Rattle.std.proofs.Common.{◌≡◌, ◌∙◌, inl, inr, ℕ, zero, suc, ◌+◌, ◌-◌, ◌<◌, ◌≤◌, Bool, true, false, not, refl, sym, ap, arith, List, [], ◌∷◌, length, map, Option, Some, None, is_some}
use Rattle.std.specs.Prelude.{nat_lt, nat_le, ◌&&◌, ◌||◌, slice_get, All}
use Rattle.std.specs.Option.{option_or}
use Rattle.std.proofs.Math.Path.{fun_ext}
use Rattle.std.proofs.lemmas.Bool.{lt-ltb, le-ltb, lt-leb, le-leb, ltb-true, leb-true, cases_lt, or_cases, or_left, or_right, and_parts, false_from_ne_true}
use Rattle.std.proofs.lemmas.List.Elements.{All-nil, All-cons, All-head, All-tail}
use Rattle.memory_spec.specs.Zones.{Zone}
use Rattle.memory_spec.specs.Runs.{Run, byte_in, fixed_byte}
use Rattle.term_core_spec.specs.declared.Width.TheVariants.{W32}
use Rattle.term_core_spec.specs.Term.{Term, open_term, less}
use Rattle.term_core_spec.specs.Value.{Truth, Number, Assignment, value}
use Rattle.graph_core_spec.specs.Run.{is_truth}
use Rattle.c_run_spec.specs.Accesses.{some_byte, in_zone}
use Rattle.c_graph_spec.specs.State.{number, zone_low, zone_high}
use Rattle.c_graph_spec.specs.Guards.{avoids_zone, avoids_run, avoids_fixed}
use Rattle.c_graph_laws.proofs.Steps.{all_hold}
use Rattle.c_graph_laws.proofs.Evaluates.{constant_is, less_is, not_is, or_is}
use Rattle.c_graph_laws.proofs.Conjunctions.{IsTruth, conjunction_is}

-- ---- bytes that pass a test

-- some of so many bytes are from `low` to below `high`
Meets : (low high size a : ℕ) → Type 0
Meets low high size a = (0 < size) × (low < high) × (low < a + size) × (a < high)

in_both : (low high q : ℕ) → low ≤ q → q < high → (nat_le low q && nat_lt q high) ≡ true
in_both low high q from below = rw (le-leb low q from, lt-ltb q high below) refl

meets_from : (z : Zone) (size a : ℕ) → some_byte (in_zone z) size a ≡ true → Meets z.low z.high size a
unfolding some_byte Meets
meets_from z zero a e = absurd (cc)
meets_from z (suc size) a e = elim (or_cases (in_zone z a) (some_byte (in_zone z) size (suc a)) e) [
  | inl here ↦
      let parts = and_parts (nat_le z.low a) (nat_lt a z.high) here in
      let from : z.low ≤ a = leb-true z.low a parts.0 in
      let below : a < z.high = ltb-true a z.high parts.1 in
      (omega arith, omega arith, omega arith, omega arith)
  | inr later ↦ let rest = meets_from z size (suc a) later in (omega arith, rest.1, omega (arith, rest.2), omega (arith, rest.3))
]

meets_to : (z : Zone) (size a : ℕ) → Meets z.low z.high size a → some_byte (in_zone z) size a ≡ true
unfolding some_byte Meets
meets_to z zero a m = absurd (omega (arith, m.0))
meets_to z (suc size) a m = elim (cases_lt a z.low) [
  | inl less ↦ or_right (in_zone z a) (some_byte (in_zone z) size (suc a)) (meets_to z size (suc a) (omega (arith, m.2), m.1, omega (arith, m.2), omega (arith, m.1)))
  | inr from ↦ or_left (in_zone z a) (some_byte (in_zone z) size (suc a)) (in_both z.low z.high a from m.3)
]

-- as a test: e is the last of the bytes
zone_test : (z : Zone) (size a e : ℕ) → 0 < size → e + 1 ≡ a + size → (not (nat_lt z.low z.high) || (nat_lt e z.low || not (nat_lt a z.high))) ≡ not (some_byte (in_zone z) size a)
unfolding Meets
zone_test z size a e some is = elim (cases_lt z.low z.high) [
  | inl there ↦ elim (cases_lt e z.low) [
    | inl before ↦ rw (lt-ltb z.low z.high there, lt-ltb e z.low before, false_from_ne_true (some_byte (in_zone z) size a) (λ h. let m = meets_from z size a h in omega (arith, m.2))) refl
    | inr from ↦ elim (cases_lt a z.high) [
      | inl below ↦ rw (lt-ltb z.low z.high there, le-ltb e z.low from, lt-ltb a z.high below, meets_to z size a (some, there, omega arith, below)) refl
      | inr past ↦ rw (lt-ltb z.low z.high there, le-ltb e z.low from, le-ltb a z.high past, false_from_ne_true (some_byte (in_zone z) size a) (λ h. let m = meets_from z size a h in omega (arith, m.3))) refl
    ]
  ]
  | inr none ↦ rw (le-ltb z.low z.high none, false_from_ne_true (some_byte (in_zone z) size a) (λ h. let m = meets_from z size a h in omega (arith, m.1))) refl
]

-- tests that agree, and a test that is one or another
pub some_same : (f g : ℕ → Bool) → ((q : ℕ) → f q ≡ g q) → (size a : ℕ) → some_byte f size a ≡ some_byte g size a
some_same f g agree size a = ap (λ (h : ℕ → Bool). some_byte h size a) (fun_ext agree)

some_either : (f g : ℕ → Bool) (size a : ℕ) → some_byte (λ q. f q || g q) size a ≡ some_byte f size a || some_byte g size a
unfolding some_byte
some_either f g zero a = refl
some_either f g (suc size) a = ap (λ b. (f a || g a) || b) (some_either f g size (suc a)) ∙ mixed (f a) (g a) (some_byte f size (suc a)) (some_byte g size (suc a))
  where
    mixed : (a b c d : Bool) → ((a || b) || (c || d)) ≡ ((a || c) || (b || d))
    mixed true b c d = refl
    mixed false true true d = refl
    mixed false true false d = refl
    mixed false false c d = refl

-- ---- runs of fixed bytes

zone_of_run : Run → Zone
zone_of_run run = record { low = run.start; high = run.start + length run.bytes }

some_item : (xs : List ℕ) (i : ℕ) → is_some (slice_get xs i) ≡ nat_lt i (length xs)
some_item [] i = sym (le-ltb i 0 (omega arith))
some_item (x ∷ xs) zero = sym (lt-ltb 0 (suc (length xs)) (omega arith))
some_item (x ∷ xs) (suc i) = some_item xs i ∙ elim (cases_lt i (length xs)) [
  | inl less ↦ lt-ltb i (length xs) less ∙ sym (lt-ltb (suc i) (suc (length xs)) (omega arith))
  | inr least ↦ le-ltb i (length xs) least ∙ sym (le-ltb (suc i) (suc (length xs)) (omega arith))
]

run_byte : (run : Run) (q : ℕ) → is_some (byte_in run q) ≡ in_zone (zone_of_run run) q
unfolding zone_of_run
run_byte run q = elim (cases_lt q run.start) [
  | inl before ↦ rw (lt-leb run.start q before) refl
  | inr from ↦ rw (le-leb run.start q from) (some_item run.bytes (q - run.start) ∙ elim (cases_lt (q - run.start) (length run.bytes)) [
    | inl less ↦ lt-ltb (q - run.start) (length run.bytes) less ∙ sym (lt-ltb q (run.start + length run.bytes) (omega arith))
    | inr least ↦ le-ltb (q - run.start) (length run.bytes) least ∙ sym (le-ltb q (run.start + length run.bytes) (omega arith))
  ])
]

abbrev pub is_fixed : List Run → ℕ → Bool
is_fixed runs q = is_some (fixed_byte runs q)

either_some : (o p : Option ℕ) → is_some (option_or o p) ≡ is_some o || is_some p
either_some (Some x) p = refl
either_some None p = refl

fixed_cons : (run : Run) (rest : List Run) (size a : ℕ) → some_byte (is_fixed (run ∷ rest)) size a ≡ some_byte (in_zone (zone_of_run run)) size a || some_byte (is_fixed rest) size a
unfolding fixed_byte
fixed_cons run rest size a =
    some_same (is_fixed (run ∷ rest)) (λ q. in_zone (zone_of_run run) q || is_fixed rest q) (λ q. either_some (byte_in run q) (fixed_byte rest q) ∙ ap (λ b. b || is_fixed rest q) (run_byte run q)) size a
    ∙ some_either (in_zone (zone_of_run run)) (is_fixed rest) size a

no_fixed : (size a : ℕ) → some_byte (is_fixed []) size a ≡ false
unfolding some_byte fixed_byte
no_fixed zero a = refl
no_fixed (suc size) a = no_fixed size (suc a)

-- ---- the terms of tests

module _ (s : Assignment) (x y : Term) (a e size : ℕ) (some : 0 < size) (last : e + 1 ≡ a + size) (ea : value s x ≡ Number W32 a) (ee : value s y ≡ Number W32 e) where
  pub zone_is : (z : Zone) → value s (open_term zone_low) ≡ Number W32 z.low → value s (open_term zone_high) ≡ Number W32 z.high
      → value s (avoids_zone x y) ≡ Truth (not (some_byte (in_zone z) size a))
  zone_is z el eh =
      or_is s _ _ (not (nat_lt z.low z.high)) (nat_lt e z.low || not (nat_lt a z.high))
      (not_is s _ (nat_lt z.low z.high) (less_is s W32 (open_term zone_low) (open_term zone_high) z.low z.high el eh))
      (or_is s _ _ (nat_lt e z.low) (not (nat_lt a z.high)) (less_is s W32 y (open_term zone_low) e z.low ee el)
      (not_is s _ (nat_lt a z.high) (less_is s W32 x (open_term zone_high) a z.high ea eh)))
      ∙ ap Truth (zone_test z size a e some last)

  run_is : (run : Run) → 0 < length run.bytes → value s (avoids_run x y run) ≡ Truth (not (some_byte (in_zone (zone_of_run run)) size a))
  unfolding zone_of_run
  run_is run any =
      or_is s _ _ (nat_lt (run.start + length run.bytes - 1) a) (nat_lt e run.start)
      (less_is s W32 (number (run.start + length run.bytes - 1)) x (run.start + length run.bytes - 1) a (constant_is s W32 (run.start + length run.bytes - 1)) ea)
      (less_is s W32 y (number run.start) e run.start ee (constant_is s W32 run.start))
      ∙ ap Truth (turned ∙ zone_test (zone_of_run run) size a e some last)
    where
      turned : (nat_lt (run.start + length run.bytes - 1) a || nat_lt e run.start)
          ≡ (not (nat_lt run.start (run.start + length run.bytes)) || (nat_lt e run.start || not (nat_lt a (run.start + length run.bytes))))
      turned = elim (cases_lt a (run.start + length run.bytes)) [
        | inl below ↦ rw (le-ltb (run.start + length run.bytes - 1) a (omega arith), lt-ltb run.start (run.start + length run.bytes) (omega arith), lt-ltb a (run.start + length run.bytes) below) (plain (nat_lt e run.start))
        | inr past ↦ rw (lt-ltb (run.start + length run.bytes - 1) a (omega arith), lt-ltb run.start (run.start + length run.bytes) (omega arith), le-ltb a (run.start + length run.bytes) past) (any_true (nat_lt e run.start))
      ]
        where
          plain : (b : Bool) → b ≡ (b || false)
          plain true = refl
          plain false = refl

          any_true : (b : Bool) → true ≡ (b || true)
          any_true true = refl
          any_true false = refl

  -- the tests of runs hold where no byte is fixed
  runs_hold : (runs : List Run) → All (λ (r : Run). 0 < length r.bytes) runs → all_hold s (map (avoids_run x y) runs) ≡ not (some_byte (is_fixed runs) size a)
  runs_hold [] any = ap not (sym (no_fixed size a))
  runs_hold (run ∷ rest) any =
      ap (λ v. is_truth v && all_hold s (map (avoids_run x y) rest)) (run_is run (All-head (λ (r : Run). 0 < length r.bytes) run rest any))
      ∙ ap (λ b. not (some_byte (in_zone (zone_of_run run)) size a) && b) (runs_hold rest (All-tail (λ (r : Run). 0 < length r.bytes) run rest any))
      ∙ apart (some_byte (in_zone (zone_of_run run)) size a) (some_byte (is_fixed rest) size a) ∙ ap not (sym (fixed_cons run rest size a))
    where
      apart : (a b : Bool) → (not a && not b) ≡ not (a || b)
      apart true b = refl
      apart false b = refl

  runs_are : (runs : List Run) → All (λ (r : Run). 0 < length r.bytes) runs → All (IsTruth s) (map (avoids_run x y) runs)
  runs_are [] any = All-nil (IsTruth s)
  runs_are (run ∷ rest) any =
      let is = run_is run (All-head (λ (r : Run). 0 < length r.bytes) run rest any) in
      All-cons (IsTruth s) (avoids_run x y run) (map (avoids_run x y) rest) (is ∙ ap Truth (sym (ap is_truth is))) (runs_are rest (All-tail (λ (r : Run). 0 < length r.bytes) run rest any))

  pub fixed_is : (runs : List Run) → All (λ (r : Run). 0 < length r.bytes) runs → value s (avoids_fixed x y runs) ≡ Truth (not (some_byte (is_fixed runs) size a))
  fixed_is runs any = conjunction_is s (map (avoids_run x y) runs) (runs_are runs any) ∙ ap Truth (runs_hold runs any)
