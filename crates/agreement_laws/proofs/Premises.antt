-- What holds at the entry of a function that is called by the convention.
use Rattle.std.proofs.Common.{◌≡◌, ◌≢◌, ◌∙◌, ◌⊎◌, ℕ, ◌+◌, ◌-◌, ◌%◌, ◌^◌, ◌<◌, ◌≤◌, ◌||◌, zero, suc, Bool, true, false, not, if◌then◌else◌, List, [], ◌∷◌, ◌++◌, length, map, Contains, slice_get, nat_lt, Option, Some, None, refl, sym, ap, subst, inl, inr, arith}
use Rattle.std.specs.Prelude.{bit_and, IfSome}
use Rattle.std.specs.List.{All}
use Rattle.std.proofs.lemmas.Bool.{cases_lt, lt-ltb, le-ltb, eq-eqb, ltb-true}
use Rattle.std.proofs.lemmas.List.Elements.{All-append}
use Rattle.std.proofs.lemmas.Nat.{and_mask}
use Rattle.memory_spec.specs.Runs as memory
use Rattle.elf_read_spec.specs.Image.{Image, fixed_byte, global_pointer}
use Rattle.elf_read_spec.specs.Runs.{AreRuns, IsRun}
use Rattle.term_core_spec.specs.declared.Width.TheVariants.{W32}
use Rattle.term_core_spec.specs.declared.WordOperator.TheVariants as operator
use Rattle.term_core_spec.specs.Term.{Term, equal, less, not_term, bit_and as and_words}
use Rattle.term_core_spec.specs.Value.{Number, Assignment, value, operation}
use Rattle.path_cond_spec.specs.Passages.{holds}
use Rattle.graph_core_spec.specs.Run.{is_truth}
use Rattle.decompile_spec.specs.State.{entry_register}
use Rattle.decompile_laws.proofs.Values.{equal_evaluates, words_evaluates, less_evaluates, not_evaluates, or_evaluates}
use Rattle.sim_rules_spec.specs.Points.{entry_zone}
use Rattle.sim_rules_spec.specs.Calling as calling
use Rattle.sim_rules_spec.specs.Calling.{word, at_entry, zone_from, outside_zone, global_pointer_lines}
use Rattle.agreement_laws.specs.EntryFrame.{Pair, convention_of, run_of, entry_premises}
use Rattle.agreement_laws.proofs.ReadBack.{open_value, zone_from_is}

-- ---- lists

pub all_more : {X : Type 0} (P : X → Type 0) (x : X) (xs : List X) → P x → All P xs → All P (x ∷ xs)
all_more P x xs h all zero d lt = h
all_more P x xs h all (suc i) d lt = all i d (omega (arith, lt))

all_made : {X Y : Type 0} (P : X → Type 0) (f : Y → X) (ys : List Y) → ((y : Y) → Contains ys y → P (f y)) → All P (map f ys)
all_made P f [] each = λ i d lt. absurd (omega (arith, lt))
all_made P f (y ∷ ys) each =
    all_more P (f y) (map f ys) (each y (0, omega arith, refl)) (all_made P f ys (λ z among. each z (suc among.0, (let lt = among.1 in omega arith), among.2)))

not_none : (xs : List ℕ) (k : ℕ) → k < length xs → slice_get xs k ≡ None → ⊥
not_none [] k lt e = absurd (omega (arith, lt))
not_none (x ∷ xs) zero lt e = cc
not_none (x ∷ xs) (suc k) lt e = not_none xs k (omega (arith, lt)) e

-- ---- runs of fixed bytes beside the zone

module _ (image : Image) (run : memory.Run) (is : IsRun image run) (low high : ℕ) (some : low < high)
    (free : (address : ℕ) → low ≤ address → address < high → fixed_byte image address ≡ None) where
  no_address : (q : ℕ) → run.start ≤ q → q < run.start + length run.bytes → low ≤ q → q < high → ⊥
  no_address q from to lo hi =
      let k_lt : q - run.start < length run.bytes = omega arith in
      let back : run.start + (q - run.start) ≡ q = omega arith in
      not_none run.bytes (q - run.start) k_lt (sym (is.fixed (q - run.start) k_lt) ∙ ap (fixed_byte image) back ∙ free q lo hi)

  long : 0 < length run.bytes
  long = by run.bytes is.not_empty
    where
      by : (bytes : List ℕ) → bytes ≢ [] → 0 < length bytes
      by [] bad = absurd (bad refl)
      by (x ∷ xs) bad = omega arith

  pub apart : (high ≤ run.start) ⊎ (run.start + length run.bytes - 1 < low)
  apart = elim (cases_lt run.start high) [
    | inr beyond ↦ inl beyond
    | inl near ↦ elim (cases_lt (run.start + length run.bytes - 1) low) [
      | inl ahead ↦ inr ahead
      | inr across ↦ elim (cases_lt run.start low) [
        | inl before ↦ absurd (no_address low (omega arith) (omega (arith, long)) (omega arith) some)
        | inr inside ↦ absurd (no_address run.start (omega arith) (omega (arith, long)) inside near)
      ]
    ]
  ]

module _ (s : Assignment) (had : ℕ → ℕ) (entries : (r : ℕ) → s (entry_register r) ≡ Number W32 (had r)) where
  abbrev Holds : Term → Type 0
  Holds line = holds s line ≡ true

  entry_value : (r : ℕ) → value s (at_entry r) ≡ Number W32 (had r)
  entry_value r = open_value s (entry_register r) ∙ entries r

  word_value : (n : ℕ) → value s (word n) ≡ Number W32 n
  unfolding value
  word_value n = refl

  -- the low bits are 0
  no_rest : (r mask k : ℕ) → ((n : ℕ) → bit_and n mask ≡ n % k) → had r % k ≡ 0 → Holds (equal (and_words (at_entry r) (word mask)) (word 0))
  unfolding operation
  no_rest r mask k low even =
      ap is_truth (equal_evaluates s (and_words (at_entry r) (word mask)) (word 0) (bit_and (had r) mask) 0
      (words_evaluates s operator.And (at_entry r) (word mask) (had r) mask (entry_value r) (word_value mask)) (word_value 0))
      ∙ eq-eqb (bit_and (had r) mask) 0 (low (had r) ∙ even)

  has_room : (stack : ℕ) → stack ≤ had 2 → Holds (not_term (less (at_entry 2) (word stack)))
  has_room stack room =
      ap is_truth (not_evaluates s (less (at_entry 2) (word stack)) (nat_lt (had 2) stack) (less_evaluates s (at_entry 2) (word stack) (had 2) stack (entry_value 2) (word_value stack)))
      ∙ ap not (le-ltb (had 2) stack room)

  gp_lines : (o : Option ℕ) → IfSome o (λ v. had 3 ≡ v) → All Holds (global_pointer_lines o)
  gp_lines None is = λ i d lt. absurd (omega (arith, lt))
  gp_lines (Some v) is = all_more Holds (equal (at_entry 3) (word v)) [] (ap is_truth (equal_evaluates s (at_entry 3) (word v) (had 3) v (entry_value 3) (word_value v)) ∙ eq-eqb (had 3) v is) (λ i d lt. absurd (omega (arith, lt)))

  -- a run that is beyond the zone, or before it
  run_line : (stack : ℕ) → stack ≤ had 2 → had 2 < 2 ^ 32 → (run : calling.Run)
      → (had 2 ≤ run.first) ⊎ (run.last < had 2 - stack) → Holds (outside_zone stack run)
  run_line stack room below run apart =
      ap is_truth (or_evaluates s (not_term (less (word run.first) (at_entry 2))) (less (word run.last) (zone_from stack)) (not (nat_lt run.first (had 2))) (nat_lt run.last (had 2 - stack))
      (not_evaluates s (less (word run.first) (at_entry 2)) (nat_lt run.first (had 2)) (less_evaluates s (word run.first) (at_entry 2) run.first (had 2) (word_value run.first) (entry_value 2)))
      (less_evaluates s (word run.last) (zone_from stack) run.last (had 2 - stack) (word_value run.last) (zone_from_is s (had 2) stack room below (entries 2))))
      ∙ (elim apart [
        | inl beyond ↦ rw (le-ltb run.first (had 2) beyond) refl
        | inr ahead ↦ rw (lt-ltb run.last (had 2 - stack) ahead) (true_right (not (nat_lt run.first (had 2))))
      ])
    where
      true_right : (b : Bool) → (b || true) ≡ true
      true_right true = refl
      true_right false = refl

mapped : (rs : List memory.Run) (run : calling.Run) → Contains (map run_of rs) run → (r : memory.Run) × Contains rs r × (run_of r ≡ run)
mapped [] run among = absurd (let lt = among.1 in omega arith)
mapped (r ∷ rs) run (zero, lt, is) = (r, (0, omega arith, refl), is)
mapped (r ∷ rs) run (suc i, lt, is) = let found = mapped rs run (i, omega (arith, lt), is) in
    (found.0, (suc found.1.0, (let l = found.1.1 in omega arith), found.1.2), found.2)

-- the registers with which a function is called meet the convention; its stack has no fixed bytes
pub record IsCalled (p : Pair) (had : ℕ → ℕ) : Type 0 where
  pub return_aligned : had 1 % 4 ≡ 0
  pub stack_aligned : had 2 % 16 ≡ 0
  pub stack_room : p.stack ≤ had 2
  pub stack_below : had 2 < 2 ^ 32
  pub gp : IfSome (global_pointer p.image) (λ v. had 3 ≡ v)
  pub zone_free : (address : ℕ) → had 2 - p.stack ≤ address → address < had 2 → fixed_byte p.image address ≡ None

-- the lines at entry hold of every values with such registers at entry
pub premises_hold : (p : Pair) (had : ℕ → ℕ) → AreRuns p.image p.numbering.runs → IsCalled p had → (s : Assignment)
    → ((r : ℕ) → s (entry_register r) ≡ Number W32 (had r)) → All (λ (line : Term). holds s line ≡ true) (entry_premises p)
premises_hold p had are meets s entries =
    let last : List Term = if nat_lt 0 p.stack then map (outside_zone p.stack) (map run_of p.numbering.runs) else [] in
    let third : List Term = global_pointer_lines (global_pointer p.image) ++ last in
    let second : List Term = not_term (less (at_entry 2) (word p.stack)) ∷ third in
    let first : List Term = equal (and_words (at_entry 2) (word 15)) (word 0) ∷ second in
    all_more (λ (line : Term). holds s line ≡ true) (equal (and_words (at_entry 1) (word 3)) (word 0)) first (no_rest s had entries 1 3 4 (λ n. and_mask n 2) meets.return_aligned)
    (all_more (λ (line : Term). holds s line ≡ true) (equal (and_words (at_entry 2) (word 15)) (word 0)) second (no_rest s had entries 2 15 16 (λ n. and_mask n 4) meets.stack_aligned)
    (all_more (λ (line : Term). holds s line ≡ true) (not_term (less (at_entry 2) (word p.stack))) third (has_room s had entries p.stack meets.stack_room)
    (All-append (λ (line : Term). holds s line ≡ true) (global_pointer_lines (global_pointer p.image)) last (gp_lines s had entries (global_pointer p.image) meets.gp) (runs_if (nat_lt 0 p.stack) refl))))
  where
    runs_if : (b : Bool) → nat_lt 0 p.stack ≡ b → All (λ (line : Term). holds s line ≡ true) (if b then map (outside_zone p.stack) (map run_of p.numbering.runs) else [])
    runs_if false e = λ i d lt. absurd (omega (arith, lt))
    runs_if true e = all_made (λ (line : Term). holds s line ≡ true) (outside_zone p.stack) (map run_of p.numbering.runs) (λ run among.
        let from = mapped p.numbering.runs run among in
        let stack_some : 0 < p.stack = ltb-true 0 p.stack e in
        subst (λ (r : calling.Run). holds s (outside_zone p.stack r) ≡ true) from.2
        (run_line s had entries p.stack meets.stack_room meets.stack_below (run_of from.0)
        (apart p.image from.0 ((are.exactly from.0).0 from.1) (had 2 - p.stack) (had 2) (omega (arith, meets.stack_room))
        (λ address lo hi. meets.zone_free address lo hi))))

-- a term has the value of a constant
pub word_line : (s : Assignment) (t : Term) (n : ℕ) → value s t ≡ Number W32 n → holds s (equal t (word n)) ≡ true
unfolding value
word_line s t n e = ap is_truth (equal_evaluates s t (word n) n n e refl) ∙ eq-eqb n n refl

-- the zone is the dead stack
pub zone_holds : (p : Pair) (had : ℕ → ℕ) → p.stack ≤ had 2 → had 2 < 2 ^ 32 → (s : Assignment)
    → ((r : ℕ) → s (entry_register r) ≡ Number W32 (had r))
    → All (λ (line : Term). holds s line ≡ true) (entry_zone (convention_of p (record { low = had 2 - p.stack; high = had 2 })))
zone_holds p had room below s entries =
    all_more (λ (line : Term). holds s line ≡ true) (equal (zone_from p.stack) (word (had 2 - p.stack))) (equal (at_entry 2) (word (had 2)) ∷ [])
    (word_line s (zone_from p.stack) (had 2 - p.stack) (zone_from_is s (had 2) p.stack room below (entries 2)))
    (all_more (λ (line : Term). holds s line ≡ true) (equal (at_entry 2) (word (had 2))) []
    (word_line s (at_entry 2) (had 2) (open_value s (entry_register 2) ∙ entries 2))
    (λ i d lt. absurd (omega (arith, lt))))
