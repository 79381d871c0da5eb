-- A store whose tests hold keeps the fixed bytes.
use Rattle.std.proofs.Common.{◌≡◌, ◌∙◌, ◌⊎◌, inl, inr, ℕ, ◌+◌, ◌-◌, ◌%◌, ◌^◌, ◌<◌, ◌==◌, Bool, true, false, cond, refl, sym, ap, arith, eqb-true, List, [], ◌∷◌, ◌++◌, length, map, Some, None}
use Rattle.std.specs.Prelude.{Contains, nat_lt, ◌||◌}
use Rattle.std.specs.List.{list_all}
use Rattle.std.proofs.lemmas.Bool.{and_parts, or_cases, ltb-true}
use Rattle.std.proofs.lemmas.List.Folds.{list_all-append, list_all-map, list_all_at}
use Rattle.rv_instr.specs.declared.StoreKind.{StoreKind}
use Rattle.rv_instr.specs.declared.StoreKind.TheVariants as store_kind
use Rattle.rv_machine_spec.specs.Machine as machine
use Rattle.memory_spec.specs.Memory.{Memory, byte_at}
use Rattle.rv_machine_spec.specs.Machine.{past}
use Rattle.rv_machine_spec.specs.Step as step
use Rattle.rv_machine_spec.proofs.Memory.{byte_elsewhere}
use Rattle.elf_read_spec.specs.Image.{Image, fixed_byte}
use Rattle.memory_spec.specs.Runs.{Run}
use Rattle.elf_read_spec.specs.Runs.{AreRuns}
use Rattle.code_reach_spec.specs.Code.{HoldsFixed}
use Rattle.term_core_spec.specs.declared.Width.TheVariants.{W32}
use Rattle.term_core_spec.specs.declared.WordOperator.TheVariants as word_op
use Rattle.term_core_spec.specs.Term.{Term, constant, less}
use Rattle.term_core_spec.specs.Value.{Truth, Assignment, value, operation}
use Rattle.graph_core_spec.specs.Run.{is_truth}
use Rattle.decompile_spec.specs.InstructionTerms.{number, avoids, last_written, aligned_for, store_tests}
use Rattle.decompile_laws.proofs.Values.{words_evaluates, less_evaluates, or_evaluates}
use Rattle.decompile_laws.proofs.InstructionTerms.{constant_evaluates}
use Rattle.decompile_laws.specs.Evaluation.{EvaluatesTo, all_hold}
use Rattle.decompile_laws.proofs.Covered.{covered}

pub parts_hold : (s : Assignment) (xs ys : List Term) → all_hold s (xs ++ ys) ≡ true → (all_hold s xs ≡ true) × (all_hold s ys ≡ true)
parts_hold s xs ys h = and_parts (all_hold s xs) (all_hold s ys) (sym (list_all-append (λ t. is_truth (value s t)) xs ys) ∙ h)

pub more_holds : (s : Assignment) (xs : List Term) (t : Term) → all_hold s xs ≡ true → is_truth (value s t) ≡ true → all_hold s (xs ++ t ∷ []) ≡ true
more_holds s xs t h here = list_all-append (λ x. is_truth (value s x)) xs (t ∷ []) ∙ (rw (h, here) refl)

-- ---- the runs of fixed bytes

-- the last address that a store writes
last_of : StoreKind → ℕ → ℕ
last_of store_kind.Byte n = n
last_of store_kind.Half n = past n 1
last_of store_kind.Word n = past n 3

last_evaluates : (s : Assignment) (kind : StoreKind) (a : Term) (n : ℕ) → EvaluatesTo s a n → EvaluatesTo s (last_written kind a) (last_of kind n)
unfolding last_of operation
last_evaluates s store_kind.Byte a n ea = ea
last_evaluates s store_kind.Half a n ea = words_evaluates s word_op.Add a (constant W32 1) n 1 ea (constant_evaluates s 1)
last_evaluates s store_kind.Word a n ea = words_evaluates s word_op.Add a (constant W32 3) n 3 ea (constant_evaluates s 3)

avoids_evaluates : (s : Assignment) (a e : Term) (n l : ℕ) (run : Run) → EvaluatesTo s a n → EvaluatesTo s e l
    → value s (avoids a e run) ≡ Truth (nat_lt (run.start + length run.bytes - 1) n || nat_lt l run.start)
avoids_evaluates s a e n l run ea ee =
    or_evaluates s (less (number (run.start + length run.bytes - 1)) a) (less e (number run.start)) _ _
    (less_evaluates s (number (run.start + length run.bytes - 1)) a (run.start + length run.bytes - 1) n (constant_evaluates s (run.start + length run.bytes - 1)) ea)
    (less_evaluates s e (number run.start) l run.start ee (constant_evaluates s run.start))

-- each of the tests holds
each_avoided : (s : Assignment) (a e : Term) (runs : List Run) → all_hold s (map (avoids a e) runs) ≡ true → (run : Run) → Contains runs run
    → is_truth (value s (avoids a e run)) ≡ true
each_avoided s a e runs h run (k, below, is) = at (is_truth (value s (avoids a e run))) refl
  where
    test : Run → Bool
    test r = is_truth (value s (avoids a e r))

    held : list_all test runs ≡ true
    held = sym (list_all-map (λ t. is_truth (value s t)) (avoids a e) runs) ∙ h

    at : (b : Bool) → is_truth (value s (avoids a e run)) ≡ b → is_truth (value s (avoids a e run)) ≡ true
    at true found = found
    at false found =
        let fails : list_all test runs ≡ false = list_all_at test runs k run below (ap test is ∙ found) in
        let bad : true ≡ false = sym held ∙ fails in
        cc

module _ (image : Image) (runs : List Run) (are : AreRuns image runs) (s : Assignment) (a e : Term) (n l : ℕ) (ea : EvaluatesTo s a n) (ee : EvaluatesTo s e l)
    (h : all_hold s (map (avoids a e) runs) ≡ true) where
  -- a fixed byte lies before or after what is written
  apart : (address byte : ℕ) → fixed_byte image address ≡ Some byte → (address < n) ⊎ (l < address)
  apart address byte is =
      let found = covered image runs are address byte is in
      let holds : (nat_lt (found.0.start + length found.0.bytes - 1) n || nat_lt l found.0.start) ≡ true =
      sym (ap is_truth (avoids_evaluates s a e n l found.0 ea ee)) ∙ each_avoided s a e runs h found.0 found.1 in
      elim (or_cases (nat_lt (found.0.start + length found.0.bytes - 1) n) (nat_lt l found.0.start) holds) [
        | inl before ↦ inl (omega (arith, ltb-true (found.0.start + length found.0.bytes - 1) n before, found.3))
        | inr following ↦ inr (omega (arith, ltb-true l found.0.start following, found.2))
      ]

-- ---- what a store writes

-- which bytes stay
stays : (kind : StoreKind) (bytes after : Memory) (n v q : ℕ) → n < 2 ^ 32 → step.store kind bytes n v ≡ Some after → (q < n) ⊎ (last_of kind n < q) → byte_at after q ≡ byte_at bytes q
unfolding step.store last_of machine.store_half machine.store_word
stays store_kind.Byte bytes after n v q below is side =
    let same : machine.store_byte bytes n v ≡ after = cc in
    ap (λ m. byte_at m q) (sym same) ∙ byte_elsewhere bytes n v q (λ e. elim side [ inl less ↦ absurd (omega arith) | inr more ↦ absurd (omega arith) ])
stays store_kind.Half bytes after n v q below is side = at (n % 2 == 0) refl is
  where
    at : (b : Bool) → (n % 2 == 0) ≡ b → cond b (Some (machine.store_half bytes n v)) None ≡ Some after → byte_at after q ≡ byte_at bytes q
    at true e found =
        let even : n % 2 ≡ 0 = eqb-true (n % 2) 0 e in
        let same : machine.store_half bytes n v ≡ after = cc in
        ap (λ m. byte_at m q) (sym same)
        ∙ byte_elsewhere _ (past n 1) _ q (λ f. elim side [ inl less ↦ absurd (omega arith) | inr more ↦ absurd (omega arith) ])
        ∙ byte_elsewhere bytes n v q (λ f. elim side [ inl less ↦ absurd (omega arith) | inr more ↦ absurd (omega arith) ])
    at false e found = absurd (cc)
stays store_kind.Word bytes after n v q below is side = at (n % 4 == 0) refl is
  where
    at : (b : Bool) → (n % 4 == 0) ≡ b → cond b (Some (machine.store_word bytes n v)) None ≡ Some after → byte_at after q ≡ byte_at bytes q
    at true e found =
        let whole : n % 4 ≡ 0 = eqb-true (n % 4) 0 e in
        let same : machine.store_word bytes n v ≡ after = cc in
        ap (λ m. byte_at m q) (sym same)
        ∙ byte_elsewhere _ (past n 3) _ q (λ f. elim side [ inl less ↦ absurd (omega arith) | inr more ↦ absurd (omega arith) ])
        ∙ byte_elsewhere _ (past n 2) _ q (λ f. elim side [ inl less ↦ absurd (omega arith) | inr more ↦ absurd (omega arith) ])
        ∙ byte_elsewhere _ (past n 1) _ q (λ f. elim side [ inl less ↦ absurd (omega arith) | inr more ↦ absurd (omega arith) ])
        ∙ byte_elsewhere bytes n v q (λ f. elim side [ inl less ↦ absurd (omega arith) | inr more ↦ absurd (omega arith) ])
    at false e found = absurd (cc)

pub store_keeps : (image : Image) (runs : List Run) → AreRuns image runs → (s : Assignment) (kind : StoreKind) (a : Term) (bytes after : Memory) (n v : ℕ)
    → n < 2 ^ 32 → EvaluatesTo s a n → all_hold s (store_tests runs kind a) ≡ true → step.store kind bytes n v ≡ Some after → HoldsFixed image bytes → HoldsFixed image after
store_keeps image runs are s kind a bytes after n v below ea h is fixed address byte there =
    let parts = parts_hold s (aligned_for kind a) (map (avoids a (last_written kind a)) runs) h in
    stays kind bytes after n v address below is
    (apart image runs are s a (last_written kind a) n (last_of kind n) ea (last_evaluates s kind a n ea) parts.1 address byte there)
    ∙ fixed address byte there
