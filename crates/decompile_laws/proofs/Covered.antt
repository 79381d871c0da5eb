-- Every fixed byte lies in a run.
use Rattle.std.proofs.Common.{◌≡◌, ◌∙◌, inl, inr, ℕ, zero, suc, ◌+◌, ◌-◌, ◌<◌, ◌≤◌, Bool, true, false, cond, refl, sym, ap, arith, List, [], ◌∷◌, length, Option, Some, None}
use Rattle.std.specs.Prelude.{Contains, slice_get}
use Rattle.std.specs.Option.{option_or}
use Rattle.std.proofs.lemmas.Bool.{cases_lt, le-leb}
use Rattle.std.proofs.lemmas.Option.{slice_get_past}
use Rattle.elf_read_spec.specs.Image.{Image, Segment, is_fixed, byte_in, fixed_among, fixed_byte}
use Rattle.memory_spec.specs.Runs.{Run}
use Rattle.elf_read_spec.specs.Runs.{AreRuns}

-- ---- no byte is fixed from some address on

past_segment : (segment : Segment) (address : ℕ) → segment.vaddr + length segment.bytes ≤ address → cond (is_fixed segment) (byte_in segment address) None ≡ None
past_segment segment address past = at (is_fixed segment)
  where
    at : (b : Bool) → cond b (byte_in segment address) None ≡ None
    at true = rw (le-leb segment.vaddr address (omega arith)) (slice_get_past segment.bytes (address - segment.vaddr) (omega arith))
    at false = refl

end_of : List Segment → ℕ
end_of [] = 0
end_of (segment ∷ segments) = segment.vaddr + length segment.bytes + end_of segments

past_all : (segments : List Segment) (address : ℕ) → end_of segments ≤ address → fixed_among segments address ≡ None
unfolding end_of
past_all [] address past = refl
past_all (segment ∷ segments) address past =
    ap (λ (o : Option ℕ). option_or o (fixed_among segments address)) (past_segment segment address (omega arith))
    ∙ past_all segments address (omega arith)

module _ (image : Image) where
  none_past : (address : ℕ) → end_of image.segments ≤ address → fixed_byte image address ≡ None
  unfolding fixed_byte
  none_past address past = past_all image.segments address past

  -- ---- the bytes from an address up to the next that isn't fixed

  record Upward (start : ℕ) : Type 0 where
    bytes : List ℕ
    are : (k : ℕ) → k < length bytes → fixed_byte image (start + k) ≡ slice_get bytes k
    stop : fixed_byte image (start + length bytes) ≡ None

  longer : (start b : ℕ) → fixed_byte image start ≡ Some b → Upward (start + 1) → Upward start
  longer start b e up = record {
    bytes = b ∷ up.bytes;
    are = there;
    stop = ap (fixed_byte image) {y = start + 1 + length up.bytes} (omega arith) ∙ up.stop;
  }
    where
      there : (k : ℕ) → k < length (b ∷ up.bytes) → fixed_byte image (start + k) ≡ slice_get (b ∷ up.bytes) k
      there zero below = ap (fixed_byte image) {y = start} (omega arith) ∙ e
      there (suc k) below = ap (fixed_byte image) {y = start + 1 + k} (omega arith) ∙ up.are k (omega arith)

  either_way : (start : ℕ) → (o : Option ℕ) → fixed_byte image start ≡ o → Upward (start + 1) → Upward start
  either_way start None e up = record { bytes = []; are = λ k below. absurd (omega arith); stop = ap (fixed_byte image) {y = start} (omega arith) ∙ e }
  either_way start (Some b) e up = longer start b e up

  upward : (fuel start : ℕ) → end_of image.segments ≤ start + fuel → Upward start
  upward zero start enough = record { bytes = []; are = λ k below. absurd (omega arith); stop = none_past (start + 0) (omega arith) }
  upward (suc fuel) start enough = either_way start (fixed_byte image start) refl (upward fuel (start + 1) (omega arith))

  -- ---- the first of the fixed bytes up to an address

  record Downward (address : ℕ) : Type 0 where
    start : ℕ
    below : start ≤ address
    between : (a : ℕ) → start ≤ a → a ≤ address → fixed_byte image a ≡ None → ⊥
    begins : (a : ℕ) → a + 1 ≡ start → fixed_byte image a ≡ None

  only_itself : (address : ℕ) → (fixed_byte image address ≡ None → ⊥) → (a : ℕ) → address ≤ a → a ≤ address → fixed_byte image a ≡ None → ⊥
  only_itself address some a from to none =
      let same : a ≡ address = omega arith in
      some (ap (fixed_byte image) (sym same) ∙ none)

  further : (address : ℕ) → (fixed_byte image (suc address) ≡ None → ⊥) → Downward address → Downward (suc address)
  further address some down = record {
    start = down.start;
    below = omega (arith, down.below);
    between = λ a from to none. elim (cases_lt address a) [
      | inl last ↦ some (ap (fixed_byte image) {y = a} (omega arith) ∙ none)
      | inr before ↦ down.between a from before none
    ];
    begins = down.begins;
  }

  or_here : (address : ℕ) → (fixed_byte image (suc address) ≡ None → ⊥) → (o : Option ℕ) → fixed_byte image address ≡ o
      → ((fixed_byte image address ≡ None → ⊥) → Downward address) → Downward (suc address)
  or_here address some None e before =
      record { start = suc address; below = omega arith; between = only_itself (suc address) some; begins = λ a same. ap (fixed_byte image) {y = address} (omega arith) ∙ e }
  or_here address some (Some b) e before = further address some (before (λ none. let bad : Some b ≡ None = sym e ∙ none in cc))

  downward : (address : ℕ) → (fixed_byte image address ≡ None → ⊥) → Downward address
  downward zero some = record { start = 0; below = omega arith; between = only_itself 0 some; begins = λ a e. absurd (omega arith) }
  downward (suc address) some = or_here address some (fixed_byte image address) refl (downward address)

  -- ---- the run

  pub covered : (runs : List Run) → AreRuns image runs → (address byte : ℕ) → fixed_byte image address ≡ Some byte
      → (run : Run) × Contains runs run × (run.start ≤ address) × (address < run.start + length run.bytes)
  covered runs are address byte is =
      let down = downward address (λ none. let bad : Some byte ≡ None = sym is ∙ none in cc) in
      made down (upward (end_of image.segments) down.start (omega arith))
    where
      made : (down : Downward address) → Upward down.start → (run : Run) × Contains runs run × (run.start ≤ address) × (address < run.start + length run.bytes)
      made down up =
          let long : address < down.start + length up.bytes = elim (cases_lt address (down.start + length up.bytes)) [
            | inl far ↦ far
            | inr short ↦ absurd (down.between (down.start + length up.bytes) (omega arith) short up.stop)
          ] in
          let run : Run = record { start = down.start; bytes = up.bytes } in (
            run,
            (are.exactly run).1 (record {
              not_empty = λ e. let none : length up.bytes ≡ 0 = ap (λ (xs : List ℕ). length xs) e in absurd (omega (arith, down.below));
              fixed = up.are;
              begins = down.begins;
              ends = up.stop;
            }),
            down.below,
            long,
          )
