-- The runs of fixed bytes have the fixed bytes, and nothing else.
use Rattle.std.proofs.Common.{◌≡◌, ◌+◌, ◌-◌, ◌^◌, ◌<◌, ◌≤◌, ◌∙◌, ℕ, zero, suc, Bool, true, false, cond, List, [], ◌∷◌, All, length, slice_get, map, Option, Some, None, IsSome, unwrap_or, refl, sym, ap, subst, arith, inl, inr}
use Rattle.std.specs.Prelude.{nat_le}
use Rattle.std.specs.Option.{option_or}
use Rattle.std.proofs.lemmas.Bool.{cases_eq, cases_lt}
use Rattle.std.proofs.Math.ListN.{get_or-map}
use Rattle.std.proofs.lemmas.List.{get_or_default, length-map}
use Rattle.std.proofs.lemmas.List.Elements.{All-take, All-drop}
use Rattle.std.proofs.lemmas.Option.{slice_get_within, slice_get_past, get_or_from_slice_get}
use Rattle.memory_spec.specs.Runs as memory
use Rattle.memory_spec.specs.Runs.{Run, byte_in, AreBytes}
use Rattle.memory_spec.proofs.Runs.{byte_of_run, some_byte, byte_at_offset, byte_after, le_true}
use Rattle.elf_read_spec.specs.Image.{Image, Segment, is_fixed, fixed_among, fixed_byte}
use Rattle.elf_read_spec.specs.Image as spec
use Rattle.elf_read_spec.specs.File.{IsElf, image_of, loads, segment_at}
use Rattle.elf_read_spec.specs.Runs.{IsRun, AreRuns, HasBytes, bytes_from}

-- ---- the fixed bytes end

nothing : IsSome {T = ℕ} None → ⊥
nothing some = cc

-- no byte is fixed from an address on
record IsEnd (segments : List Segment) (end : ℕ) : Type 0 where
  above : (address : ℕ) → end ≤ address → fixed_among segments address ≡ None

segment_end : (s : Segment) (address : ℕ) → s.vaddr + length s.bytes ≤ address → cond (is_fixed s) (spec.byte_in s address) None ≡ None
segment_end s address h = at (is_fixed s) (nat_le s.vaddr address)
  where
    at : (b c : Bool) → cond b (cond c (slice_get s.bytes (address - s.vaddr)) None) None ≡ None
    at true true = slice_get_past s.bytes (address - s.vaddr) (omega (arith, h))
    at true false = refl
    at false c = refl

record Ends (segments : List Segment) : Type 0 where
  end : ℕ
  is : IsEnd segments end

ends : (segments : List Segment) → Ends segments
ends [] = record { end = 0; is = record { above = λ address h. refl } }
ends (s ∷ segments) = at (ends segments)
  where
    at : Ends segments → Ends (s ∷ segments)
    at rest = record {
      end = s.vaddr + length s.bytes + rest.end;
      is = record {
        above = λ address h.
            ap (λ o. option_or o (fixed_among segments address)) (segment_end s address (omega (arith, h))) ∙ rest.is.above address (omega (arith, h));
      };
    }

module _ (image : Image) where
  -- ---- a run around a fixed byte

  fixed_at : (k n : ℕ) → n ≡ k → IsSome (fixed_byte image n) → IsSome (fixed_byte image k)
  fixed_at k n e some = subst (λ x. IsSome (fixed_byte image x)) e some

  -- the byte is fixed and so are those before it from `start` on, and no longer
  record Begins (address : ℕ) : Type 0 where
    start : ℕ
    from : start ≤ address
    fixed : (k : ℕ) → start ≤ k → k ≤ address → IsSome (fixed_byte image k)
    before : (k : ℕ) → k + 1 ≡ start → fixed_byte image k ≡ None

  begins-further : (a : ℕ) → IsSome (fixed_byte image (suc a)) → Begins a → Begins (suc a)
  begins-further a some there = record {
    start = there.start;
    from = omega (arith, there.from);
    fixed = λ k low high. elim (cases_eq k (suc a)) [
      | inl e ↦ fixed_at k (suc a) (sym e) some
      | inr other ↦ there.fixed k low (grind (arith, high, other))
    ];
    before = there.before;
  }

  begins-here : (a : ℕ) → IsSome (fixed_byte image a) → ((k : ℕ) → k + 1 ≡ a → fixed_byte image k ≡ None) → Begins a
  begins-here a some before = record {
    start = a;
    from = omega arith;
    fixed = λ k low high. fixed_at k a (omega (arith, low, high)) some;
    before = before;
  }

  begins : (address : ℕ) → IsSome (fixed_byte image address) → Begins address
  begins zero some = begins-here 0 some (λ k e. absurd (omega (arith, e)))
  begins (suc a) some = at (fixed_byte image a) refl (begins a)
    where
      at : (o : Option ℕ) → fixed_byte image a ≡ o → (IsSome (fixed_byte image a) → Begins a) → Begins (suc a)
      at None e again = begins-here (suc a) some (λ k same. subst (λ n. fixed_byte image n ≡ None) (omega (arith, same)) e)
      at (Some b) e again = begins-further a some (again (subst IsSome (sym e) refl))

  -- the byte is fixed and so are those after it up to `end`, and no longer
  record Stops (address : ℕ) : Type 0 where
    end : ℕ
    after : address < end
    fixed : (k : ℕ) → address ≤ k → k < end → IsSome (fixed_byte image k)
    open_end : fixed_byte image end ≡ None

  stops-further : (a : ℕ) → IsSome (fixed_byte image a) → Stops (a + 1) → Stops a
  stops-further a some there = record {
    end = there.end;
    after = omega (arith, there.after);
    fixed = λ k low high. elim (cases_eq k a) [
      | inl e ↦ fixed_at k a (sym e) some
      | inr other ↦ there.fixed k (grind (arith, low, other)) high
    ];
    open_end = there.open_end;
  }

  stops-here : (a : ℕ) → IsSome (fixed_byte image a) → fixed_byte image (a + 1) ≡ None → Stops a
  stops-here a some none = record {
    end = a + 1;
    after = omega arith;
    fixed = λ k low high. fixed_at k a (omega (arith, low, high)) some;
    open_end = none;
  }

  -- no byte is fixed so far on
  stops : (fuel address : ℕ) → IsSome (fixed_byte image address) → ((k : ℕ) → address + fuel ≤ k → fixed_byte image k ≡ None) → Stops address
  stops zero address some none = absurd (nothing (subst IsSome (none address (omega arith)) some))
  stops (suc fuel) address some none = at (fixed_byte image (address + 1)) refl (stops fuel (address + 1))
    where
      at : (o : Option ℕ) → fixed_byte image (address + 1) ≡ o
          → (IsSome (fixed_byte image (address + 1)) → ((k : ℕ) → address + 1 + fuel ≤ k → fixed_byte image k ≡ None) → Stops (address + 1))
          → Stops address
      at None e again = stops-here address some e
      at (Some b) e again = stops-further address some (again (subst IsSome (sym e) refl) (λ k h. none k (omega (arith, h))))

  pub length-bytes_from : (start n : ℕ) → length (bytes_from image start n) ≡ n
  unfolding bytes_from
  length-bytes_from start zero = refl
  length-bytes_from start (suc n) = omega (arith, length-bytes_from (start + 1) n)

  byte_read : (o : Option ℕ) → IsSome o → Some (unwrap_or o 0) ≡ o
  byte_read None some = absurd (nothing some)
  byte_read (Some b) some = refl

  pub bytes_from-read : (start n k : ℕ) → k < n → IsSome (fixed_byte image (start + k)) → slice_get (bytes_from image start n) k ≡ fixed_byte image (start + k)
  unfolding bytes_from
  bytes_from-read start zero k h some = absurd (omega arith)
  bytes_from-read start (suc n) zero h some =
      let here : start + 0 ≡ start = omega arith in
      byte_read (fixed_byte image start) (fixed_at start (start + 0) here some) ∙ ap (fixed_byte image) (sym here)
  bytes_from-read start (suc n) (suc k) h some =
      let next : start + 1 + k ≡ start + suc k = omega arith in
      bytes_from-read (start + 1) n k (omega arith) (fixed_at (start + 1 + k) (start + suc k) (sym next) some) ∙ ap (fixed_byte image) next

  -- the run of a fixed byte
  record HasRun (address : ℕ) : Type 0 where
    run : Run
    is_run : IsRun image run
    read : byte_in run address ≡ fixed_byte image address

  run_between : (address : ℕ) → IsSome (fixed_byte image address) → Begins address → Stops address → HasRun address
  run_between address some b s =
      let count : ℕ = s.end - b.start in
      let long : length (bytes_from image b.start (s.end - b.start)) ≡ s.end - b.start = length-bytes_from b.start (s.end - b.start) in
      let whole : b.start + (s.end - b.start) ≡ s.end = omega (arith, b.from, s.after) in
      let all : (k : ℕ) → k < s.end - b.start → IsSome (fixed_byte image (b.start + k)) =
      λ k h. elim (cases_lt address (b.start + k)) [
        | inl later ↦ s.fixed (b.start + k) (omega (arith, later)) (omega (arith, h))
        | inr sooner ↦ b.fixed (b.start + k) (omega arith) sooner
      ] in
      let back : b.start + (address - b.start) ≡ address = omega (arith, b.from) in
      record {
        run = record { start = b.start; bytes = bytes_from image b.start (s.end - b.start) };
        is_run = record {
          not_empty = λ empty. omega (arith, ap length empty, long, b.from, s.after);
          fixed = λ k h. sym (bytes_from-read b.start (s.end - b.start) k (omega (arith, h, long)) (all k (omega (arith, h, long))));
          begins = b.before;
          ends = ap (λ n. fixed_byte image (b.start + n)) long ∙ ap (fixed_byte image) whole ∙ s.open_end;
        };
        read =
            ap (λ c. cond c (slice_get (bytes_from image b.start (s.end - b.start)) (address - b.start)) None) (le_true b.start address b.from)
            ∙ bytes_from-read b.start (s.end - b.start) (address - b.start) (omega (arith, b.from, s.after)) (all (address - b.start) (omega (arith, b.from, s.after)))
            ∙ ap (fixed_byte image) back;
      }

  has_run : (address : ℕ) → IsSome (fixed_byte image address) → HasRun address
  unfolding fixed_byte
  has_run address some =
      let end = ends image.segments in
      run_between address some (begins address some) (stops end.end address some (λ k h. end.is.above k (omega (arith, h))))

  -- ---- the bytes of runs

  read_in : (run : Run) (address byte : ℕ) → IsRun image run → byte_in run address ≡ Some byte → fixed_byte image address ≡ Some byte
  read_in run address byte is e =
      let read = byte_at_offset run address byte e in
      let k : ℕ = address - run.start in
      let back : run.start + (address - run.start) ≡ address = omega (arith, byte_after run address byte e) in
      ap (fixed_byte image) (sym back) ∙ is.fixed (address - run.start) (slice_get_within run.bytes (address - run.start) byte read) ∙ read

  module _ (runs : List Run) (are : AreRuns image runs) where
    only_fixed : (address byte : ℕ) → memory.fixed_byte runs address ≡ Some byte → fixed_byte image address ≡ Some byte
    only_fixed address byte e =
        let there = byte_of_run runs address byte e in
        read_in there.run address byte ((are.exactly there.run).0 there.among) there.read

    every_fixed : (address : ℕ) → IsSome (fixed_byte image address) → IsSome (memory.fixed_byte runs address)
    every_fixed address some =
        let there = has_run address some in
        some_byte runs there.run address ((are.exactly there.run).1 there.is_run) (subst IsSome (sym there.read) some)

    -- the runs have the fixed bytes, and nothing else
    pub runs_are_fixed : (address : ℕ) → memory.fixed_byte runs address ≡ fixed_byte image address
    runs_are_fixed address = at (memory.fixed_byte runs address) (fixed_byte image address) refl refl
      where
        at : (o p : Option ℕ) → memory.fixed_byte runs address ≡ o → fixed_byte image address ≡ p → memory.fixed_byte runs address ≡ fixed_byte image address
        at (Some byte) p e f = e ∙ sym (only_fixed address byte e)
        at None None e f = e ∙ sym f
        at None (Some byte) e f = absurd (nothing (subst IsSome e (every_fixed address (subst IsSome (sym f) refl))))

-- ---- bytes

bytes_among : (segments : List Segment) (address byte : ℕ) → All (λ s. All (λ b. b < 2 ^ 8) s.bytes) segments → fixed_among segments address ≡ Some byte
    → byte < 2 ^ 8
bytes_among [] address byte each e = absurd (cc)
bytes_among (s ∷ segments) address byte each e =
    at (is_fixed s) (nat_le s.vaddr address) (slice_get s.bytes (address - s.vaddr)) refl e
    (λ e. bytes_among segments address byte (λ k d h. each (suc k) d (omega (arith, h))) e)
  where
    at : (b c : Bool) (o : Option ℕ) → slice_get s.bytes (address - s.vaddr) ≡ o
        → option_or (cond b (cond c (slice_get s.bytes (address - s.vaddr)) None) None) (fixed_among segments address) ≡ Some byte
        → (fixed_among segments address ≡ Some byte → byte < 2 ^ 8) → byte < 2 ^ 8
    at true true (Some x) r e again =
        let same : Some x ≡ Some byte = sym (ap (λ o. option_or o (fixed_among segments address)) r) ∙ e in
        let here : slice_get s.bytes (address - s.vaddr) ≡ Some byte = r ∙ same in
        subst (λ b. b < 2 ^ 8) (get_or_from_slice_get s.bytes (address - s.vaddr) byte 0 here)
        (each 0 s (omega arith) (address - s.vaddr) 0 (slice_get_within s.bytes (address - s.vaddr) byte here))
    at true true None r e again = again (sym (ap (λ o. option_or o (fixed_among segments address)) r) ∙ e)
    at true false o r e again = again e
    at false c o r e again = again e

-- the runs of an image of bytes have bytes
pub runs_have_bytes : (image : Image) (runs : List Run) → HasBytes image → AreRuns image runs → AreBytes runs
unfolding fixed_byte
runs_have_bytes image runs has are address byte e = bytes_among image.segments address byte has (only_fixed image runs are address byte e)

-- the image of a file of bytes has bytes
pub file_has_bytes : (bytes : List ℕ) (image : Image) → All (λ b. b < 2 ^ 8) bytes → IsElf bytes image → HasBytes image
unfolding image_of
file_has_bytes bytes image each is =
    subst HasBytes (sym is.image_is) (λ k d h.
    let inside : k < length (loads bytes) = omega (arith, h, length-map (loads bytes) (segment_at bytes)) in
    subst (λ (s : Segment). All (λ b. b < 2 ^ 8) s.bytes)
    (sym (get_or_default (map (segment_at bytes) (loads bytes)) k d (segment_at bytes 0) h ∙ get_or-map (segment_at bytes) (loads bytes) k 0))
    (All-take (λ b. b < 2 ^ 8) _ _ (All-drop (λ b. b < 2 ^ 8) _ bytes each)))
