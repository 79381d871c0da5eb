-- Where a jump by a table goes: to the word of the index, which is below the number of words.
use Rattle.std.proofs.Common.{◌≡◌, ◌∙◌, ℕ, zero, suc, ◌+◌, ◌-◌, ◌*◌, ◌%◌, ◌^◌, ◌<◌, ◌≤◌, ◌==◌, ◌&&◌, if◌then◌else◌, Bool, true, false, refl, sym, ap, ap₂, subst, arith, eqb-true, length, get_or, List, [], ◌∷◌, Option, Some, None}
use Rattle.std.specs.Prelude.{Contains, nat_le}
use Rattle.std.specs.Option.{option_or}
use Rattle.std.proofs.lemmas.Bool.{and_parts, leb-true}
use Rattle.std.proofs.lemmas.Option.{same_Some}
use Rattle.rv_instr.specs.declared.Instr.{Instr}
use Rattle.rv_machine_spec.specs.Machine.{Machine, read_register}
use Rattle.elf_read_spec.specs.Image.{Image}
use Rattle.code_reach_spec.specs.RunUp.{Symbolic, Constant, Initial, Unknown, Sum, Difference, Shifted, Masked, same, parts_of, shift_of, indexed, table_of_parts, Bound, Table, Followed, followed, before_all, table_from, bound_on, with_first, bounded, looked_up}
use Rattle.code_reach_spec.specs.Code.{TableJump, word_at, straight, words_on, words_from, most_targets, jump_with, jump_by, jump_after, jump_from, table_jump}
use Rattle.term_core_spec.specs.declared.Width.TheVariants.{W32}
use Rattle.term_core_spec.specs.Value.{Number, Assignment}
use Rattle.decompile_spec.specs.State.{table_index}
use Rattle.decompile_laws.specs.RunUps.{Free, number_of, Has, HasKept}
use Rattle.code_reach_spec.proofs.RunUp.{same-eq, parts-are}

-- ---- the run-up

-- a jump's run-up, its table and its bound
pub record LookedUp (image : Image) (r address : ℕ) (jump : TableJump) : Type 0 where
  pub words : List Instr
  pub words_are : straight image (address - 4 * jump.before) jump.before ≡ Some words
  pub first : ℕ
  pub bound : Bound
  pub found : looked_up r (address - 4 * jump.before) words ≡ Some (first, bound)
  pub aligned : first % 4 ≡ 0
  pub few : bound.count ≤ most_targets
  pub below : first + 4 * bound.count ≤ 2 ^ 32
  pub targets_are : words_from image first bound.count ≡ Some jump.targets
  pub branch_is : jump.branch ≡ bound.branch

module _ (image : Image) (r address : ℕ) (jump : TableJump) where
  with_targets : (before first : ℕ) (bound : Bound) (words : List Instr) → straight image (address - 4 * before) before ≡ Some words
      → looked_up r (address - 4 * before) words ≡ Some (first, bound) → first % 4 ≡ 0 → bound.count ≤ most_targets → first + 4 * bound.count ≤ 2 ^ 32
      → (o : Option (List ℕ)) → words_from image first bound.count ≡ o → jump_with before bound o ≡ Some jump → LookedUp image r address jump
  with_targets before first bound words are found aligned few below None is e = absurd (cc)
  with_targets before first bound words are found aligned few below (Some targets) is e =
      subst (λ (j : TableJump). LookedUp image r address j)
      (same_Some (record { before = before; branch = bound.branch; targets = targets }) jump e)
      (record { words = words; words_are = are; first = first; bound = bound; found = found; aligned = aligned; few = few; below = below; targets_are = is; branch_is = refl })

  with_bound : (before : ℕ) (words : List Instr) → straight image (address - 4 * before) before ≡ Some words
      → (o : Option (ℕ × Bound)) → looked_up r (address - 4 * before) words ≡ o → jump_by image before o ≡ Some jump → LookedUp image r address jump
  with_bound before words are None found e = absurd (cc)
  with_bound before words are (Some (first, bound)) found e = by holds refl e
    where
      holds : Bool
      holds = (first % 4 == 0) && (nat_le 1 bound.count && (nat_le bound.count most_targets && nat_le (first + 4 * bound.count) (2 ^ 32)))

      by : (b : Bool) → holds ≡ b → (if b then jump_with before bound (words_from image first bound.count) else None) ≡ Some jump → LookedUp image r address jump
      by true is h =
          let one = and_parts (first % 4 == 0) (nat_le 1 bound.count && (nat_le bound.count most_targets && nat_le (first + 4 * bound.count) (2 ^ 32))) is in
          let two = and_parts (nat_le 1 bound.count) (nat_le bound.count most_targets && nat_le (first + 4 * bound.count) (2 ^ 32)) one.1 in
          let three = and_parts (nat_le bound.count most_targets) (nat_le (first + 4 * bound.count) (2 ^ 32)) two.1 in
          with_targets before first bound words are found (eqb-true (first % 4) 0 one.0) (leb-true bound.count most_targets three.0) (leb-true (first + 4 * bound.count) (2 ^ 32) three.1)
          (words_from image first bound.count) refl h
      by false is h = absurd (cc)

  from_words : (before : ℕ) (o : Option (List Instr)) → straight image (address - 4 * before) before ≡ o
      → jump_after image r (address - 4 * before) before o ≡ Some jump → LookedUp image r address jump
  from_words before None are e = absurd (cc)
  from_words before (Some words) are e = with_bound before words are (looked_up r (address - 4 * before) words) refl e

  -- the jump has a run-up
  pub has_run_up : (most : ℕ) → table_jump image r address most ≡ Some jump → LookedUp image r address jump
  unfolding table_jump
  has_run_up zero e = absurd (cc)
  has_run_up (suc most) e = by (table_jump image r address most) refl e (has_run_up most)
    where
      by : (o : Option TableJump) → table_jump image r address most ≡ o → option_or o (jump_from image r address (suc most)) ≡ Some jump
          → (table_jump image r address most ≡ Some jump → LookedUp image r address jump) → LookedUp image r address jump
      by None is h shorter = from_words (suc most) (straight image (address - 4 * suc most) (suc most)) refl h
      by (Some other) is h shorter = shorter (is ∙ h)

-- its run-up is among so many words
before_with : (before : ℕ) (bound : Bound) (o : Option (List ℕ)) (jump : TableJump) → jump_with before bound o ≡ Some jump → jump.before ≡ before
before_with before bound None jump e = absurd (cc)
before_with before bound (Some targets) jump e =
    ap (λ (j : TableJump). j.before) (sym (same_Some (record { before = before; branch = bound.branch; targets = targets }) jump e))

before_by : (image : Image) (before : ℕ) (o : Option (ℕ × Bound)) (jump : TableJump) → jump_by image before o ≡ Some jump → jump.before ≡ before
before_by image before None jump e = absurd (cc)
before_by image before (Some (first, bound)) jump e =
    by ((first % 4 == 0) && (nat_le 1 bound.count && (nat_le bound.count most_targets && nat_le (first + 4 * bound.count) (2 ^ 32)))) e
  where
    by : (b : Bool) → (if b then jump_with before bound (words_from image first bound.count) else None) ≡ Some jump → jump.before ≡ before
    by true h = before_with before bound (words_from image first bound.count) jump h
    by false h = absurd (cc)

before_after : (image : Image) (r start before : ℕ) (o : Option (List Instr)) (jump : TableJump) → jump_after image r start before o ≡ Some jump → jump.before ≡ before
before_after image r start before None jump e = absurd (cc)
before_after image r start before (Some words) jump e = before_by image before (looked_up r start words) jump e

pub before_within : (image : Image) (r address : ℕ) (jump : TableJump) (most : ℕ) → table_jump image r address most ≡ Some jump → jump.before ≤ most
unfolding table_jump
before_within image r address jump zero e = absurd (cc)
before_within image r address jump (suc most) e = by (table_jump image r address most) refl e (before_within image r address jump most)
  where
    by : (o : Option TableJump) → table_jump image r address most ≡ o → option_or o (jump_from image r address (suc most)) ≡ Some jump
        → (table_jump image r address most ≡ Some jump → jump.before ≤ most) → jump.before ≤ suc most
    by None is h shorter =
        omega (arith, before_after image r (address - 4 * suc most) (suc most) (straight image (address - 4 * suc most) (suc most)) jump h)
    by (Some other) is h shorter = omega (arith, shorter (is ∙ h))

-- ---- its words

pub words_long : (image : Image) (address count : ℕ) (words : List ℕ) → words_from image address count ≡ Some words → length words ≡ count
unfolding words_from
words_long image address zero words e = ap (λ (l : List ℕ). length l) (sym (same_Some [] words e))
words_long image address (suc count) words e = by (word_at image address) (words_from image (address + 4) count) refl e (words_long image (address + 4) count)
  where
    by : (w : Option ℕ) (rest : Option (List ℕ)) → words_from image (address + 4) count ≡ rest → words_on w rest ≡ Some words
        → ((ws : List ℕ) → words_from image (address + 4) count ≡ Some ws → length ws ≡ count) → length words ≡ suc count
    by None rest are h each = absurd (cc)
    by (Some w) None are h each = absurd (cc)
    by (Some w) (Some ws) are h each = ap (λ (l : List ℕ). length l) (sym (same_Some (w ∷ ws) words h)) ∙ ap suc (each ws are)

IsWord : Image → (address k : ℕ) → List ℕ → Type 0
IsWord image address k words = word_at image (address + 4 * k) ≡ Some (get_or words k 0)

first_word : (image : Image) (address w : ℕ) (ws : List ℕ) → word_at image address ≡ Some w → IsWord image address 0 (w ∷ ws)
unfolding IsWord
first_word image address w ws is = let here : address + 4 * 0 ≡ address = omega arith in ap (λ a. word_at image a) here ∙ is

later_word : (image : Image) (address w k : ℕ) (ws : List ℕ) → IsWord image (address + 4) k ws → IsWord image address (suc k) (w ∷ ws)
unfolding IsWord
later_word image address w k ws is = let there : address + 4 * suc k ≡ address + 4 + 4 * k = omega arith in ap (λ a. word_at image a) there ∙ is

-- the words of a table, by index
word_of : (image : Image) (address count k : ℕ) (words : List ℕ) → words_from image address count ≡ Some words → k < count → IsWord image address k words
unfolding words_from
word_of image address zero k words e lt = absurd (omega (arith, lt))
word_of image address (suc count) zero words e lt = by (word_at image address) (words_from image (address + 4) count) refl e
  where
    by : (w : Option ℕ) (rest : Option (List ℕ)) → word_at image address ≡ w → words_on w rest ≡ Some words → IsWord image address 0 words
    by None rest is h = absurd (cc)
    by (Some w) None is h = absurd (cc)
    by (Some w) (Some ws) is h = subst (λ (l : List ℕ). IsWord image address 0 l) (same_Some (w ∷ ws) words h) (first_word image address w ws is)
word_of image address (suc count) (suc k) words e lt =
    by (word_at image address) (words_from image (address + 4) count) refl e (λ ws are. word_of image (address + 4) count k ws are (omega (arith, lt)))
  where
    by : (w : Option ℕ) (rest : Option (List ℕ)) → words_from image (address + 4) count ≡ rest → words_on w rest ≡ Some words
        → ((ws : List ℕ) → words_from image (address + 4) count ≡ Some ws → IsWord image (address + 4) k ws) → IsWord image address (suc k) words
    by None rest are h each = absurd (cc)
    by (Some w) None are h each = absurd (cc)
    by (Some w) (Some ws) are h each = subst (λ (l : List ℕ). IsWord image address (suc k) l) (same_Some (w ∷ ws) words h) (later_word image address w k ws (each ws are))

-- ---- where it goes

shift-is : (a x : Symbolic) (n : ℕ) → shift_of a ≡ Some (x, n) → a ≡ Shifted x n
unfolding shift_of
shift-is (Shifted b m) x n e = ap (λ (p : Symbolic × ℕ). Shifted p.0 p.1) (same_Some (b, m) (x, n) e)
shift-is (Constant k) x n e = absurd (cc)
shift-is (Initial k) x n e = absurd (cc)
shift-is (Unknown k) x n e = absurd (cc)
shift-is (Sum b c) x n e = absurd (cc)
shift-is (Difference b c) x n e = absurd (cc)
shift-is (Masked b k) x n e = absurd (cc)

IsTableAt : Symbolic → Table → Type 0
IsTableAt s table = s ≡ Sum (Shifted table.index 2) (Constant table.first)

sourced : (s : Symbolic) (table : Table) → table_of_parts (parts_of s) ≡ Some table → IsTableAt s table
unfolding IsTableAt
sourced s table e = by (parts_of s) refl e
  where
    indexed_by : (a : Symbolic) (first : ℕ) → parts_of s ≡ Some (a, first) → (o : Option (Symbolic × ℕ)) → shift_of a ≡ o → indexed first o ≡ Some table
        → s ≡ Sum (Shifted table.index 2) (Constant table.first)
    indexed_by a first is None shifts h = absurd (cc)
    indexed_by a first is (Some (x, amount)) shifts h = at (amount == 2) refl h
      where
        at : (b : Bool) → (amount == 2) ≡ b → (if b then Some (record { first = first; index = x }) else None) ≡ Some table
            → s ≡ Sum (Shifted table.index 2) (Constant table.first)
        at true two g =
            parts-are s a first is
            ∙ (ap (λ (t : Symbolic). Sum t (Constant first)) (shift-is a x amount shifts ∙ ap (λ k. Shifted x k) (eqb-true amount 2 two))
            ∙ ap (λ (t : Table). Sum (Shifted t.index 2) (Constant t.first)) (same_Some (record { first = first; index = x }) table g))
        at false two g = absurd (cc)

    by : (o : Option (Symbolic × ℕ)) → parts_of s ≡ o → table_of_parts o ≡ Some table → s ≡ Sum (Shifted table.index 2) (Constant table.first)
    by None is h = absurd (cc)
    by (Some (a, first)) is h = indexed_by a first is (shift_of a) refl h

rest_among : (b : Bound) (bs : List Bound) (bound : Bound) → Contains bs bound → Contains (b ∷ bs) bound
rest_among b bs bound (k, within, e) = (suc k, omega (arith, within), e)

bound_among : (x : Symbolic) (bounds : List Bound) (bound : Bound) → bound_on x bounds ≡ Some bound → Contains bounds bound × (bound.index ≡ x)
bound_among x [] bound e = absurd (cc)
bound_among x (b ∷ bs) bound e = by (same b.index x) refl e (bound_among x bs bound)
  where
    by : (z : Bool) → same b.index x ≡ z → (if z then Some b else bound_on x bs) ≡ Some bound → (bound_on x bs ≡ Some bound → Contains bs bound × (bound.index ≡ x))
        → Contains (b ∷ bs) bound × (bound.index ≡ x)
    by true is h rest =
        let equal = same_Some b bound h in
        ((0, omega arith, equal), ap (λ (o : Bound). o.index) (sym equal) ∙ same-eq b.index x is)
    by false is h rest = let found = rest h in (rest_among b bs bound found.0, found.1)

-- what a run-up that ends with a table has
pub record Ends (f : Followed) (first : ℕ) (bound : Bound) : Type 0 where
  pub source : Symbolic
  pub source_is : f.source ≡ Some source
  pub table_is : source ≡ Sum (Shifted bound.index 2) (Constant first)
  pub among : Contains f.bounds bound

pub ends : (f : Followed) (first : ℕ) (bound : Bound) → bounded f.bounds (table_from f.source) ≡ Some (first, bound) → Ends f first bound
unfolding IsTableAt
ends f first bound e = by f.source refl e
  where
    with_bound_of : (table : Table) (s : Symbolic) → f.source ≡ Some s → IsTableAt s table → (o : Option Bound) → bound_on table.index f.bounds ≡ o
        → with_first table.first o ≡ Some (first, bound) → Ends f first bound
    with_bound_of table s is at None found h = absurd (cc)
    with_bound_of table s is at (Some b) found h =
        let pair = same_Some (table.first, b) (first, bound) h in
        let among = bound_among table.index f.bounds b found in
        let here : b ≡ bound = ap (λ (p : ℕ × Bound). p.1) pair in
        let index : table.index ≡ bound.index = sym among.1 ∙ ap (λ (o : Bound). o.index) here in
        record {
          source = s;
          source_is = is;
          table_is = at ∙ ap₂ (λ (x : Symbolic) (n : ℕ). Sum (Shifted x 2) (Constant n)) index (ap (λ (p : ℕ × Bound). p.0) pair);
          among = subst (λ (o : Bound). Contains f.bounds o) here among.0;
        }

    with_table_of : (s : Symbolic) → f.source ≡ Some s → (o : Option Table) → table_of_parts (parts_of s) ≡ o → bounded f.bounds o ≡ Some (first, bound) → Ends f first bound
    with_table_of s is None found h = absurd (cc)
    with_table_of s is (Some table) found h = with_bound_of table s is (sourced s table found) (bound_on table.index f.bounds) refl h

    by : (o : Option Symbolic) → f.source ≡ o → bounded f.bounds (table_from o) ≡ Some (first, bound) → Ends f first bound
    by None is h = absurd (cc)
    by (Some s) is h = with_table_of s is (table_of_parts (parts_of s)) refl h

-- the word of the state has an index below the number of targets, and the register the target of that index
pub record GoesTo (m : Machine) (values : Assignment) (r : ℕ) (targets : List ℕ) : Type 0 where
  pub index : ℕ
  pub small : index < length targets
  pub kept : values table_index ≡ Number W32 index
  pub target_is : read_register m r ≡ get_or targets index 0

table_number : (free : Free) (x : Symbolic) (first : ℕ) → number_of free (Sum (Shifted x 2) (Constant first)) ≡ (number_of free x * 2 ^ 2 % 2 ^ 32 + first % 2 ^ 32) % 2 ^ 32
unfolding number_of
table_number free x first = refl

pub goes_to : (image : Image) (m : Machine) (values : Assignment) (free : Free) (r address : ℕ) (jump : TableJump) (looked : LookedUp image r address jump)
    → Has image m free r (followed r (address - 4 * jump.before) looked.words before_all)
    → HasKept values free jump.branch (followed r (address - 4 * jump.before) looked.words before_all) → GoesTo m values r jump.targets
unfolding IsWord
goes_to image m values free r address jump looked has kept =
    let f = followed r (address - 4 * jump.before) looked.words before_all in
    let end = ends f looked.first looked.bound looked.found in
    let k : ℕ = number_of free looked.bound.index in
    let small : k < looked.bound.count = has.below looked.bound end.among in
    let word : word_at image (looked.first + 4 * k) ≡ Some (get_or jump.targets k 0) = word_of image looked.first looked.bound.count k jump.targets looked.targets_are small in
    let number : number_of free end.source ≡ (k * 2 ^ 2 % 2 ^ 32 + looked.first % 2 ^ 32) % 2 ^ 32 =
    ap (λ (s : Symbolic). number_of free s) end.table_is ∙ table_number free looked.bound.index looked.first in
    let there : number_of free end.source ≡ looked.first + 4 * k = omega (arith, number, small, looked.below) in
    let long : length jump.targets ≡ looked.bound.count = words_long image looked.first looked.bound.count jump.targets looked.targets_are in
    record {
      index = k;
      small = omega (arith, long, small);
      kept = kept looked.bound end.among (sym looked.branch_is);
      target_is = has.loaded end.source (get_or jump.targets k 0) end.source_is (ap (λ a. word_at image a) there ∙ word);
    }
