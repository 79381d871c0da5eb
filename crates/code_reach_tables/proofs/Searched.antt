-- The jump by a table, from what was followed, and the search for the shortest run-up.
use Rattle.std.proofs.Common.{◌≡◌, ◌∙◌, ◌⊎◌, inl, inr, ℕ, zero, suc, ◌+◌, ◌-◌, ◌*◌, ◌<◌, ◌≤◌, Bool, true, false, if◌then◌else◌, refl, sym, ap, subst, arith, length, List, [], ◌∷◌, ◌++◌, Option, Some, None}
use Rattle.std.specs.Prelude.{is_some}
use Rattle.std.specs.Option.{option_or, option_map}
use Rattle.std.proofs.lemmas.Bool.{cases_lt}
use Rattle.rv_instr.specs.declared.Instr.{Instr}
use Rattle.elf_read_spec.specs.Image.{Image}
use Rattle.code_reach_spec.specs.RunUp as run_up
use Rattle.code_reach_spec.specs.RunUp.{Symbolic, Table, is_straight, bound_on, with_first, bounded, Followed, follow, followed, before_all, table_from}
use Rattle.code_reach_spec.proofs.RunUpPlaces.{straight-none, straight-more, straight-long, followed-more}
use Rattle.code_reach_spec.specs.Code.{TableJump, instr_at, straight_on, straight, jump_by, jump_after, jump_from, table_jump}
use Rattle.code_reach_tables.specs.declared.straight.Bound.{Bound}
use Rattle.code_reach_tables.specs.declared.tables.TableJump.{TableJump as Found}
use Rattle.code_reach_tables.specs.Nodes.{Holds}
use Rattle.code_reach_tables.specs.Followed.{IsBound, IsBoundOr, IsFollowed, Follows}
use Rattle.code_reach_tables.specs.declared.straight.Straight.{Straight}
use Rattle.code_reach_tables.specs.Tables.{jump_seen, IsTableOr, IsRun, IsRunOr, is_straight_or, is_before_jump}

-- ---- what was followed

module _ (image : Image) (before : ℕ) (ts : List Symbolic) (bounds : List run_up.Bound) where
  pub no-table-jump : (o : Option Table) → IsTableOr ts None o → jump_by image before (bounded bounds o) ≡ None
  no-table-jump None is = refl
  no-table-jump (Some table) is = absurd is

  no-bound-by : (first : ℕ) (o : Option run_up.Bound) → IsBoundOr ts None o → jump_by image before (with_first first o) ≡ None
  no-bound-by first None is = refl
  no-bound-by first (Some b) is = absurd is

  pub no-bound-jump : (first index : ℕ) (o : Option Table) → IsTableOr ts (Some (first, index)) o → ((t : Symbolic) → Holds ts index t → IsBoundOr ts None (bound_on t bounds))
      → jump_by image before (bounded bounds o) ≡ None
  no-bound-jump first index None is none = absurd is
  no-bound-jump first index (Some table) is none = no-bound-by table.first (bound_on table.index bounds) (none table.index is.1)

  bound-by : (first : ℕ) (b : Bound) (found : Option TableJump) (own : ℕ) (o : Option run_up.Bound) → first ≡ own → IsBoundOr ts (Some b) o
      → ((other : run_up.Bound) → other.branch ≡ b.branch → other.count ≡ b.count → found ≡ jump_by image before (Some (first, other)))
      → found ≡ jump_by image before (with_first own o)
  bound-by first b found own None same is each = absurd is
  bound-by first b found own (Some c) same is each =
      each c (sym is.branch_is) (sym is.count_is) ∙ ap (λ k. jump_by image before (Some (k, c))) same

  pub bound-jump : (first index : ℕ) (b : Bound) (found : Option TableJump) (o : Option Table) → IsTableOr ts (Some (first, index)) o
      → ((t : Symbolic) → Holds ts index t → IsBoundOr ts (Some b) (bound_on t bounds))
      → ((other : run_up.Bound) → other.branch ≡ b.branch → other.count ≡ b.count → found ≡ jump_by image before (Some (first, other)))
      → found ≡ jump_by image before (bounded bounds o)
  bound-jump first index b found None is some each = absurd is
  bound-jump first index b found (Some table) is some each =
      bound-by first b found table.first (bound_on table.index bounds) is.0 (some table.index is.1) each

-- ---- a word that isn't straight ends the search

not-before : (o : Option Instr) (rest : Option (List Instr)) → is_straight_or o ≡ false → straight_on o rest ≡ None
not-before None rest e = refl
not-before (Some i) None e = refl
not-before (Some i) (Some ws) e = ap (λ (b : Bool). if b then Some (i ∷ ws) else None) e

no-more : (o : Option Instr) (rest : Option (List Instr)) → rest ≡ None → straight_on o rest ≡ None
no-more None rest e = refl
no-more (Some i) rest e = ap (λ (r : Option (List Instr)). straight_on (Some i) r) e

pub straight-stops : (image : Image) (address count k : ℕ) → k < count → is_before_jump image (address + 4 * k) ≡ false → straight image address count ≡ None
unfolding straight
straight-stops image address zero k below crooked = absurd (omega (arith, below))
straight-stops image address (suc count) zero below crooked =
    let here : address ≡ address + 4 * 0 = omega arith in
    not-before (instr_at image address) (straight image (address + 4) count) (ap (λ a. is_before_jump image a) here ∙ crooked)
straight-stops image address (suc count) (suc k) below crooked =
    let there : address + 4 + 4 * k ≡ address + 4 * suc k = omega arith in
    no-more (instr_at image address) (straight image (address + 4) count)
    (straight-stops image (address + 4) count k (omega (arith, below)) (ap (λ a. is_before_jump image a) there ∙ crooked))

-- ---- so many words are followed

pub run-begun : (image : Image) (r start : ℕ) (s : Straight) → IsFollowed s before_all → IsRun image r start 0 s
run-begun image r start s is = record { words = []; words_are = straight-none image start; is = is }

pub run-more : (image : Image) (r start count : ℕ) (old new : Straight) (i : Instr) → IsRun image r start count old → instr_at image (start + 4 * count) ≡ Some i
    → is_straight i ≡ true → Follows old new r (start + 4 * count) i → IsRun image r start (count + 1) new
run-more image r start count old new i run there is follows =
    let long : length run.words ≡ count = straight-long image start count run.words run.words_are in
    record {
      words = run.words ++ i ∷ [];
      words_are = straight-more image start count run.words i run.words_are there is;
      is = subst (λ (f : Followed). IsFollowed new f)
          (sym (followed-more r start run.words i before_all ∙ ap (λ n. follow r (start + 4 * n) i (followed r start run.words before_all)) long))
          (follows (followed r start run.words before_all) run.is);
    }

pub run-known : (image : Image) (r start count : ℕ) (s : Straight) (all : Bool) → all ≡ true → IsRunOr image r start count s all → IsRun image r start count s
run-known image r start count s true e run = run
run-known image r start count s false e run = absurd (cc)

pub run-none : (image : Image) (r start count : ℕ) (s : Straight) (all : Bool) → all ≡ false → IsRunOr image r start count s all → straight image start count ≡ None
run-none image r start count s false e none = none
run-none image r start count s true e none = absurd (cc)

pub run-all : (image : Image) (r address before : ℕ) (s : Straight) (found : Option TableJump) → IsRun image r (address - 4 * before) before s
    → ((f : Followed) → IsFollowed s f → found ≡ jump_by image before (bounded f.bounds (table_from f.source))) → found ≡ jump_from image r address before
run-all image r address before s found run each =
    each (followed r (address - 4 * before) run.words before_all) run.is
    ∙ ap (λ (o : Option (List Instr)). jump_after image r (address - 4 * before) before o) (sym run.words_are)

module _ (image : Image) (r address : ℕ) where
  pub no-run-up : (count before : ℕ) → straight image (address - 4 * before) before ≡ None → jump_from image r address before ≡ None
  no-run-up count before none = ap (λ (o : Option (List Instr)). jump_after image r (address - 4 * before) before o) none

  pub none-yet : table_jump image r address 0 ≡ None
  unfolding table_jump
  none-yet = refl

  pub none-still : (before : ℕ) → table_jump image r address before ≡ None → jump_from image r address (before + 1) ≡ None → table_jump image r address (before + 1) ≡ None
  unfolding table_jump
  none-still before none next = step (before + 1) before (omega arith) none next
    where
      step : (n b : ℕ) → n ≡ suc b → table_jump image r address b ≡ None → jump_from image r address n ≡ None → table_jump image r address n ≡ None
      step zero b e one two = absurd (omega (arith, e))
      step (suc n) b e one two =
          let same : n ≡ b = omega (arith, e) in
          ap (λ (o : Option TableJump). option_or o (jump_from image r address (suc n))) (ap (λ k. table_jump image r address k) same ∙ one) ∙ two

  found-here : (before : ℕ) (jump : TableJump) → table_jump image r address before ≡ None → jump_from image r address (before + 1) ≡ Some jump
      → table_jump image r address (before + 1) ≡ Some jump
  unfolding table_jump
  found-here before jump none next = step (before + 1) before (omega arith) none next
    where
      step : (n b : ℕ) → n ≡ suc b → table_jump image r address b ≡ None → jump_from image r address n ≡ Some jump → table_jump image r address n ≡ Some jump
      step zero b e one two = absurd (omega (arith, e))
      step (suc n) b e one two =
          let same : n ≡ b = omega (arith, e) in
          ap (λ (o : Option TableJump). option_or o (jump_from image r address (suc n))) (ap (λ k. table_jump image r address k) same ∙ one) ∙ two

  stays : (extra before : ℕ) (jump : TableJump) → table_jump image r address before ≡ Some jump → table_jump image r address (extra + before) ≡ Some jump
  unfolding table_jump
  stays zero before jump e = let same : 0 + before ≡ before = omega arith in ap (λ k. table_jump image r address k) same ∙ e
  stays (suc extra) before jump e =
      let same : suc extra + before ≡ suc (extra + before) = omega arith in
      ap (λ k. table_jump image r address k) same
      ∙ ap (λ (o : Option TableJump). option_or o (jump_from image r address (suc (extra + before)))) (stays extra before jump e)

  -- the shortest one is found
  pub shortest : (before most : ℕ) (jump : TableJump) → before < most → table_jump image r address before ≡ None → jump_from image r address (before + 1) ≡ Some jump
      → table_jump image r address most ≡ Some jump
  shortest before most jump below none next =
      let same : most ≡ most - (before + 1) + (before + 1) = omega (arith, below) in
      ap (λ k. table_jump image r address k) same ∙ stays (most - (before + 1)) (before + 1) jump (found-here before jump none next)

  pub found-shortest : (before most : ℕ) (found : Option Found) → is_some found ≡ true → before < most → table_jump image r address before ≡ None
      → option_map (jump_seen image) found ≡ jump_from image r address (before + 1) → option_map (jump_seen image) found ≡ table_jump image r address most
  found-shortest before most None some below none is = absurd (cc)
  found-shortest before most (Some jump) some below none is = sym (shortest before most (jump_seen image jump) below none (sym is))

  pub none-found : (before : ℕ) (found : Option Found) → is_some found ≡ false → option_map (jump_seen image) found ≡ jump_from image r address before → jump_from image r address before ≡ None
  none-found before None none is = sym is
  none-found before (Some jump) none is = absurd (cc)

  -- past a word that isn't straight there is none
  ends-at : (extra before : ℕ) → 4 * (extra + before) ≤ address → 0 < before → table_jump image r address (before - 1) ≡ None → is_before_jump image (address - 4 * before) ≡ false
      → table_jump image r address (extra + before) ≡ None
  ends-at zero before room some none crooked =
      let one_less : before - 1 + 1 ≡ 0 + before = omega (arith, some) in
      ap (λ k. table_jump image r address k) (sym one_less)
      ∙ none-still (before - 1) none (ap (λ k. jump_from image r address k) one_less ∙ ap (λ k. jump_from image r address k) {x = 0 + before} {y = before} (omega arith)
      ∙ no-run-up 0 before (straight-stops image (address - 4 * before) before 0 some
      (ap (λ a. is_before_jump image a) {x = address - 4 * before + 4 * 0} {y = address - 4 * before} (omega arith) ∙ crooked)))
  ends-at (suc extra) before room some none crooked =
      let longer : suc extra + before ≡ extra + before + 1 = omega arith in
      ap (λ k. table_jump image r address k) longer
      ∙ none-still (extra + before) (ends-at extra before (omega (arith, room)) some none crooked)
      (no-run-up 0 (extra + before + 1) (straight-stops image (address - 4 * (extra + before + 1)) (extra + before + 1) (extra + 1) (omega (arith, some))
      (ap (λ a. is_before_jump image a) {x = address - 4 * (extra + before + 1) + 4 * (extra + 1)} {y = address - 4 * before} (omega (arith, room)) ∙ crooked)))

  pub none-further : (before most : ℕ) → 4 * most ≤ address → 0 < before → before ≤ most → table_jump image r address (before - 1) ≡ None
      → is_before_jump image (address - 4 * before) ≡ false → table_jump image r address most ≡ None
  none-further before most room some within none crooked =
      let same : most ≡ most - before + before = omega (arith, within) in
      ap (λ k. table_jump image r address k) same ∙ ends-at (most - before) before (omega (arith, room, within)) some none crooked
