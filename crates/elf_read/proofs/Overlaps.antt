-- The headers before one by the starts of their memories, and the last of them that begins below its end.
use Rattle.std.proofs.Common.{◌≡◌, ◌+◌, ◌<◌, ◌≤◌, ◌++◌, ◌==◌, ◌∙◌, ℕ, List, [], ◌∷◌, All, Bool, true, false, cond, Some, IsSome, IsTrue, not, ◌↔◌, BTreeMap, length, get_or, is_eq, nat_cmp, Less, sym, refl, ap, subst, arith, inl, inr, eqb-true, eq-eqb, ne_eqb}
use Rattle.std.specs.Bool.{OnFalse}
use Rattle.std.specs.BTreeMap.{get}
use Rattle.std.specs.BTreeMap.Range.{IsRangeOf}
use Rattle.std.specs.declared.ops.Bound.TheVariants.{Excluded, Unbounded}
use Rattle.std.specs.Cmp.{ranks, nat_cmp_is}
use Rattle.std.specs.Ordering.{MatchOrdering}
use Rattle.std.proofs.Math.Nat.{eq-or-lt_of_le}
use Rattle.std.proofs.lemmas.Bool.{cases_order}
use Rattle.std.proofs.lemmas.Map.Keys.{ge_from_not_lt}
use Rattle.memory_spec.specs.Zones.{InZone}
use Rattle.elf_read_spec.specs.File as spec
use Rattle.elf_read_spec.specs.declared.ElfKind.TheVariants.{SegmentOverlap}
use Rattle.elf_read.specs.ByStart.{AreByStart}
use Rattle.elf_read.specs.Faults.{IsFirstOfKind}
use Rattle.elf_read.specs.Offsets.{IsRising}
use Rattle.elf_read.proofs.Disjoint.{ends_before, flipped}
use Rattle.elf_read.proofs.Loads.{AreApartBelow, apart_below_more, overlap_first}
use Rattle.elf_read.proofs.SizeSteps.{same_test}

less_is : (x y : ℕ) → x < y → nat_cmp x y ≡ Less
less_is x y h = sym (nat_cmp_is x y Less h)

is_less : (x y : ℕ) → nat_cmp x y ≡ Less → x < y
is_less x y e = subst (λ o. MatchOrdering o (x < y) (x ≡ y) (y < x)) e (ranks x y)

-- the last header that begins below an end
pub record IsLast (headers : BTreeMap ℕ ℕ) (end start at : ℕ) : Type 0 where
  pub entry : get nat_cmp headers start ≡ Some at
  pub below : start < end
  pub last : (other : ℕ) → other < end → IsSome (get nat_cmp headers other) → other ≤ start

pub last_of : (headers : BTreeMap ℕ ℕ) (end start at : ℕ) (entries before : List (ℕ × ℕ))
    → IsRangeOf nat_cmp Unbounded (Excluded end) headers entries → entries ≡ before ++ (start, at) ∷ [] → IsLast headers end start at
last_of headers end start at entries before range e =
    let here = range.3 (start, at) before e in
    record {
      entry = here.1;
      below = is_less start end here.0.1;
      last = λ other h there. ge_from_not_lt start other (range.4 (start, at) before e other (tt, less_is other end h) there);
    }

-- where one is apart from the last header that begins below its end, it is apart from all
pub apart_from_all : (bytes : List ℕ) (headers : BTreeMap ℕ ℕ) (end at start place one other : ℕ) → AreByStart bytes headers
    → IsLast headers end start place → end ≡ spec.u32_at bytes (at + 8) + spec.u32_at bytes (at + 20) → spec.AreApart bytes place at
    → get nat_cmp headers one ≡ Some other → spec.AreApart bytes other at
apart_from_all bytes headers end at start place one other so last end_is apart there = record {
  apart =
      λ address p q.
      let a = so.each one other there in
      let b = so.each start place last.entry in
      elim (eq-or-lt_of_le (last.last one (omega (arith, p.from, q.below, a.begins, end_is)) (subst IsSome (sym there) refl))) [
        | inl e ↦
            let found : get nat_cmp headers one ≡ Some place = subst (λ n. get nat_cmp headers n ≡ Some place) (sym e) last.entry in
            let same : other ≡ place = cc in
            apart.apart address (subst (λ h. InZone (spec.memory_of bytes h) address) same p) q
        | inr less ↦
            let ends = ends_before (spec.memory_of bytes other) (spec.memory_of bytes place) (so.apart one start other place less there last.entry)
            (omega (arith, a.begins, b.begins)) (omega (arith, b.full)) in
            apart.apart start (record { from = omega (arith, b.begins); below = omega (arith, b.begins, b.full) })
            (record { from = omega (arith, ends, p.below, q.from, b.begins); below = omega (arith, last.below, end_is) })
      ];
}

-- one of the first i headers, whose memory begins at an address and isn't empty
pub record IsEarlier (bytes loads : List ℕ) (i start at : ℕ) : Type 0 where
  pub index : ℕ
  pub lower : index < i
  pub is : get_or loads index 0 ≡ at
  pub begins : spec.u32_at bytes (at + 8) ≡ start
  pub full : 0 < spec.u32_at bytes (at + 20)

-- the first i headers are apart, and these are those whose memory isn't empty
pub record AreEarlier (bytes loads : List ℕ) (headers : BTreeMap ℕ ℕ) (i : ℕ) : Type 0 where
  pub apart : AreApartBelow bytes loads i
  pub among : (start at : ℕ) → get nat_cmp headers start ≡ Some at → IsEarlier bytes loads i start at
  pub every : (j : ℕ) → j < i → 0 < spec.u32_at bytes (get_or loads j 0 + 20)
      → get nat_cmp headers (spec.u32_at bytes (get_or loads j 0 + 8)) ≡ Some (get_or loads j 0)

pub by_start : (bytes loads : List ℕ) (headers : BTreeMap ℕ ℕ) (i : ℕ) → AreEarlier bytes loads headers i → i ≤ length loads
    → All (λ at. at + 32 ≤ length bytes) loads → AreByStart bytes headers
by_start bytes loads headers i so upto inside = record {
  each =
      λ start at e.
      let one = so.among start at e in
      record {
        inside = subst (λ n. n + 32 ≤ length bytes) one.is (inside one.index 0 (omega (arith, one.lower)));
        begins = one.begins;
        full = one.full;
      };
  apart =
      λ start end first second less e f.
      let a = so.among start first e in
      let b = so.among end second f in
      subst (λ n. spec.AreApart bytes n second) a.is
      (subst (λ n. spec.AreApart bytes (get_or loads a.index 0) n) b.is
      (elim (cases_order a.index b.index) [
        | inl same ↦
            let equal : first ≡ second = sym a.is ∙ ap (λ n. get_or loads n 0) same ∙ b.is in
            let starts : start ≡ end = sym a.begins ∙ ap (λ n. spec.u32_at bytes (n + 8)) equal ∙ b.begins in
            absurd (omega arith)
        | inr (inl lower) ↦ so.apart a.index b.index lower b.lower
        | inr (inr lower) ↦
            flipped (spec.memory_of bytes (get_or loads b.index 0)) (spec.memory_of bytes (get_or loads a.index 0))
            (so.apart b.index a.index lower a.lower)
      ]));
}

-- a header that meets one of these is the first overlap
pub first_met : (bytes loads : List ℕ) (headers : BTreeMap ℕ ℕ) (i start at : ℕ) → loads ≡ spec.loads bytes → IsRising loads → i < length loads
    → AreEarlier bytes loads headers i → get nat_cmp headers start ≡ Some at → (spec.AreApart bytes at (get_or loads i 0) → ⊥)
    → IsFirstOfKind bytes SegmentOverlap (get_or loads i 0)
first_met bytes loads headers i start at loads_are rising h so there met =
    let one = so.among start at there in
    overlap_first bytes loads i one.index loads_are rising h so.apart one.lower
    (λ apart. met (subst (λ n. spec.AreApart bytes n (get_or loads i 0)) one.is apart))

-- a header that is apart from those by start is apart from all earlier ones
one_more_apart : (bytes loads : List ℕ) (headers : BTreeMap ℕ ℕ) (i : ℕ) → AreEarlier bytes loads headers i
    → ((start at : ℕ) → get nat_cmp headers start ≡ Some at → spec.AreApart bytes at (get_or loads i 0)) → AreApartBelow bytes loads (i + 1)
one_more_apart bytes loads headers i so apart =
    apart_below_more bytes loads i so.apart
    (λ j less. record {
      apart =
          λ address p q.
          (apart (spec.u32_at bytes (get_or loads j 0 + 8)) (get_or loads j 0) (so.every j less (omega (arith, p.from, p.below)))).apart address p q;
    })

earlier_still : (bytes loads : List ℕ) (i start at : ℕ) → IsEarlier bytes loads i start at → IsEarlier bytes loads (i + 1) start at
earlier_still bytes loads i start at one =
    record { index = one.index; lower = omega (arith, one.lower); is = one.is; begins = one.begins; full = one.full }

-- a header whose memory is empty isn't kept
pub header_passed : (bytes loads : List ℕ) (headers : BTreeMap ℕ ℕ) (i : ℕ) → AreEarlier bytes loads headers i
    → ((start at : ℕ) → get nat_cmp headers start ≡ Some at → spec.AreApart bytes at (get_or loads i 0))
    → (0 < spec.u32_at bytes (get_or loads i 0 + 20) → ⊥) → AreEarlier bytes loads headers (i + 1)
header_passed bytes loads headers i so apart empty = record {
  apart = one_more_apart bytes loads headers i so apart;
  among = λ start at e. earlier_still bytes loads i start at (so.among start at e);
  every =
      λ j less full.
      let upto : j ≤ i = omega arith in
      elim (eq-or-lt_of_le upto) [
        | inl e ↦ absurd (empty (subst (λ n. 0 < spec.u32_at bytes (get_or loads n 0 + 20)) e full))
        | inr lower ↦ so.every j lower full
      ];
}

-- a header whose memory isn't empty is kept by its start
pub header_added : (bytes loads : List ℕ) (headers more : BTreeMap ℕ ℕ) (i begin : ℕ) → AreEarlier bytes loads headers i
    → ((start at : ℕ) → get nat_cmp headers start ≡ Some at → spec.AreApart bytes at (get_or loads i 0))
    → 0 < spec.u32_at bytes (get_or loads i 0 + 20)
    → begin ≡ spec.u32_at bytes (get_or loads i 0 + 8)
    → ((start : ℕ) → get nat_cmp more start ≡ cond (is_eq (nat_cmp begin start)) (Some (get_or loads i 0)) (get nat_cmp headers start))
    → AreEarlier bytes loads more (i + 1)
header_added bytes loads headers more i begin so apart full begins updates =
    let here = get_or loads i 0 in
    let start = spec.u32_at bytes (here + 8) in
    let found : (start : ℕ) → get nat_cmp more start ≡ cond (begin == start) (Some here) (get nat_cmp headers start) =
    λ start. updates start ∙ ap (λ b. cond b (Some here) (get nat_cmp headers start)) (same_test begin start (nat_cmp begin start) (ranks begin start)) in
    record {
      apart = one_more_apart bytes loads headers i so apart;
      among = λ start at e. among_with (begin == start) start at refl (sym (found start) ∙ e);
      every =
          λ j less some.
          let upto : j ≤ i = omega arith in
          elim (eq-or-lt_of_le upto) [
            | inl e ↦
                subst (λ n. get nat_cmp more (spec.u32_at bytes (get_or loads n 0 + 8)) ≡ Some (get_or loads n 0)) (sym e)
                (found start ∙ ap (λ b. cond b (Some here) (get nat_cmp headers start)) (eq-eqb begin start begins))
            | inr lower ↦
                let place = get_or loads j 0 in
                let there = spec.u32_at bytes (place + 8) in
                let old = so.every j lower some in
                let differ : begin ≡ there → ⊥ =
                λ e.
                (apart there place old).apart begin (record { from = omega (arith, e); below = omega (arith, e, some) })
                (record { from = omega (arith, begins); below = omega (arith, begins, full) }) in
                found there ∙ ap (λ b. cond b (Some here) (get nat_cmp headers there)) (ne_eqb begin there differ) ∙ old
          ];
    }
  where
    among_with : (b : Bool) (start at : ℕ) → (begin == start) ≡ b
        → cond b (Some (get_or loads i 0)) (get nat_cmp headers start) ≡ Some at → IsEarlier bytes loads (i + 1) start at
    among_with true start at b e =
        let is : get_or loads i 0 ≡ at = cc in
        record {
          index = i;
          lower = omega arith;
          is = is;
          begins = ap (λ n. spec.u32_at bytes (n + 8)) (sym is) ∙ sym begins ∙ eqb-true begin start b;
          full = subst (λ n. 0 < spec.u32_at bytes (n + 20)) is full;
        }
    among_with false start at b e = earlier_still bytes loads i start at (so.among start at e)

pub unless_apart : {P Q : Type 0} (b : Bool) → IsTrue b ↔ P → (P → Q) → OnFalse (not b) Q
unless_apart true apart then = then (apart.0 refl)
unless_apart false apart then = tt
