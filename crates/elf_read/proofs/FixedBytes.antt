-- The fixed byte at an address, of segments in another order.
use Rattle.std.proofs.Common.{◌≡◌, ◌+◌, ◌-◌, ◌<◌, ◌≤◌, ◌∙◌, ◌≢◌, ◌==◌, ◌&&◌, ℕ, zero, suc, Bool, true, false, nat_le, List, [], ◌∷◌, Contains, not, true≢false, Option, Some, None, length, map, ap, sym, refl, arith, subst, if◌then◌else◌, slice_get, get_or, IsSome}
use Rattle.std.specs.Option.{option_or}
use Rattle.std.specs.List.{AllWithin}
use Rattle.std.proofs.lemmas.Bool.{leb-true, le-leb}
use Rattle.std.proofs.lemmas.List.{get_or_default}
use Rattle.std.proofs.lemmas.List.Elements.{Contains-append_right}
use Rattle.std.proofs.lemmas.Option.{slice_get_within, slice_get-get_or}
use Rattle.elf_read_spec.specs.Image.{fixed_among, is_fixed, byte_in}
use Rattle.elf_read.specs.declared.parts.Segment.{Segment}
use Rattle.elf_read.specs.Values.{segment_of}
use Rattle.elf_read.specs.Separate.{Covers, IsApart}
use Rattle.elf_read.specs.Fixed.{AreInOrder, has_fixed_bytes}
use Rattle.elf_read.specs.Extents.{IsCovered}
use Rattle.elf_read.proofs.Moved.{Each}

-- the byte that one segment fixes
abbrev pub byte_of : Segment → ℕ → Option ℕ
byte_of s address = if is_fixed (segment_of s) then byte_in (segment_of s) address else None

abbrev pub among : List Segment → ℕ → Option ℕ
among segments address = fixed_among (map segment_of segments) address

covers_when : (s : Segment) (address byte : ℕ) (fixed from : Bool) → nat_le s.vaddr address ≡ from
    → (if fixed then (if from then slice_get s.bytes.now (address - s.vaddr) else None) else None) ≡ Some byte → Covers (segment_of s) address
covers_when s address byte false from e h = absurd cc
covers_when s address byte true false e h = absurd cc
covers_when s address byte true true e h = record {
  from = leb-true s.vaddr address e;
  below = omega (arith, slice_get_within s.bytes.now (address - s.vaddr) byte h, leb-true s.vaddr address e);
}

pub byte_covers : (s : Segment) (address byte : ℕ) → byte_of s address ≡ Some byte → Covers (segment_of s) address
byte_covers s address byte h = covers_when s address byte (is_fixed (segment_of s)) (nat_le s.vaddr address) refl h

none_when : {X : Type 0} (o : Option X) → ((x : X) → o ≡ Some x → ⊥) → o ≡ None
none_when None h = refl
none_when (Some x) h = absurd (h x refl)

among_all_none : (xs : List Segment) (address : ℕ) → ((k : ℕ) (d : Segment) → k < length xs → byte_of (get_or xs k d) address ≡ None)
    → among xs address ≡ None
among_all_none [] address none = refl
among_all_none (x ∷ xs) address none =
    ap (λ o. option_or o (among xs address)) (none 0 x (omega arith))
    ∙ among_all_none xs address (λ k d h. none (suc k) d (omega arith))

or_none : {X : Type 0} (o : Option X) → option_or o None ≡ o
or_none None = refl
or_none (Some x) = refl

-- where one segment alone may have a byte, it is that one's
among_only : (xs : List Segment) (k : ℕ) (d : Segment) (address : ℕ) → k < length xs
    → ((j : ℕ) (e : Segment) → j ≢ k → j < length xs → byte_of (get_or xs j e) address ≡ None)
    → among xs address ≡ byte_of (get_or xs k d) address
among_only [] k d address h others = absurd (omega arith)
among_only (x ∷ xs) zero d address h others =
    ap (λ o. option_or (byte_of x address) o) (among_all_none xs address (λ k e w. others (suc k) e (omega arith) (omega arith)))
    ∙ or_none (byte_of x address)
among_only (x ∷ xs) (suc k) d address h others =
    ap (λ o. option_or o (among xs address)) (others 0 x (omega arith) (omega arith))
    ∙ among_only xs k d address (omega arith) (λ j e apart w. others (suc j) e (omega arith) (omega arith))

not_covered : (s : Segment) (address : ℕ) → (Covers (segment_of s) address → ⊥) → byte_of s address ≡ None
not_covered s address outside = none_when (byte_of s address) (λ b e. outside (byte_covers s address b e))

-- a segment without fixed bytes has none at any address
pub no_byte : (s : Segment) (address : ℕ) → has_fixed_bytes s ≡ false → byte_of s address ≡ None
no_byte s address left_out =
    none_when (byte_of s address)
    (λ b e.
    let c = byte_covers s address b e in
    true≢false (sym (kept_when (is_fixed (segment_of s)) (byte_in (segment_of s) address) b e (omega (arith, c.from, c.below))) ∙ left_out))
  where
    kept_when : (fixed : Bool) (o : Option ℕ) (b : ℕ) → (if fixed then o else None) ≡ Some b → 0 < length s.bytes.now
        → (fixed && not (length s.bytes.now == 0)) ≡ true
    kept_when true o b e some = grind arith
    kept_when false o b e some = absurd cc

-- of segments that are apart, the byte is that of one that has a byte there
pub among_at : (xs : List Segment) (s : Segment) (address byte : ℕ) → Each (λ x y. IsApart (segment_of x) (segment_of y)) xs → Contains xs s
    → byte_of s address ≡ Some byte → among xs address ≡ Some byte
among_at xs s address byte each within e =
    let k = within.0 in
    let here : byte_of (get_or xs k s) address ≡ Some byte = ap (λ x. byte_of x address) within.2 ∙ e in
    among_only xs k s address within.1
    (λ j d other h.
    not_covered (get_or xs j d) address
    (λ c.
    (each k j d (λ same. other (sym same)) within.1 h).apart address
    (subst (λ x. Covers (segment_of x) address) (get_or_default xs k s d within.1) (byte_covers (get_or xs k s) address byte here)) c))
    ∙ here

-- and it is the byte of one of them
pub among_from : (xs : List Segment) (address byte : ℕ) → among xs address ≡ Some byte
    → (s : Segment) × Contains xs s × (byte_of s address ≡ Some byte)
among_from [] address byte e = absurd cc
among_from (x ∷ xs) address byte e = from_with (byte_of x address) refl e (λ there. among_from xs address byte there)
  where
    from_with : (o : Option ℕ) → byte_of x address ≡ o → option_or o (among xs address) ≡ Some byte
        → (among xs address ≡ Some byte → (s : Segment) × Contains xs s × (byte_of s address ≡ Some byte))
        → (s : Segment) × Contains (x ∷ xs) s × (byte_of s address ≡ Some byte)
    from_with None here there later =
        let rest = later there in (rest.0, Contains-append_right (x ∷ []) xs rest.0 rest.1, rest.2)
    from_with (Some b) here there later = (x, (0, omega arith, refl), here ∙ there)

-- before all segments there is no byte
pub byte_before : (fixed : List Segment) (address : ℕ) → AllWithin (λ s. address < s.vaddr) fixed 0 (length fixed) → among fixed address ≡ None
byte_before fixed address above =
    among_all_none fixed address
    (λ k d h.
    let later : address < (get_or fixed k d).vaddr = above k d (omega arith) h in
    not_covered (get_or fixed k d) address (λ c. omega (arith, c.from)))

-- the byte is that of the last segment that begins at the address or below it
pub byte_there : (fixed : List Segment) (place address : ℕ) (d : Segment) → AreInOrder fixed → place ≢ 0 → place ≤ length fixed
    → AllWithin (λ s. s.vaddr ≤ address) fixed 0 place → AllWithin (λ s. address < s.vaddr) fixed place (length fixed)
    → among fixed address ≡ byte_of (get_or fixed (place - 1) d) address
byte_there fixed place address d in_order some bound below above =
    among_only fixed (place - 1) d address (omega arith)
    (λ j e apart h.
    not_covered (get_or fixed j e) address
    (λ c.
    let not_before : j < place - 1 → ⊥ =
    λ less.
    let ends : (get_or fixed j e).vaddr + length (get_or fixed j e).bytes.now ≤ (get_or fixed (place - 1) e).vaddr =
    in_order.rising j (place - 1) e less (omega arith) in
    let begins : (get_or fixed (place - 1) e).vaddr ≤ address = below (place - 1) e (omega arith) (omega arith) in
    omega (arith, c.below) in
    let not_after : place ≤ j → ⊥ =
    λ from. let later : address < (get_or fixed j e).vaddr = above j e from h in omega (arith, c.from) in
    omega arith))

some_when : (s : Segment) (address : ℕ) (fixed from : Bool) → fixed ≡ true → from ≡ true → address - s.vaddr < length s.bytes.now
    → IsSome (if fixed then (if from then slice_get s.bytes.now (address - s.vaddr) else None) else None)
some_when s address false from e f h = absurd cc
some_when s address true false e f h = absurd cc
some_when s address true true e f h = some_of (slice_get s.bytes.now (address - s.vaddr)) (slice_get-get_or s.bytes.now (address - s.vaddr) 0 h)
  where
    some_of : (o : Option ℕ) {x : ℕ} → o ≡ Some x → IsSome o
    some_of o {x} e = subst IsSome (sym e) refl

covered_some : (s : Segment) (address : ℕ) → is_fixed (segment_of s) ≡ true → Covers (segment_of s) address → IsSome (byte_of s address)
covered_some s address fixed covers =
    some_when s address (is_fixed (segment_of s)) (nat_le s.vaddr address) fixed (le-leb s.vaddr address covers.from)
    (omega (arith, covers.from, covers.below))

some_or_right : {X : Type 0} (one two : Option X) → IsSome two → IsSome (option_or one two)
some_or_right None two h = h
some_or_right (Some x) two h = refl

some_or_left : {X : Type 0} (one two : Option X) → IsSome one → IsSome (option_or one two)
some_or_left None two h = cc
some_or_left (Some x) two h = refl

-- an address that a fixed segment covers has a fixed byte
pub among_some : (xs : List Segment) (k : ℕ) (d : Segment) (address : ℕ) → k < length xs → IsSome (byte_of (get_or xs k d) address)
    → IsSome (among xs address)
among_some [] k d address h some = absurd (omega arith)
among_some (x ∷ xs) zero d address h some = some_or_left (byte_of x address) (among xs address) some
among_some (x ∷ xs) (suc k) d address h some =
    some_or_right (byte_of x address) (among xs address) (among_some xs k d address (omega arith) some)

pub covered_among : (fixed : List Segment) (address : ℕ) → AreInOrder fixed → IsCovered fixed address → IsSome (among fixed address)
covered_among fixed address in_order covered =
    let d : Segment = record { vaddr = 0; memsz = 0; flags = 0; bytes = record { ref_ptr = (0, 0); now = [] } } in
    among_some fixed covered.0 d address covered.1
    (covered_some (get_or fixed covered.0 d) address (in_order.unwritable covered.0 d covered.1) (covered.2 d))

covered_cons : (x : Segment) (xs : List Segment) (address : ℕ) (one two : Option ℕ) → (IsSome one → Covers (segment_of x) address)
    → (IsSome two → IsCovered xs address) → IsSome (option_or one two) → IsCovered (x ∷ xs) address
covered_cons x xs address (Some b) two here there some = (0, omega arith, λ d. here refl)
covered_cons x xs address None two here there some =
    let rest = there some in (suc rest.0, omega (arith, rest.1), rest.2)

covers_of_some : (s : Segment) (address : ℕ) (o : Option ℕ) → byte_of s address ≡ o → IsSome o → Covers (segment_of s) address
covers_of_some s address None e some = absurd cc
covers_of_some s address (Some b) e some = byte_covers s address b e

-- and what has a fixed byte is covered
pub among_covered : (xs : List Segment) (address : ℕ) → IsSome (among xs address) → IsCovered xs address
among_covered [] address some = absurd cc
among_covered (x ∷ xs) address some =
    covered_cons x xs address (byte_of x address) (among xs address) (covers_of_some x address (byte_of x address) refl)
    (among_covered xs address) some
