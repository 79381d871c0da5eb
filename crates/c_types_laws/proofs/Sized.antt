-- Sizes of types, seen from the structs of the whole unit: they are kept where structs get defined, at least 1, and below
-- the limit of sizes.
use Rattle.std.proofs.Common.{◌≡◌, ℕ, ◌+◌, ◌*◌, ◌/◌, ◌==◌, ◌≤◌, ◌<◌, Bool, true, false, ◌||◌, List, [], ◌∷◌, Option, Some, None, IfSome, IsTrue, is_none, slice_get, option_map, option_and_then, if◌then◌else◌, refl, sym, ap, subst, ◌∙◌, arith, le_trans, leb-false, le-mul_of_pos_right, mul-le-mul_right, eqb-true}
use Rattle.std.proofs.lemmas.Option.{none-some, same_Some}
use Rattle.c_types_spec.specs.declared.TheConstants.{SIZE_LIMIT, WIDE_WIDTH}
use Rattle.c_types_spec.specs.Types.{CType, Void, Integer, Pointer, Array, Struct, Structs, Definition, Undefined, Unfinished, Defined, Layout, Member, padded, has_members, layout_of_definition, struct_layout, times, size_of, lacks_element, is_large, too_large, with_member}
use Rattle.c_types_laws.proofs.Scopes.{Each, get-each, each_append, each_more}
use Rattle.c_types_laws.proofs.Types.{is_integer}

-- ---- structs that are kept

-- it is not just a name
abbrev pub is_begun : Definition → Bool
is_begun Undefined = false
is_begun Unfinished = true
is_begun (Defined layout) = true

-- what is begun or defined stays so
pub record Kept (before after : Structs) : Type 0 where
  pub stay : (i : ℕ) (d : Definition) → slice_get before i ≡ Some d → is_begun d ≡ true → slice_get after i ≡ Some d

pub kept_itself : (structs : Structs) → Kept structs structs
kept_itself structs = record { stay = λ i d e f. e }

pub kept_then : (a b c : Structs) → Kept a b → Kept b c → Kept a c
kept_then a b c h k = record { stay = λ i d e f. k.stay i d (h.stay i d e f) f }

-- the layouts that are defined are those of later structs
pub record Agrees (before after : Structs) : Type 0 where
  pub agree : (i : ℕ) (layout : Layout) → slice_get before i ≡ Some (Defined layout) → slice_get after i ≡ Some (Defined layout)

pub agrees_itself : (structs : Structs) → Agrees structs structs
agrees_itself structs = record { agree = λ i layout e. e }

pub agrees_before : (a b c : Structs) → Kept a b → Agrees b c → Agrees a c
agrees_before a b c h k = record { agree = λ i layout e. k.agree i layout (h.stay i (Defined layout) e refl) }

layout-kept : (before after : Structs) (number : ℕ) (layout : Layout) → Agrees before after → struct_layout before number ≡ Some layout → struct_layout after number ≡ Some layout
layout-kept before after number layout kept e = by_definition (slice_get before number) refl e
  where
    by_kind : (d : Definition) → slice_get before number ≡ Some d → layout_of_definition d ≡ Some layout → struct_layout after number ≡ Some layout
    by_kind Undefined f g = absurd (none-some layout g)
    by_kind Unfinished f g = absurd (none-some layout g)
    by_kind (Defined other) f g = ap (λ o. option_and_then layout_of_definition o) (kept.agree number other f) ∙ g

    by_definition : (o : Option Definition) → slice_get before number ≡ o → option_and_then layout_of_definition o ≡ Some layout → struct_layout after number ≡ Some layout
    by_definition None f g = absurd (none-some layout g)
    by_definition (Some d) f g = by_kind d f g

-- the size of a type is kept
times_some : (n : ℕ) (o : Option ℕ) (size : ℕ) → times (Some n) o ≡ Some size → (s : ℕ) × (o ≡ Some s) × (size ≡ n * s)
times_some n None size e = absurd (none-some size e)
times_some n (Some s) size e = (s, refl, sym (same_Some (n * s) size e))

map_some : (o : Option Layout) (size : ℕ) → option_map padded o ≡ Some size → (l : Layout) × (o ≡ Some l) × (size ≡ padded l)
map_some None size e = absurd (none-some size e)
map_some (Some l) size e = (l, refl, sym (same_Some (padded l) size e))

pub size-kept : (before after : Structs) (type : CType) (size : ℕ) → Agrees before after → size_of before type ≡ Some size → size_of after type ≡ Some size
unfolding size_of
size-kept before after Void size kept e = e
size-kept before after (Integer s) size kept e = e
size-kept before after (Pointer inner) size kept e = e
size-kept before after (Array None element) size kept e = absurd (none-some size e)
size-kept before after (Array (Some n) element) size kept e =
    let parts = times_some n (size_of before element) size e in
    ap (times (Some n)) (size-kept before after element parts.0 kept parts.1) ∙ ap Some (sym parts.2)
size-kept before after (Struct number) size kept e =
    let parts = map_some (struct_layout before number) size e in
    ap (option_map padded) (layout-kept before after number parts.0 kept parts.1) ∙ ap Some (sym parts.2)

-- ---- types whose sizes are below the limit

-- the elements of an array have a size, as has the array
pub record HasElements (whole : Structs) (length : ℕ) (element : CType) : Type 0 where
  pub size : ℕ
  pub is_size : size_of whole element ≡ Some size
  pub has_some : 1 ≤ length
  pub positive : 1 ≤ size
  pub below : length * size < SIZE_LIMIT

-- each array in it is below the limit; `whole` are the structs of the whole unit
abbrev pub IsSized : Structs → CType → Type 0
IsSized whole Void = Unit {0}
IsSized whole (Integer s) = IsTrue (is_integer s)
IsSized whole (Pointer inner) = IsSized whole inner
IsSized whole (Array None element) = IsSized whole element
IsSized whole (Array (Some n) element) = IsSized whole element × HasElements whole n element
IsSized whole (Struct number) = Unit {0}

-- before its own size is looked at
abbrev pub IsDeclared : Structs → CType → Type 0
IsDeclared whole Void = Unit {0}
IsDeclared whole (Integer s) = IsTrue (is_integer s)
IsDeclared whole (Pointer inner) = IsSized whole inner
IsDeclared whole (Array None element) = IsDeclared whole element
IsDeclared whole (Array (Some n) element) = IsDeclared whole element × (1 ≤ n)
IsDeclared whole (Struct number) = Unit {0}

pub sized_declared : (whole : Structs) (type : CType) → IsSized whole type → IsDeclared whole type
sized_declared whole Void h = tt
sized_declared whole (Integer s) h = h
sized_declared whole (Pointer inner) h = h
sized_declared whole (Array None element) h = sized_declared whole element h
sized_declared whole (Array (Some n) element) h = (sized_declared whole element h.0, h.1.has_some)
sized_declared whole (Struct number) h = tt

pub element-sized : (whole : Structs) (length : Option ℕ) (element : CType) → IsSized whole (Array length element) → IsSized whole element
element-sized whole None element h = h
element-sized whole (Some n) element h = h.0

-- a member is in what the struct fills
pub record IsPart (whole : Structs) (filled : ℕ) (m : Member) : Type 0 where
  pub sized : IsSized whole m.type
  pub size : ℕ
  pub is_size : size_of whole m.type ≡ Some size
  pub positive : 1 ≤ size
  pub inside : m.distance + size ≤ filled

abbrev pub AreParts : Structs → Layout → Type 0
AreParts whole layout = Each (IsPart whole layout.filled) layout.members

pub record IsLaidOut (whole : Structs) (layout : Layout) : Type 0 where
  pub parts : AreParts whole layout
  pub below : padded layout < SIZE_LIMIT

abbrev pub IsFineDefinition : Structs → Definition → Type 0
IsFineDefinition whole (Defined layout) = IsLaidOut whole layout
IsFineDefinition whole other = Unit {0}

abbrev pub AreFine : Structs → Structs → Type 0
AreFine whole structs = Each (IsFineDefinition whole) structs

-- a layout that is complete has a member
abbrev pub HasLayout : Structs → Layout → Type 0
HasLayout whole layout = IsLaidOut whole layout × (has_members layout.members ≡ true)

pub struct_layout-fine : (whole structs : Structs) (number : ℕ) → AreFine whole structs → IfSome (struct_layout structs number) (HasLayout whole)
struct_layout-fine whole structs number h = by_definition (slice_get structs number) (get-each (IsFineDefinition whole) structs number h)
  where
    by_test : (layout : Layout) → IsLaidOut whole layout → (b : Bool) → has_members layout.members ≡ b → IfSome (if b then Some layout else None) (HasLayout whole)
    by_test layout k true e = (k, e)
    by_test layout k false e = tt

    by_kind : (d : Definition) → IsFineDefinition whole d → IfSome (layout_of_definition d) (HasLayout whole)
    by_kind Undefined k = tt
    by_kind Unfinished k = tt
    by_kind (Defined layout) k = by_test layout k (has_members layout.members) refl

    by_definition : (o : Option Definition) → IfSome o (IsFineDefinition whole) → IfSome (option_and_then layout_of_definition o) (HasLayout whole)
    by_definition None k = tt
    by_definition (Some d) k = by_kind d k

pub if_some : {A : Type 0} (P : A → Type 0) (o : Option A) (x : A) → IfSome o P → o ≡ Some x → P x
if_some P (Some y) x h e = subst P (same_Some y x e) h
if_some P None x h e = absurd (none-some x e)

pub padded-least : (layout : Layout) → layout.filled ≤ padded layout
padded-least layout = omega arith

layout-positive : (whole : Structs) (layout : Layout) → HasLayout whole layout → 1 ≤ padded layout
layout-positive whole layout h = by_members layout.members h.0.parts h.1
  where
    by_members : (list : List Member) → Each (IsPart whole layout.filled) list → has_members list ≡ true → 1 ≤ padded layout
    by_members [] k e = absurd (cc)
    by_members (m ∷ list) k e = let inside = k.0.inside in let positive = k.0.positive in let least = padded-least layout in omega arith

-- the size of an integer
integer-size : (w : ℕ) (a b c d : Bool) → (w == 8) ≡ a → (w == 16) ≡ b → (w == 32) ≡ c → (w == WIDE_WIDTH) ≡ d → ((a || b || c) || d) ≡ true → (1 ≤ w / 8) × (w / 8 < SIZE_LIMIT)
integer-size w true b c d e f g i h = let is : w ≡ 8 = eqb-true w 8 e in (omega arith, omega arith)
integer-size w false true c d e f g i h = let is : w ≡ 16 = eqb-true w 16 f in (omega arith, omega arith)
integer-size w false false true d e f g i h = let is : w ≡ 32 = eqb-true w 32 g in (omega arith, omega arith)
integer-size w false false false true e f g i h = let is : w ≡ WIDE_WIDTH = eqb-true w WIDE_WIDTH i in (omega arith, omega arith)
integer-size w false false false false e f g i h = absurd (cc)

-- a size is at least 1, and below the limit
abbrev pub IsSmallSize : ℕ → Type 0
IsSmallSize size = (1 ≤ size) × (size < SIZE_LIMIT)

pub product-least : (n s : ℕ) → 1 ≤ n → 1 ≤ s → (n ≤ n * s) × (s ≤ n * s)
product-least n s h k = (le-mul_of_pos_right n k, (let e : 1 * s ≤ n * s = mul-le-mul_right s h in omega arith))

pub size-small : (whole structs : Structs) (type : CType) (size : ℕ) → Agrees structs whole → AreFine whole structs → IsSized whole type → size_of structs type ≡ Some size → IsSmallSize size
unfolding size_of
size-small whole structs Void size kept fine h e = absurd (none-some size e)
size-small whole structs (Integer s) size kept fine h e =
    subst IsSmallSize (same_Some (s.width / 8) size e) (integer-size s.width (s.width == 8) (s.width == 16) (s.width == 32) (s.width == WIDE_WIDTH) refl refl refl refl h)
size-small whole structs (Pointer inner) size kept fine h e = subst IsSmallSize (same_Some 4 size e) (omega arith, omega arith)
size-small whole structs (Array None element) size kept fine h e = absurd (none-some size e)
size-small whole structs (Array (Some n) element) size kept fine h e =
    let parts = times_some n (size_of structs element) size e in
    let same : parts.0 ≡ h.1.size = same_Some parts.0 h.1.size (sym (size-kept structs whole element parts.0 kept parts.1) ∙ h.1.is_size) in
    subst IsSmallSize (ap (λ s. n * s) (sym same) ∙ sym parts.2)
    (let least = product-least n h.1.size h.1.has_some h.1.positive in let some = h.1.has_some in (le_trans some least.0, h.1.below))
size-small whole structs (Struct number) size kept fine h e =
    let parts = map_some (struct_layout structs number) size e in
    let laid = if_some (HasLayout whole) (struct_layout structs number) parts.0 (struct_layout-fine whole structs number fine) parts.1 in
    subst IsSmallSize (sym parts.2) (layout-positive whole parts.0 laid, laid.0.below)

-- ---- what the tests of a declaration say

-- a declared type that has a size is sized where that is below the limit
pub sized_if : (whole structs : Structs) (type : CType) (size : ℕ) → Agrees structs whole → AreFine whole structs → IsDeclared whole type → size_of structs type ≡ Some size → size < SIZE_LIMIT → IsSized whole type
unfolding size_of
sized_if whole structs Void size kept fine h e below = tt
sized_if whole structs (Integer s) size kept fine h e below = h
sized_if whole structs (Pointer inner) size kept fine h e below = h
sized_if whole structs (Array None element) size kept fine h e below = absurd (none-some size e)
sized_if whole structs (Array (Some n) element) size kept fine h e below =
    by_element (times_some n (size_of structs element) size e) (λ s f small. sized_if whole structs element s kept fine h.0 f small)
  where
    by_element : (s : ℕ) × (size_of structs element ≡ Some s) × (size ≡ n * s) → ((s : ℕ) → size_of structs element ≡ Some s → s < SIZE_LIMIT → IsSized whole element) → IsSized whole (Array (Some n) element)
    by_element parts again =
        let least : 1 * parts.0 ≤ n * parts.0 = mul-le-mul_right parts.0 h.1 in
        let smaller : n * parts.0 < SIZE_LIMIT = subst (λ x. x < SIZE_LIMIT) parts.2 below in
        let small : parts.0 < SIZE_LIMIT = omega arith in
        let is = again parts.0 parts.1 small in
        (is, record { size = parts.0; is_size = size-kept structs whole element parts.0 kept parts.1; has_some = h.1; positive = (size-small whole structs element parts.0 kept fine is parts.1).0; below = smaller })
sized_if whole structs (Struct number) size kept fine h e below = tt

pub not_large : (size : ℕ) → is_large (Some size) ≡ false → size < SIZE_LIMIT
not_large size e = leb-false SIZE_LIMIT size e

sized_by : (whole structs : Structs) (type : CType) (o : Option ℕ) → size_of structs type ≡ o → Agrees structs whole → AreFine whole structs → IsDeclared whole type → is_none o ≡ false → is_large o ≡ false → IsSized whole type
sized_by whole structs type None s kept fine h e f = absurd (cc)
sized_by whole structs type (Some size) s kept fine h e f = sized_if whole structs type size kept fine h s (not_large size f)

pub sized_checked : (whole structs : Structs) (type : CType) → Agrees structs whole → AreFine whole structs → IsDeclared whole type → too_large structs type ≡ false → lacks_element structs type ≡ false → IsSized whole type
unfolding size_of
sized_checked whole structs Void kept fine h e f = tt
sized_checked whole structs (Integer s) kept fine h e f = h
sized_checked whole structs (Pointer inner) kept fine h e f = h
sized_checked whole structs (Array None element) kept fine h e f = sized_by whole structs element (size_of structs element) refl kept fine h f e
sized_checked whole structs (Array (Some n) element) kept fine h e f = by_size (size_of structs element) refl f e
  where
    by_size : (o : Option ℕ) → size_of structs element ≡ o → is_none o ≡ false → is_large (times (Some n) o) ≡ false → IsSized whole (Array (Some n) element)
    by_size None s k l = absurd (cc)
    by_size (Some size) s k l = sized_if whole structs (Array (Some n) element) (n * size) kept fine h (ap (times (Some n)) s) (not_large (n * size) l)
sized_checked whole structs (Struct number) kept fine h e f = tt

-- what has a size has elements
has_element : (structs : Structs) (type : CType) → is_none (size_of structs type) ≡ false → lacks_element structs type ≡ false
unfolding size_of
has_element structs (Array None element) e = absurd (cc)
has_element structs (Array (Some n) element) e = by_size (size_of structs element) e
  where
    by_size : (o : Option ℕ) → is_none (times (Some n) o) ≡ false → is_none o ≡ false
    by_size None k = absurd (cc)
    by_size (Some size) k = refl
has_element structs type e = refl

pub sized_complete : (whole structs : Structs) (type : CType) → Agrees structs whole → AreFine whole structs → IsDeclared whole type → too_large structs type ≡ false → is_none (size_of structs type) ≡ false → IsSized whole type
sized_complete whole structs type kept fine h e f = sized_checked whole structs type kept fine h e (has_element structs type f)

-- ---- a struct with one more member

part_later : (whole : Structs) (a b : ℕ) (m : Member) → a ≤ b → IsPart whole a m → IsPart whole b m
part_later whole a b m h p = record { sized = p.sized; size = p.size; is_size = p.is_size; positive = p.positive; inside = (let inside = p.inside in omega arith) }

pub parts_more : (whole structs : Structs) (layout : Layout) (name : List ℕ) (type : CType) (size alignment : ℕ) → Agrees structs whole → AreFine whole structs → IsSized whole type → size_of structs type ≡ Some size → AreParts whole layout
    → AreParts whole (with_member layout name type size alignment)
parts_more whole structs layout name type size alignment kept fine sized e parts =
    each_append (IsPart whole (with_member layout name type size alignment).filled) layout.members _
    (each_more (IsPart whole layout.filled) (IsPart whole (with_member layout name type size alignment).filled) layout.members (λ m p. part_later whole _ _ m (omega arith) p) parts)
    (record { sized = sized; size = size; is_size = size-kept structs whole type size kept e; positive = (size-small whole structs type size kept fine sized e).0; inside = omega arith }, tt)
