-- Bits of words by ids, as the definitions have them, over the trees of a bank.
use Rattle.std.specs.Prelude.{◌≡◌, ℕ, ◌+◌, ◌-◌, ◌<◌, ◌≤◌, ◌==◌, nat_eq, nat_lt, position, unwrap_or, false, if◌then◌else◌, List, [], ◌∷◌, Vec, length, map, get_or, All, Some}
use Rattle.std.specs.Global.{Global}
use Rattle.std.specs.Int.{bit_at}
use Rattle.term_core_spec.specs.declared.Width.{Width}
use Rattle.term_core_spec.specs.declared.Sort.TheVariants as sort
use Rattle.term_core_spec.specs.Term.{Term}
use Rattle.term_core_spec.specs.Sort.{sort_of, bits}
use Rattle.term_bank.specs.Nodes.{tree_at}
use Rattle.word_steps_spec.specs.Bitwise as spec
use Rattle.word_steps_rules.specs.declared.bit.Bit.{Bit}
use Rattle.word_steps_rules.specs.declared.bit.Bit.TheVariants.{Fixed, Of}
use Rattle.word_steps_rules.specs.declared.bit.Bits.{Bits}
use Rattle.word_steps_rules.specs.declared.plan.Gate.{Gate}
use Rattle.word_steps_rules.specs.declared.plan.Gate.TheVariants.{And, Or, Xor, Choose}
use Rattle.word_steps_rules.specs.declared.plan.Shift.{Shift}
use Rattle.word_steps_rules.specs.declared.plan.Shift.TheVariants.{Up, Down, DownSigned}
use Rattle.word_steps_rules.specs.declared.plan.Bytes.{Bytes}
use Rattle.word_steps_rules.specs.declared.plan.Bytes.TheVariants.{Two, Four, Eight}
use Rattle.word_steps_rules.specs.declared.plan.Plan.{Plan}
use Rattle.word_steps_rules.specs.declared.plan.Plan.TheVariants.{Own, Number, Both, Shifted, Joined}

abbrev pub bit_in : List Term → Bit → spec.Bit
bit_in trees (Fixed is_one) = spec.Fixed is_one
bit_in trees (Of word place) = spec.Of (tree_at trees word) place

-- the word of a bit is one of so many terms
abbrev pub IsBit : ℕ → Bit → Type 0
IsBit n (Fixed is_one) = Unit {0}
IsBit n (Of word place) = word < n

pub record AreBits (n : ℕ) (b : Bits) : Type 0 where
  pub first : IsBit n b.first
  pub second : IsBit n b.second
  pub otherwise : IsBit n b.otherwise

-- ---- rows: the bits of a term, as many as its width

-- 0 beyond the row
abbrev pub row_bit : List Bit → ℕ → Bit
row_bit row i = get_or row i (Fixed false)

abbrev pub bits_in : List Term → List Bit → spec.Bits
bits_in trees row i = bit_in trees (row_bit row i)

abbrev pub AreIn : ℕ → List Bit → Type 0
AreIn n row = All (IsBit n) row

-- a row is that of a term where this is a word; of other terms nothing is meant
pub record IsRow (trees : List Term) (t : Term) (row : List Bit) : Type 0 where
  pub long : (width : Width) → sort_of t ≡ Some (sort.Word width) → length row ≡ bits width
  pub each : (width : Width) → sort_of t ≡ Some (sort.Word width) → (i : ℕ) → i < bits width → bits_in trees row i ≡ spec.bits_of t i

abbrev pub rows_of : List (Vec Bit Global) → List (List Bit)
rows_of rows = map (λ (r : Vec Bit Global). r.items) rows

-- none where there is none
abbrev pub row_in : List (List Bit) → ℕ → List Bit
row_in rows k = get_or rows k []

-- the rows of the first of some ids
pub record AreRows (trees : List Term) (ids : List ℕ) (rows : List (List Bit)) : Type 0 where
  pub within : length rows ≤ length ids
  pub each : (k : ℕ) → k < length rows → IsRow trees (tree_at trees (get_or ids k 0)) (row_in rows k)
  pub known : (k : ℕ) → AreIn (length trees) (row_in rows k)

-- the index of an id
abbrev pub index_among : List ℕ → ℕ → ℕ
index_among ids id = unwrap_or (position (nat_eq id) ids) 0

-- ---- bits of a row at other places

unfoldable pub shifted_bit : Shift → List Bit → (places : ℕ) → ℕ → Bit
shifted_bit Up row places i = if nat_lt i places then Fixed false else row_bit row (i - places)
shifted_bit Down row places i = if nat_lt (places + i) (length row) then row_bit row (places + i) else Fixed false
shifted_bit DownSigned row places i = if nat_lt (places + i) (length row) then row_bit row (places + i) else row_bit row (length row - 1)

-- a bit of bytes, the lowest first, by the indices of their rows
unfoldable pub joined_bit : List (List Bit) → List ℕ → ℕ → Bit
joined_bit rows [] i = Fixed false
joined_bit rows (k ∷ rest) i = if nat_lt i 8 then row_bit (row_in rows k) i else joined_bit rows rest (i - 8)

abbrev pub bytes_of : Bytes → List ℕ
bytes_of (Two a b) = a ∷ b ∷ []
bytes_of (Four a b c d) = a ∷ b ∷ c ∷ d ∷ []
bytes_of (Eight a b c d e f g h) = a ∷ b ∷ c ∷ d ∷ e ∷ f ∷ g ∷ h ∷ []

-- ---- plans

-- the bits of two rows at a place, and that of a term itself
abbrev pub bits_at : List (List Bit) → (id first second place : ℕ) → Bits
bits_at rows id first second place =
    record { first = row_bit (row_in rows first) place; second = row_bit (row_in rows second) place; otherwise = Of id place }

unfoldable pub gate_bit : Gate → (first second otherwise : spec.Bit) → spec.Bit
gate_bit And p q otherwise = spec.and_bit p q otherwise
gate_bit Or p q otherwise = spec.or_bit p q otherwise
gate_bit Xor p q otherwise = spec.xor_bit p q otherwise
gate_bit Choose p q otherwise = spec.choose_bit p q otherwise

-- the bits of the term t by a plan
unfoldable pub planned : List Term → List (List Bit) → (t : Term) → Plan → spec.Bits
planned trees rows t Own i = spec.Of t i
planned trees rows t (Number n) i = spec.Fixed (bit_at n i == 1)
planned trees rows t (Both gate x y) i = gate_bit gate (bits_in trees (row_in rows x) i) (bits_in trees (row_in rows y) i) (spec.Of t i)
planned trees rows t (Shifted shift x places) i = bit_in trees (shifted_bit shift (row_in rows x) places i)
planned trees rows t (Joined bytes) i = bit_in trees (joined_bit rows (bytes_of bytes) i)

-- a plan gives the bits of a term, where this is a word
abbrev pub IsPlan : List Term → List (List Bit) → Term → Plan → Type 0
IsPlan trees rows t plan =
    (width : Width) → sort_of t ≡ Some (sort.Word width) → (i : ℕ) → i < bits width → planned trees rows t plan i ≡ spec.bits_of t i
