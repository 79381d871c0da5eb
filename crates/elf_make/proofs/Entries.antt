-- The symbol table of a written file.
use Rattle.std.proofs.Common.{◌≡◌, ◌==◌, ◌+◌, ◌*◌, ◌%◌, ◌^◌, ◌<◌, ◌++◌, ◌∙◌, not, ℕ, zero, suc, Bool, true, List, [], ◌∷◌, All, Contains, length, length-append, get_or, take, drop, filter, map, append_assoc, ap, sym, refl, arith, subst, eq-eqb, ne_eqb, lit<}
use Rattle.std.specs.List.{before_first, position_or_len}
use Rattle.std.proofs.Math.Seq.{take-append_seam, get_or-append_seam}
use Rattle.std.proofs.lemmas.List.{get_or_default, get_or_append_left, get_or-drop}
use Rattle.std.proofs.lemmas.List.Sums.{position_or_len_is}
use Rattle.elf_read_spec.specs.Image.{Symbol}
use Rattle.elf_read_spec.specs.File as spec
use Rattle.elf_make.specs.Layout as layout
use Rattle.elf_make.specs.Parts.{IsSymbolOfWords, IsNamed}
use Rattle.elf_make.proofs.Read.{front_word, word_at, half_at, filter_taken}
use Rattle.elf_make.proofs.Places.{after, length_entry}

-- the fields of an entry
pub record IsEntry (file : List ℕ) (at place : ℕ) (s : Symbol) : Type 0 where
  pub name : spec.u32_at file at ≡ place
  pub value : spec.u32_at file (at + 4) ≡ s.value
  pub size : spec.u32_at file (at + 8) ≡ s.size
  pub info : spec.u8_at file (at + 12) ≡ 16 + s.kind
  pub section : spec.u16_at file (at + 14) ≡ 1

byte_of : (file part : List ℕ) (base k : ℕ) → drop base file ≡ part → spec.u8_at file (base + k) ≡ get_or part k 0
byte_of file part base k here = sym (get_or-drop base file k 0) ∙ ap (λ xs. get_or xs k 0) here

is_entry : (file rest : List ℕ) (at place : ℕ) (s : Symbol) → drop at file ≡ layout.entry place s ++ rest → IsSymbolOfWords s → place < 2 ^ 32
    → IsEntry file at place s
unfolding layout.word layout.half
is_entry file rest at place s here words p = record {
  name = front_word file _ at place here p;
  value = word_at file (layout.entry place s ++ rest) _ at 4 s.value here refl words.value;
  size = word_at file (layout.entry place s ++ rest) _ at 8 s.size here refl words.size;
  info = byte_of file (layout.entry place s ++ rest) at 12 here;
  section = half_at file (layout.entry place s ++ rest) _ at 14 1 here refl (lit< tt);
}

-- a written file has these symbols from an offset of entries on, their names from a place of the strings on
pub record HasEntries (file strings : List ℕ) (base place : ℕ) (symbols : List Symbol) : Type 0 where
  pub entries_rest : List ℕ
  pub entries : drop base file ≡ layout.symbol_entries place symbols ++ entries_rest
  pub names : drop place strings ≡ layout.names symbols
  pub words : All IsSymbolOfWords symbols
  pub named : All IsNamed symbols
  pub after_empty : 0 < place
  pub short : place + length (layout.names symbols) < 2 ^ 32

next_entries : (file strings : List ℕ) (base place : ℕ) (s : Symbol) (symbols : List Symbol) → HasEntries file strings base place (s ∷ symbols)
    → HasEntries file strings (base + 16) (place + length s.name + 1) symbols
next_entries file strings base place s symbols so =
    let following : drop (place + length s.name) strings ≡ 0 ∷ layout.names symbols =
    after strings s.name (0 ∷ layout.names symbols) place (length s.name) so.names refl in
    record {
      entries_rest = so.entries_rest;
      entries =
          after file (layout.entry place s) (layout.symbol_entries (place + length s.name + 1) symbols ++ so.entries_rest) base 16
          (so.entries ∙ append_assoc (layout.entry place s) (layout.symbol_entries (place + length s.name + 1) symbols) so.entries_rest)
          (length_entry place s);
      names = after strings (0 ∷ []) (layout.names symbols) (place + length s.name) 1 following refl;
      words = λ k d h. so.words (suc k) d (omega arith);
      named = λ k d h. so.named (suc k) d (omega arith);
      after_empty = omega arith;
      short = omega (arith, so.short, length-append s.name (0 ∷ layout.names symbols));
    }

first_entry : (file strings : List ℕ) (base place : ℕ) (s : Symbol) (symbols : List Symbol) → HasEntries file strings base place (s ∷ symbols)
    → IsEntry file base place s
first_entry file strings base place s symbols so =
    is_entry file (layout.symbol_entries (place + length s.name + 1) symbols ++ so.entries_rest) base place s
    (so.entries ∙ append_assoc (layout.entry place s) (layout.symbol_entries (place + length s.name + 1) symbols) so.entries_rest)
    (so.words 0 s (omega arith)) (omega (arith, so.short))

-- what comes before the first 0 byte of a name and a 0 byte is the name
name_before : (name rest : List ℕ) → (Contains name 0 → ⊥) → before_first (λ b. b == 0) (name ++ 0 ∷ rest) ≡ name
name_before name rest no_zero =
    let position : position_or_len (λ b. b == 0) (name ++ 0 ∷ rest) ≡ length name =
    position_or_len_is (λ b. b == 0) (name ++ 0 ∷ rest) (length name) 0 (omega (arith, length-append name (0 ∷ rest)))
    (λ k h.
    ne_eqb _ 0
    (λ e.
    no_zero (k, h, get_or_default name k 0 0 h ∙ sym (get_or_append_left name (0 ∷ rest) 0 k h) ∙ e)))
    (λ h. eq-eqb _ 0 (get_or-append_seam name 0 rest 0)) in
    ap (λ n. take n (name ++ 0 ∷ rest)) position ∙ take-append_seam name (0 ∷ rest)

-- an offset after the empty name is that of a name
named_in : (strings : List ℕ) (place : ℕ) → 0 < place → spec.name_in strings place ≡ before_first (λ b. b == 0) (drop place strings)
named_in strings place following = rw (ne_eqb place 0 (λ e. omega arith)) refl

pub ended_name : (name rest : List ℕ) → Contains (name ++ 0 ∷ rest) 0
ended_name name rest = (length name, omega (arith, length-append name (0 ∷ rest)), get_or-append_seam name 0 rest 0)

symbol_eq : (one other : Symbol) → one.name ≡ other.name → one.value ≡ other.value → one.size ≡ other.size → one.kind ≡ other.kind → one ≡ other
symbol_eq one other n v z k =
    let make : List ℕ → ℕ → ℕ → ℕ → Symbol = λ name value size kind. record { name = name; value = value; size = size; kind = kind } in
    ap (λ x. make x one.value one.size one.kind) n ∙ ap (λ x. make other.name x one.size one.kind) v
    ∙ ap (λ x. make other.name other.value x one.kind) z ∙ ap (λ x. make other.name other.value other.size x) k

symbol_read : (file strings : List ℕ) (table base place : ℕ) (s : Symbol) (symbols : List Symbol)
    → spec.strings_of file table ≡ strings → HasEntries file strings base place (s ∷ symbols)
    → spec.symbol_at file table base ≡ s
symbol_read file strings table base place s symbols strings_are so =
    let e = first_entry file strings base place s symbols so in
    let named = so.named 0 s (omega arith) in
    let kind : (16 + s.kind) % 16 ≡ s.kind = omega (arith, named.kind) in
    symbol_eq (spec.symbol_at file table base) s
    (ap (λ n. spec.name_in (spec.strings_of file table) n) e.name ∙ ap (λ xs. spec.name_in xs place) strings_are
    ∙ named_in strings place so.after_empty ∙ ap (λ xs. before_first (λ b. b == 0) xs) so.names
    ∙ name_before s.name (layout.names symbols) named.no_zero)
    e.value e.size (ap (λ n. n % 16) e.info ∙ kind)

-- the symbols of the entries are those that were written
pub symbols_read : (file strings : List ℕ) (table base place : ℕ) (symbols : List Symbol)
    → spec.strings_of file table ≡ strings → HasEntries file strings base place symbols
    → map (spec.symbol_at file table) (filter (λ at. not (spec.u16_at file (at + 14) == 0)) (spec.entries base 16 (length symbols))) ≡ symbols
symbols_read file strings table base place [] strings_are so = refl
symbols_read file strings table base place (s ∷ symbols) strings_are so =
    let p : ℕ → Bool = λ at. not (spec.u16_at file (at + 14) == 0) in
    let e = first_entry file strings base place s symbols so in
    let defined : not (spec.u16_at file (base + 14) == 0) ≡ true = ap (λ n. not (n == 0)) e.section in
    ap (λ xs. map (spec.symbol_at file table) xs) (filter_taken p base (spec.entries (base + 16) 16 (length symbols)) defined)
    ∙ ap (λ x. x ∷ map (spec.symbol_at file table) (filter p (spec.entries (base + 16) 16 (length symbols))))
    (symbol_read file strings table base place s symbols strings_are so)
    ∙ ap (λ xs. s ∷ xs)
    (symbols_read file strings table (base + 16) (place + length s.name + 1) symbols strings_are
    (next_entries file strings base place s symbols so))

-- each entry's name is ended
pub entries_ended : (file strings : List ℕ) (table base place k : ℕ) (symbols : List Symbol)
    → spec.strings_of file table ≡ strings → HasEntries file strings base place symbols → k < length symbols
    → spec.IsEnded file table (base + 16 * k)
entries_ended file strings table base place k [] strings_are so h = absurd (omega arith)
entries_ended file strings table base place zero (s ∷ symbols) strings_are so h =
    let here : base ≡ base + 16 * 0 = omega arith in
    let e = first_entry file strings base place s symbols so in
    subst (λ n. spec.IsEnded file table n) here
    (λ some. subst (λ xs. Contains xs 0) (sym (ap (λ n. drop n (spec.strings_of file table)) e.name ∙ ap (λ xs. drop place xs) strings_are ∙ so.names))
    (ended_name s.name (layout.names symbols)))
entries_ended file strings table base place (suc k) (s ∷ symbols) strings_are so h =
    let there : base + 16 + 16 * k ≡ base + 16 * suc k = omega arith in
    subst (λ n. spec.IsEnded file table n) there
    (entries_ended file strings table (base + 16) (place + length s.name + 1) k symbols strings_are
    (next_entries file strings base place s symbols so) (omega arith))
