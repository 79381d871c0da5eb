-- Globals of symbols, one after the other.
use Rattle.std.proofs.Common.{◌≡◌, ◌∙◌, ◌⊎◌, ℕ, suc, ◌+◌, ◌<◌, ◌==◌, ◌&&◌, Bool, true, false, List, [], ◌∷◌, ◌++◌, get_or, find, filter, map, Option, Some, None, refl, sym, ap, ap₂, arith, eqb-true, inl, inr}
use Rattle.std.specs.Prelude.{slice_get, bytes_eq, option_map, if◌then◌else◌}
use Rattle.std.specs.Option.{option_or}
use Rattle.std.proofs.lemmas.Bool.{cases_Bool, cases_lt, and_parts}
use Rattle.std.proofs.lemmas.List.Folds.{find-append}
use Rattle.std.proofs.lemmas.Option.{slice_get-get_or, slice_get_within, same_Some}
use Rattle.std.proofs.lemmas.Slice.Eq.{bytes_eq-Decides}
use Rattle.elf_read_spec.specs.declared.SymbolValues.{SymbolValues}
use Rattle.elf_read_spec.specs.declared.SymbolValues.TheVariants.{One}
use Rattle.elf_read_spec.specs.declared.fields.TheConstants.{STT_OBJECT}
use Rattle.elf_read_spec.specs.Image.{Image, Symbol, has_name, named_of, object_named}
use Rattle.c_run_value.specs.Settings.{address_in}
use Rattle.c_run_value.specs.declared.setting.Global.{Global}
use Rattle.validity_spec.specs.Claim.{globals_of, value_named}
use Rattle.cert_run.specs.Placed.{ArePlaced, IsLeftOut}

-- ---- none

pub none_placed : (image : Image) (globals : List Global) → globals ≡ [] → ArePlaced image 0 globals
none_placed image globals e name =
    inr (record {
      absent = λ k symbol below there named. absurd (omega (arith, below));
      none = ap (λ (l : List Global). address_in l name) e;
    })

-- ---- one symbol more

-- what the n-th symbol has not is left out still
still_out : (image : Image) (n : ℕ) (globals : List Global) (name : List ℕ) (symbol : Symbol) → slice_get image.symbols n ≡ Some symbol
    → has_name STT_OBJECT name symbol ≡ false → IsLeftOut image n globals name → IsLeftOut image (n + 1) globals name
still_out image n globals name symbol there other out = record { absent = absent; none = out.none }
  where
    absent : (k : ℕ) (s : Symbol) → k < n + 1 → slice_get image.symbols k ≡ Some s → has_name STT_OBJECT name s ≡ true → ⊥
    absent k s below at named = elim (cases_lt k n) [
      | inl earlier ↦ out.absent k s earlier at named
      | inr later ↦
          let here : k ≡ n = omega (arith, below, later) in
          let same : s ≡ symbol = same_Some s symbol (sym at ∙ ap (slice_get image.symbols) here ∙ there) in
          let bad : true ≡ false = sym named ∙ ap (has_name STT_OBJECT name) same ∙ other in
          absurd (cc)
    ]

-- a symbol that adds no global: of another kind, or of a name whose symbols don't have one value
pub nothing_added : (image : Image) (n : ℕ) (globals : List Global) (symbol : Symbol) → slice_get image.symbols n ≡ Some symbol
    → ((name : List ℕ) → has_name STT_OBJECT name symbol ≡ true → globals_of image name ≡ None) → ArePlaced image n globals → ArePlaced image (n + 1) globals
nothing_added image n globals symbol there none are name = elim (are name) [
  | inl known ↦ inl known
  | inr out ↦ elim (cases_Bool (has_name STT_OBJECT name symbol)) [
    | inl named ↦ inl (out.none ∙ sym (none name named))
    | inr other ↦ inr (still_out image n globals name symbol there other out)
  ]
]

-- of globals and one more
address_more : (globals : List Global) (g : Global) (name : List ℕ)
    → address_in (globals ++ g ∷ []) name ≡ option_or (address_in globals name) (if bytes_eq g.name.now name then Some g.address else None)
address_more globals g name =
    ap (option_map (λ (x : Global). x.address)) (find-append (λ (x : Global). bytes_eq x.name.now name) globals (g ∷ []))
    ∙ by (find (λ (x : Global). bytes_eq x.name.now name) globals) (bytes_eq g.name.now name)
  where
    by : (o : Option Global) (b : Bool)
        → option_map (λ (x : Global). x.address) (option_or o (if b then Some g else None))
        ≡ option_or (option_map (λ (x : Global). x.address) o) (if b then Some g.address else None)
    by (Some x) b = refl
    by None true = refl
    by None false = refl

-- a symbol of a name whose symbols have one value
pub one_placed : (image : Image) (n : ℕ) (globals : List Global) (g : Global) (symbol : Symbol) → slice_get image.symbols n ≡ Some symbol
    → symbol.kind ≡ STT_OBJECT → symbol.name ≡ g.name.now → object_named image g.name.now ≡ One g.address → ArePlaced image n globals
    → ArePlaced image (n + 1) (globals ++ g ∷ [])
one_placed image n globals g symbol there kind named value are name = elim (cases_Bool (bytes_eq g.name.now name)) [
  | inl same ↦
      let is : g.name.now ≡ name = (bytes_eq-Decides g.name.now name).0 same in
      let there_is : globals_of image name ≡ Some g.address = ap (λ (t : List ℕ). globals_of image t) (sym is) ∙ ap value_named value in
      inl (address_more globals g name ∙ ap (λ (b : Bool). option_or (address_in globals name) (if b then Some g.address else None)) same ∙ known (are name) there_is)
  | inr other ↦
      let kept : address_in (globals ++ g ∷ []) name ≡ address_in globals name =
      address_more globals g name ∙ ap (λ (b : Bool). option_or (address_in globals name) (if b then Some g.address else None)) other ∙ whole (address_in globals name) in
      elim (are name) [
        | inl known_is ↦ inl (kept ∙ known_is)
        | inr out ↦ inr (still_out image n (globals ++ g ∷ []) name symbol there (not_named other) (record { absent = out.absent; none = kept ∙ out.none }))
      ]
]
  where
    whole : (o : Option ℕ) → option_or o None ≡ o
    whole None = refl
    whole (Some x) = refl

    known : (address_in globals name ≡ globals_of image name) ⊎ IsLeftOut image n globals name → globals_of image name ≡ Some g.address
        → option_or (address_in globals name) (Some g.address) ≡ globals_of image name
    known (inl e) is = ap (λ (o : Option ℕ). option_or o (Some g.address)) (e ∙ is) ∙ sym is
    known (inr out) is = ap (λ (o : Option ℕ). option_or o (Some g.address)) out.none ∙ sym is

    not_named : bytes_eq g.name.now name ≡ false → has_name STT_OBJECT name symbol ≡ false
    not_named other = ap₂ (λ (k : ℕ) (n : List ℕ). (k == STT_OBJECT) && bytes_eq n name) kind named ∙ other

-- ---- all symbols

unnamed : (symbols : List Symbol) (name : List ℕ) → ((k : ℕ) (s : Symbol) → slice_get symbols k ≡ Some s → has_name STT_OBJECT name s ≡ true → ⊥)
    → filter (has_name STT_OBJECT name) symbols ≡ []
unnamed [] name none = refl
unnamed (s ∷ symbols) name none = elim (cases_Bool (has_name STT_OBJECT name s)) [
  | inl bad ↦ absurd (none 0 s refl bad)
  | inr other ↦ rw other (unnamed symbols name (λ k x there. none (suc k) x there))
]

none_past : (symbols : List Symbol) (n k : ℕ) (s : Symbol) → slice_get symbols n ≡ None → slice_get symbols k ≡ Some s → k < n
none_past symbols n k s past there = elim (cases_lt k n) [
  | inl less ↦ less
  | inr later ↦
      let within = slice_get_within symbols k s there in
      let here = slice_get-get_or symbols n s (omega (arith, within, later)) in
      let bad : None ≡ Some (get_or symbols n s) = sym past ∙ here in
      absurd (cc)
]

pub all_placed : (image : Image) (n : ℕ) (globals : List Global) → slice_get image.symbols n ≡ None → ArePlaced image n globals → (name : List ℕ)
    → address_in globals name ≡ globals_of image name
unfolding object_named
all_placed image n globals past are name = elim (are name) [
  | inl known ↦ known
  | inr out ↦
      out.none
      ∙ sym (ap (λ (l : List Symbol). value_named (named_of (map (λ (s : Symbol). s.value) l)))
      (unnamed image.symbols name (λ k s there. out.absent k s (none_past image.symbols n k s past there) there)))
]

-- ---- symbols that add nothing

pub is_of_kind : (symbol : Symbol) → (symbol.kind == STT_OBJECT) ≡ true → symbol.kind ≡ STT_OBJECT
is_of_kind symbol same = eqb-true symbol.kind STT_OBJECT same

-- a symbol of another kind
pub other_kind : (image : Image) (symbol : Symbol) → (symbol.kind == STT_OBJECT) ≡ false → (name : List ℕ) → has_name STT_OBJECT name symbol ≡ true
    → globals_of image name ≡ None
other_kind image symbol other name named =
    let bad : true ≡ false = sym (and_parts (symbol.kind == STT_OBJECT) (bytes_eq symbol.name name) named).0 ∙ other in
    absurd (cc)

-- a symbol of a name whose symbols don't have one value
pub other_value : (image : Image) (symbol : Symbol) (values : SymbolValues) → object_named image symbol.name ≡ values → value_named values ≡ None → (name : List ℕ)
    → has_name STT_OBJECT name symbol ≡ true → globals_of image name ≡ None
other_value image symbol values is none name named =
    let same : symbol.name ≡ name = (bytes_eq-Decides symbol.name name).0 (and_parts (symbol.kind == STT_OBJECT) (bytes_eq symbol.name name) named).1 in
    ap (globals_of image) (sym same) ∙ ap value_named is ∙ none
