-- What is known of the symbols of each name, collected from the last symbol to the first.
use Rattle.std.proofs.Common.{◌≡◌, ◌==◌, ◌-◌, ◌<◌, ◌≤◌, ◌∙◌, ℕ, suc, Bool, true, false, not, cond, List, [], ◌∷◌, Option, None, Some, length, get_or, drop, map, filter, find, bytes_eq, unwrap_or, slice_get, ap, sym, refl, arith, subst, eqb-true, eq-eqb, inl, inr, nat_cmp}
use Rattle.std.specs.Cmp.{ranks}
use Rattle.std.specs.Ordering.{is_eq}
use Rattle.std.specs.Option.{option_and_then, option_map}
use Rattle.std.specs.BTreeMap.{BTreeMap, get}
use Rattle.std.proofs.Math.Seq.{drop-cons}
use Rattle.std.proofs.lemmas.List.{drop_all, get_or_default, length-map}
use Rattle.std.proofs.lemmas.Option.{slice_get_cases, slice_get_past, slice_get-get_or, slice_get-map}
use Rattle.std.proofs.lemmas.Slice.Eq.{bytes_eq-Decides}
use Rattle.elf_read_spec.specs.Image as spec
use Rattle.elf_read_spec.specs.declared.SymbolValues.{SymbolValues}
use Rattle.elf_read_spec.specs.declared.SymbolValues.TheVariants.{Absent, Two}
use Rattle.elf_read.specs.declared.parts.Symbol.{Symbol}
use Rattle.elf_read.specs.Values.{symbol_of}
use Rattle.elf_read_spec.specs.File.{name_in}
use Rattle.elf_read.specs.NameTree.{ArePlaced, Tree, node_of, AreNumbered, looked_up, collected, known_among, AreCollected, with_first, values_step, size_step}
use Rattle.elf_read.specs.declared.named.Named.{Named}
use Rattle.elf_read.specs.Lookups.{AreLookups}
use Rattle.elf_read.proofs.SizeSteps.{blank, same_test}

abbrev differs : ℕ → ℕ → Bool
differs value other = not (other == value)

-- one value more, at the start
pub first_added : (value : ℕ) (values : List ℕ) → with_first value (spec.named_of values) ≡ spec.named_of (value ∷ values)
first_added value [] = refl
first_added value (other ∷ values) = by_test (other == value) refl
  where
    alike : (o : Option ℕ) → with_first other (spec.named_beside other o) ≡ spec.named_beside other o
    alike None = let same : (other == other) ≡ true = eq-eqb other other refl in rw same refl
    alike (Some next) = let same : (other == other) ≡ true = eq-eqb other other refl in rw same refl

    unlike : (o : Option ℕ) → (other == value) ≡ false → with_first value (spec.named_beside other o) ≡ Two value other
    unlike None e = rw e refl
    unlike (Some next) e = rw e refl

    by_test : (b : Bool) → (other == value) ≡ b → with_first value (spec.named_of (other ∷ values)) ≡ spec.named_of (value ∷ other ∷ values)
    by_test true e =
        let same : other ≡ value = eqb-true other value e in
        let found : find (differs other) (other ∷ values) ≡ find (differs other) values =
        let equal : (other == other) ≡ true = eq-eqb other other refl in rw equal refl in
        subst (λ v. with_first v (spec.named_of (other ∷ values)) ≡ spec.named_of (v ∷ other ∷ values)) same
        (alike (find (differs other) values) ∙ ap (λ o. spec.named_beside other o) (sym found))
    by_test false e =
        let found : find (differs value) (other ∷ values) ≡ Some other = rw e refl in
        unlike (find (differs other) values) e ∙ ap (λ o. spec.named_beside value o) (sym found)

-- the values of symbols that are collected are those of all of them
pub named_known : (symbols : List spec.Symbol) → unwrap_or (collected values_step symbols) Absent ≡ spec.named_of (map (λ s. s.value) symbols)
named_known [] = refl
named_known (symbol ∷ symbols) =
    ap (λ values. with_first symbol.value values) (named_known symbols) ∙ first_added symbol.value (map (λ s. s.value) symbols)

-- the size that is collected is the first
pub size_known : (symbols : List spec.Symbol) → collected size_step symbols ≡ spec.first_of (map (λ s. s.size) symbols)
size_known [] = refl
size_known (symbol ∷ symbols) = refl

-- a symbol more, at the start
among_next : {V : Type 0} (step : spec.Symbol → Option V → V) (symbols : List Symbol) (kind : ℕ) (name : List ℕ) (at : ℕ) (d : Symbol) (b : Bool)
    → 0 < at → at ≤ length symbols → spec.has_name kind name (symbol_of (get_or symbols (at - 1) d)) ≡ b
    → known_among step symbols kind name (at - 1)
    ≡ cond b (Some (step (symbol_of (get_or symbols (at - 1) d)) (known_among step symbols kind name at))) (known_among step symbols kind name at)
among_next step symbols kind name at d b some h test =
    let s = get_or symbols (at - 1) d in
    let next : suc (at - 1) ≡ at = omega arith in
    ap (λ xs. collected step (filter (spec.has_name kind name) (map symbol_of xs)))
    (drop-cons symbols (at - 1) d (omega arith) ∙ ap (λ n. s ∷ drop n symbols) next)
    ∙ by_test b test
  where
    by_test : (b : Bool) → spec.has_name kind name (symbol_of (get_or symbols (at - 1) d)) ≡ b
        → collected step (filter (spec.has_name kind name) (map symbol_of (get_or symbols (at - 1) d ∷ drop at symbols)))
        ≡ cond b (Some (step (symbol_of (get_or symbols (at - 1) d)) (known_among step symbols kind name at))) (known_among step symbols kind name at)
    by_test true e =
        let hit : filter (spec.has_name kind name) (map symbol_of (get_or symbols (at - 1) d ∷ drop at symbols))
        ≡ symbol_of (get_or symbols (at - 1) d) ∷ filter (spec.has_name kind name) (map symbol_of (drop at symbols)) = rw e refl in
        ap (λ xs. collected step xs) hit
    by_test false e =
        let miss : filter (spec.has_name kind name) (map symbol_of (get_or symbols (at - 1) d ∷ drop at symbols))
        ≡ filter (spec.has_name kind name) (map symbol_of (drop at symbols)) = rw e refl in
        ap (λ xs. collected step xs) miss

-- a symbol of another type
pub known_passed : {V : Type 0} (tree : Tree) (step : spec.Symbol → Option V → V) (known : BTreeMap ℕ V) (symbols : List Symbol) (kind at : ℕ) (d : Symbol)
    → 0 < at → at ≤ length symbols → ((get_or symbols (at - 1) d).kind == kind) ≡ false → AreCollected tree symbols kind step known at
    → AreCollected tree symbols kind step known (at - 1)
known_passed tree step known symbols kind at d some h other so name =
    let fails : spec.has_name kind name (symbol_of (get_or symbols (at - 1) d)) ≡ false = rw other refl in
    so name ∙ sym (among_next step symbols kind name at d false some h fails)

-- what is known of a node that isn't written stays
other_node : {V : Type 0} (old new : BTreeMap ℕ V) (number : ℕ) (joined : V) (o : Option ℕ) → (o ≡ Some number → ⊥)
    → ((node : ℕ) → get nat_cmp new node ≡ cond (is_eq (nat_cmp number node)) (Some joined) (get nat_cmp old node))
    → option_and_then (λ node. get nat_cmp new node) o ≡ option_and_then (λ node. get nat_cmp old node) o
other_node old new number joined None apart writes = refl
other_node old new number joined (Some node) apart writes =
    writes node
    ∙ ap (λ b. cond b (Some joined) (get nat_cmp old node)) (same_test number node (nat_cmp number node) (ranks number node))
    ∙ by_test (number == node) refl
  where
    by_test : (b : Bool) → (number == node) ≡ b → cond (number == node) (Some joined) (get nat_cmp old node) ≡ get nat_cmp old node
    by_test true e = absurd (apart (ap Some (sym (eqb-true number node e))))
    by_test false e = ap (λ b. cond b (Some joined) (get nat_cmp old node)) e

-- a symbol of the type
pub known_written : {V : Type 0} (tree : Tree) (step : spec.Symbol → Option V → V) (old new : BTreeMap ℕ V) (symbols : List Symbol) (numbers : List ℕ)
    (kind at number : ℕ) (joined : V) (d : Symbol)
    → 0 < at → at ≤ length symbols → length numbers ≡ length symbols → AreNumbered tree symbols numbers
    → number ≡ get_or numbers (at - 1) number → (get_or symbols (at - 1) d).kind ≡ kind
    → joined ≡ step (symbol_of (get_or symbols (at - 1) d)) (get nat_cmp old number)
    → ((node : ℕ) → get nat_cmp new node ≡ cond (is_eq (nat_cmp number node)) (Some joined) (get nat_cmp old node))
    → AreCollected tree symbols kind step old at → AreCollected tree symbols kind step new (at - 1)
known_written tree step old new symbols numbers kind at number joined d some h count so number_is kind_is joined_is writes known name =
    by_name (bytes_eq s.name.now name) refl
  where
    s : Symbol
    s = get_or symbols (at - 1) d

    first : node_of tree s.name.now ≡ Some number
    first = so.each (at - 1) d (omega arith) ∙ ap Some (sym (number_is ∙ get_or_default numbers (at - 1) number 0 (omega arith)))

    by_name : (b : Bool) → bytes_eq s.name.now name ≡ b → looked_up tree new name ≡ known_among step symbols kind name (at - 1)
    by_name true e =
        let same : s.name.now ≡ name = (bytes_eq-Decides s.name.now name).0 e in
        let here : node_of tree name ≡ Some number = ap (λ n. node_of tree n) (sym same) ∙ first in
        let equal : is_eq (nat_cmp number number) ≡ true =
        same_test number number (nat_cmp number number) (ranks number number) ∙ eq-eqb number number refl in
        let written : looked_up tree new name ≡ Some joined =
        ap (λ o. option_and_then (λ node. get nat_cmp new node) o) here
        ∙ writes number ∙ ap (λ b. cond b (Some joined) (get nat_cmp old number)) equal in
        let before : get nat_cmp old number ≡ known_among step symbols kind name at =
        sym (ap (λ o. option_and_then (λ node. get nat_cmp old node) o) here) ∙ known name in
        let passes : spec.has_name kind name (symbol_of s) ≡ true =
        let kinds : (s.kind == kind) ≡ true = eq-eqb s.kind kind kind_is in rw (kinds, e) refl in
        written ∙ ap Some (joined_is ∙ ap (λ o. step (symbol_of s) o) before) ∙ sym (among_next step symbols kind name at d true some h passes)
    by_name false e =
        let fails : spec.has_name kind name (symbol_of s) ≡ false =
        let kinds : (s.kind == kind) ≡ true = eq-eqb s.kind kind kind_is in rw (kinds, e) refl in
        other_node old new number joined (node_of tree name)
        (λ here.
        let same : s.name.now ≡ name = so.once s.name.now name number first here in
        let equal : bytes_eq s.name.now name ≡ true = (bytes_eq-Decides s.name.now name).1 same in absurd cc)
        writes
        ∙ known name ∙ sym (among_next step symbols kind name at d false some h fails)

-- without symbols nothing is known
pub known_begins : {V : Type 0} (tree : Tree) (step : spec.Symbol → Option V → V) (symbols : List Symbol) (kind : ℕ) (known : BTreeMap ℕ V)
    → known.entries ≡ [] → AreCollected tree symbols kind step known (length symbols)
known_begins tree step symbols kind known none name =
    nothing (node_of tree name)
    ∙ ap (λ xs. collected step (filter (spec.has_name kind name) (map symbol_of xs))) (sym (drop_all (length symbols) symbols (omega arith)))
  where
    nothing : (o : Option ℕ) → option_and_then (λ node. get nat_cmp known node) o ≡ None
    nothing None = refl
    nothing (Some node) = rw none refl

-- what is known of the name of a symbol is found by its number
pub known_at : (named : Named) (symbols : List Symbol) (i : ℕ) → AreLookups named symbols
    → option_map (λ node. unwrap_or (get nat_cmp named.objects node) Absent) (slice_get named.numbers.items i)
    ≡ option_map (λ (s : spec.Symbol). spec.named_of (map (λ t. t.value) (filter (spec.has_name 1 s.name) (map symbol_of symbols))))
    (slice_get (map symbol_of symbols) i)
known_at named symbols i so =
    elim (slice_get_cases named.numbers.items i).1 [
      | inl there ↦ inside there.1
      | inr past ↦
          ap (λ o. option_map (λ node. unwrap_or (get nat_cmp named.objects node) Absent) o) past.1
          ∙ sym (ap (λ o. option_map values o) (slice_get_past (map symbol_of symbols) i (omega (arith, length-map symbols symbol_of, so.long, past.0))))
    ]
  where
    values : spec.Symbol → SymbolValues
    values s = spec.named_of (map (λ t. t.value) (filter (spec.has_name 1 s.name) (map symbol_of symbols)))

    inside : i < length named.numbers.items
        → option_map (λ node. unwrap_or (get nat_cmp named.objects node) Absent) (slice_get named.numbers.items i)
        ≡ option_map values (slice_get (map symbol_of symbols) i)
    inside h =
        let s = get_or symbols i blank in
        let number = get_or named.numbers.items i 0 in
        let here : node_of named.tree s.name.now ≡ Some number = so.nodes.each i blank h in
        let known : get nat_cmp named.objects number ≡ known_among values_step symbols 1 s.name.now 0 =
        sym (ap (λ o. option_and_then (λ node. get nat_cmp named.objects node) o) here) ∙ so.objects s.name.now in
        ap (λ o. option_map (λ node. unwrap_or (get nat_cmp named.objects node) Absent) o) (slice_get-get_or named.numbers.items i 0 h)
        ∙ ap Some (ap (λ o. unwrap_or o Absent) known ∙ named_known (filter (spec.has_name 1 s.name.now) (map symbol_of symbols)))
        ∙ sym (ap (λ o. option_map values o)
        (slice_get-map symbol_of symbols i ∙ ap (λ o. option_map symbol_of o) (slice_get-get_or symbols i blank (omega (arith, so.long)))))

map_twice : {X Y Z : Type 0} (f : X → Y) (g : Y → Z) (xs : List X) → map g (map f xs) ≡ map (λ x. g (f x)) xs
map_twice f g [] = refl
map_twice f g (x ∷ xs) = ap (λ ys. g (f x) ∷ ys) (map_twice f g xs)

-- symbols and offsets that are made of the same entries
pub placed : (symbols : List Symbol) (offsets strings entries : List ℕ) (at : ℕ → spec.Symbol) → map symbol_of symbols ≡ map at entries
    → map (name_in strings) offsets ≡ map (λ e. (at e).name) entries → ArePlaced symbols strings offsets
placed symbols offsets strings entries at symbols_are names_are =
    names_are ∙ sym (map_twice at (λ (s : spec.Symbol). s.name) entries) ∙ ap (λ (xs : List spec.Symbol). map (λ s. s.name) xs) (sym symbols_are)
    ∙ map_twice symbol_of (λ (s : spec.Symbol). s.name) symbols
