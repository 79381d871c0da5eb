-- The variables that are found are those that the symbols spell, where these are in scope.
use Rattle.std.proofs.Common.{◌≡◌, ◌∙◌, ℕ, zero, suc, ◌+◌, ◌-◌, ◌<◌, ◌≤◌, ◌&&◌, ◌||◌, Bool, true, false, if◌then◌else◌, List, [], ◌∷◌, ◌++◌, length, get_or, map, Option, Some, None, refl, sym, ap, subst, inl, inr, arith}
use Rattle.std.specs.Prelude.{◌⊎◌, Contains, bytes_eq, nat_eq, nat_lt, nat_le, slice_get, option_map, option_and_then}
use Rattle.std.specs.List.{starts_with}
use Rattle.std.proofs.lemmas.Bool.{and_parts, and_from, or_cases, or_left, or_right, ltb-true, ltb-false, leb-true, lt-ltb, le-leb}
use Rattle.std.proofs.lemmas.Option.{same_Some, cond_some}
use Rattle.std.proofs.lemmas.Slice.Eq.{bytes_eq-Decides}
use Rattle.term_core_spec.specs.declared.Width.TheVariants.{W32}
use Rattle.term_core_spec.specs.declared.Sort.{Sort}
use Rattle.term_core_spec.specs.declared.Sort.TheVariants.{Truth, Word}
use Rattle.term_core_spec.specs.declared.Family.TheVariants as family
use Rattle.term_core_spec.specs.declared.Variable.{Variable}
use Rattle.cert_text_spec.specs.declared.Symbol.{Symbol}
use Rattle.cert_text_spec.specs.declared.Symbol.TheVariants as symbol
use Rattle.proof_tree_spec.specs.Scope.{Body, Setting, IsVisible, IsRegister, IsInScope}
use Rattle.cert_check_spec.specs.Terms as terms
use Rattle.cert_check_spec.specs.Terms.{variable, IsVariable}
use Rattle.cert_check_terms.specs.Variables.{AreApart, register_at, entry_at, parameter_at, own_variable, body_with, body_on, local_of, is_set_of, local_at, is_set_at}

-- ---- bodies

contains_later : (b c : Body) (bodies : List Body) → Contains bodies c → Contains (b ∷ bodies) c
contains_later b c bodies (k, within, is) = (suc k, omega (arith, within), is)

pub record IsFound (calls : List ℕ) (bodies : List Body) (b : Body) : Type 0 where
  pub among : Contains bodies b
  pub path_is : b.path ≡ calls

pub found_in : (calls : List ℕ) (bodies : List Body) (b : Body) → body_with calls bodies ≡ Some b → IsFound calls bodies b
found_in calls [] b e = absurd (cc)
found_in calls (c ∷ bodies) b e = by (bytes_eq c.path calls) refl (λ h. found_in calls bodies b h) e
  where
    by : (t : Bool) → bytes_eq c.path calls ≡ t → (body_with calls bodies ≡ Some b → IsFound calls bodies b)
        → (if t then Some c else body_with calls bodies) ≡ Some b → IsFound calls (c ∷ bodies) b
    by true is later h = record {
      among = (0, omega arith, same_Some c b h);
      path_is = subst (λ (x : Body). x.path ≡ calls) (same_Some c b h) ((bytes_eq-Decides c.path calls).0 is);
    }
    by false is later h =
        let rest = later h in
        record { among = contains_later c b bodies rest.among; path_is = rest.path_is }

-- a body that is there is found, or another one of its path
some_found : (b : Body) (bodies : List Body) → Contains bodies b → (c : Body) × (body_with b.path bodies ≡ Some c)
some_found b [] (k, within, is) = absurd (omega (arith, within))
some_found b (d ∷ bodies) (k, within, is) = by (bytes_eq d.path b.path) refl (λ among. some_found b bodies among) k within is
  where
    by : (t : Bool) → bytes_eq d.path b.path ≡ t → (Contains bodies b → (c : Body) × (body_with b.path bodies ≡ Some c)) → (k : ℕ) → k < length (d ∷ bodies) → get_or (d ∷ bodies) k b ≡ b
        → (c : Body) × ((if t then Some d else body_with b.path bodies) ≡ Some c)
    by true at later k within is = (d, refl)
    by false at later zero within is =
        let same : bytes_eq d.path b.path ≡ true = (bytes_eq-Decides d.path b.path).1 (ap (λ (x : Body). x.path) is) in
        absurd (cc)
    by false at later (suc k) within is = later (k, omega (arith, within), is)

pub found_to : (b : Body) (bodies : List Body) → AreApart bodies → Contains bodies b → body_with b.path bodies ≡ Some b
found_to b bodies apart among =
    let some = some_found b bodies among in
    let is = found_in b.path bodies some.0 some.1 in
    some.1 ∙ ap Some (apart.by_path some.0 b is.among among is.path_is)

-- ---- on a path

pub record IsOn (s : Setting) (path calls : List ℕ) (b : Body) : Type 0 where
  pub among : Contains s.bodies b
  pub path_is : b.path ≡ calls
  pub leads : starts_with nat_eq path b.path ≡ true

pub on_from : (s : Setting) (path calls : List ℕ) (b : Body) → body_on path calls s.bodies ≡ Some b → IsOn s path calls b
on_from s path calls b e = by (starts_with nat_eq path calls) refl e
  where
    by : (t : Bool) → starts_with nat_eq path calls ≡ t → (if t then body_with calls s.bodies else None) ≡ Some b → IsOn s path calls b
    by true is h =
        let found = found_in calls s.bodies b h in
        record { among = found.among; path_is = found.path_is; leads = subst (λ (p : List ℕ). starts_with nat_eq path p ≡ true) (sym found.path_is) is }
    by false is h = absurd (cc)

pub on_to : (s : Setting) (path : List ℕ) (b : Body) → AreApart s.bodies → Contains s.bodies b → starts_with nat_eq path b.path ≡ true → body_on path b.path s.bodies ≡ Some b
on_to s path b apart among leads =
    ap (λ (t : Bool). if t then body_with b.path s.bodies else None) leads ∙ found_to b s.bodies apart among

-- the body whose variable is in scope
same_body : (s : Setting) (path : List ℕ) (v : Variable) (b c : Body) → AreApart s.bodies → Contains s.bodies b → b.instance ≡ v.instance → Contains s.bodies c → IsVisible path v c
    → starts_with nat_eq path b.path ≡ true
same_body s path v b c apart among owned there visible =
    let same : c ≡ b = apart.by_instance c b there among (visible.owned ∙ sym owned) in
    subst (λ (x : Body). starts_with nat_eq path x.path ≡ true) same visible.on_the_path

-- ---- the function's own variables

abbrev pub IsOwn : Setting → (path : List ℕ) → Symbol → Variable → Type 0
IsOwn s path x v = IsVariable s (x ∷ []) v × IsInScope s path v

register_fine : (n : ℕ) → (nat_le 1 n && nat_lt n 32) ≡ true → IsRegister (variable family.Register n 0 (Word W32))
register_fine n e =
    let parts = and_parts (nat_le 1 n) (nat_lt n 32) e in
    record { from = leb-true 1 n parts.0; below = ltb-true n 32 parts.1; of_function = refl; word = refl }

entry_fine : (n : ℕ) → (nat_le 1 n && nat_lt n 32) ≡ true → IsRegister (variable family.Entry n 0 (Word W32))
entry_fine n e =
    let parts = and_parts (nat_le 1 n) (nat_lt n 32) e in
    record { from = leb-true 1 n parts.0; below = ltb-true n 32 parts.1; of_function = refl; word = refl }

free_from : (words n : ℕ) → (nat_lt n 10 || nat_le words (n - 10)) ≡ true → (n < 10) ⊎ (10 + words ≤ n)
free_from words n e = elim (or_cases (nat_lt n 10) (nat_le words (n - 10)) e) [
  | inl h ↦ inl (ltb-true n 10 h)
  | inr h ↦ let le = leb-true words (n - 10) h in by le (nat_lt n 10) refl
]
  where
    by : words ≤ n - 10 → (t : Bool) → nat_lt n 10 ≡ t → (n < 10) ⊎ (10 + words ≤ n)
    by le true is = inl (ltb-true n 10 is)
    by le false is = inr (omega (arith, le, ltb-false n 10 is))

free_to : (words n : ℕ) → (n < 10) ⊎ (10 + words ≤ n) → (nat_lt n 10 || nat_le words (n - 10)) ≡ true
free_to words n (inl h) = or_left (nat_lt n 10) (nat_le words (n - 10)) (lt-ltb n 10 h)
free_to words n (inr h) = or_right (nat_lt n 10) (nat_le words (n - 10)) (le-leb words (n - 10) (omega (arith, h)))

pub own_from : (s : Setting) (path : List ℕ) (x : Symbol) (v : Variable) → own_variable s x ≡ Some v → IsOwn s path x v
own_from s path (symbol.Register n) v e =
    let is = cond_some (nat_le 1 n && nat_lt n 32) (variable family.Register n 0 (Word W32)) v e in
    subst (IsOwn s path (symbol.Register n)) is.1 (terms.register n, register_fine n is.0)
own_from s path (symbol.Entry n) v e =
    let is = cond_some ((nat_le 1 n && nat_lt n 32) && (nat_lt n 10 || nat_le s.argument_words (n - 10))) (variable family.Entry n 0 (Word W32)) v e in
    let parts = and_parts (nat_le 1 n && nat_lt n 32) (nat_lt n 10 || nat_le s.argument_words (n - 10)) is.0 in
    subst (IsOwn s path (symbol.Entry n)) is.1 (terms.entry n, (entry_fine n parts.0, free_from s.argument_words n parts.1))
own_from s path (symbol.Parameter n) v e = by (slice_get s.parameters n) refl e
  where
    by : (o : Option Sort) → slice_get s.parameters n ≡ o → option_map (λ (t : Sort). variable family.Parameter n 0 t) o ≡ Some v → IsOwn s path (symbol.Parameter n) v
    by (Some t) is h =
        subst (IsOwn s path (symbol.Parameter n)) (same_Some (variable family.Parameter n 0 t) v h) (terms.parameter n t is, (refl, is))
    by None is h = absurd (cc)
own_from s path symbol.SourceMemory v e =
    subst (IsOwn s path symbol.SourceMemory) (same_Some (terms.memory family.SourceMemory) v e)
    (terms.source_memory, record { only = refl; of_function = refl; memory = refl })
own_from s path symbol.ZoneMemory v e =
    subst (IsOwn s path symbol.ZoneMemory) (same_Some (terms.memory family.ZoneMemory) v e)
    (terms.zone_memory, record { only = refl; of_function = refl; memory = refl })
own_from s path symbol.BinaryMemory v e =
    subst (IsOwn s path symbol.BinaryMemory) (same_Some (terms.memory family.BinaryMemory) v e)
    (terms.binary_memory, record { only = refl; of_function = refl; memory = refl })
own_from s path x v e = absurd (cc)

-- ---- variables of bodies

-- the spelling of a variable of a body
abbrev pub IsName : Setting → (path calls : List ℕ) → Symbol → Variable → Type 0
IsName s path calls x v = IsVariable s (map symbol.Inlined calls ++ x ∷ []) v × IsInScope s path v

pub local_from : (s : Setting) (path calls : List ℕ) (n : ℕ) (v : Variable) → local_at s path calls n ≡ Some v → IsName s path calls (symbol.Local n) v
local_from s path calls n v e = by (body_on path calls s.bodies) refl e
  where
    one : (b : Body) → IsOn s path calls b → (o : Option Sort) → slice_get b.locals n ≡ o → option_map (λ (t : Sort). variable family.Local n b.instance t) o ≡ Some v
        → IsName s path calls (symbol.Local n) v
    one b on (Some t) is h =
        let among = on.among in
        subst (IsName s path calls (symbol.Local n)) (same_Some (variable family.Local n b.instance t) v h) (
          subst (λ (p : List ℕ). IsVariable s (map symbol.Inlined p ++ symbol.Local n ∷ []) (variable family.Local n b.instance t)) on.path_is (terms.local b n t on.among is),
          (among.0, b, among.1, among.2, (record { owned = refl; on_the_path = on.leads }, is)),
        )
    one b on None is h = absurd (cc)

    by : (o : Option Body) → body_on path calls s.bodies ≡ o → option_and_then (local_of n) o ≡ Some v → IsName s path calls (symbol.Local n) v
    by (Some b) is h = one b (on_from s path calls b is) (slice_get b.locals n) refl h
    by None is h = absurd (cc)

pub is_set_from : (s : Setting) (path calls : List ℕ) (n : ℕ) (v : Variable) → is_set_at s path calls n ≡ Some v → IsName s path calls (symbol.IsSet n) v
is_set_from s path calls n v e = by (body_on path calls s.bodies) refl e
  where
    one : (b : Body) → IsOn s path calls b → is_set_of n b ≡ Some v → IsName s path calls (symbol.IsSet n) v
    one b on h =
        let is = cond_some (nat_lt n (length b.locals)) (variable family.IsSet n b.instance Truth) v h in
        let below = ltb-true n (length b.locals) is.0 in
        let among = on.among in
        subst (IsName s path calls (symbol.IsSet n)) is.1 (
          subst (λ (p : List ℕ). IsVariable s (map symbol.Inlined p ++ symbol.IsSet n ∷ []) (variable family.IsSet n b.instance Truth)) on.path_is (terms.is_set b n on.among below),
          (refl, (among.0, b, among.1, among.2, (record { owned = refl; on_the_path = on.leads }, below))),
        )

    by : (o : Option Body) → body_on path calls s.bodies ≡ o → option_and_then (is_set_of n) o ≡ Some v → IsName s path calls (symbol.IsSet n) v
    by (Some b) is h = one b (on_from s path calls b is) h
    by None is h = absurd (cc)

-- ---- and what they spell is found

pub register_to : (n : ℕ) → IsRegister (variable family.Register n 0 (Word W32)) → register_at n ≡ Some (variable family.Register n 0 (Word W32))
register_to n is =
    ap (λ (t : Bool). if t then Some (variable family.Register n 0 (Word W32)) else None)
    (and_from (nat_le 1 n) (nat_lt n 32) (le-leb 1 n is.from) (lt-ltb n 32 is.below))

pub entry_to : (words n : ℕ) → IsRegister (variable family.Entry n 0 (Word W32)) → (n < 10) ⊎ (10 + words ≤ n) → entry_at words n ≡ Some (variable family.Entry n 0 (Word W32))
entry_to words n is free =
    ap (λ (t : Bool). if t then Some (variable family.Entry n 0 (Word W32)) else None)
    (and_from (nat_le 1 n && nat_lt n 32) (nat_lt n 10 || nat_le words (n - 10))
    (and_from (nat_le 1 n) (nat_lt n 32) (le-leb 1 n is.from) (lt-ltb n 32 is.below)) (free_to words n free))

pub parameter_to : (sorts : List Sort) (n : ℕ) (t : Sort) → slice_get sorts n ≡ Some t → parameter_at sorts n ≡ Some (variable family.Parameter n 0 t)
parameter_to sorts n t is = ap (option_map (λ (u : Sort). variable family.Parameter n 0 u)) is

pub local_to : (s : Setting) (path : List ℕ) (b : Body) (n : ℕ) (t : Sort) → AreApart s.bodies → Contains s.bodies b → slice_get b.locals n ≡ Some t
    → IsInScope s path (variable family.Local n b.instance t) → local_at s path b.path n ≡ Some (variable family.Local n b.instance t)
local_to s path b n t apart among is (k, c, within, there, (visible, has)) =
    let leads = same_body s path (variable family.Local n b.instance t) b c apart among refl (k, within, there) visible in
    ap (option_and_then (local_of n)) (on_to s path b apart among leads) ∙ ap (option_map (λ (u : Sort). variable family.Local n b.instance u)) is

pub is_set_to : (s : Setting) (path : List ℕ) (b : Body) (n : ℕ) → AreApart s.bodies → Contains s.bodies b → n < length b.locals
    → IsInScope s path (variable family.IsSet n b.instance Truth) → is_set_at s path b.path n ≡ Some (variable family.IsSet n b.instance Truth)
is_set_to s path b n apart among below (sorted, (k, c, within, there, (visible, has))) =
    let leads = same_body s path (variable family.IsSet n b.instance Truth) b c apart among refl (k, within, there) visible in
    ap (option_and_then (is_set_of n)) (on_to s path b apart among leads)
    ∙ ap (λ (v : Bool). if v then Some (variable family.IsSet n b.instance Truth) else None) (lt-ltb n (length b.locals) below)
