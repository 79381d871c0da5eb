-- Look-ups in a map, and in the lists of a typed core.
use Rattle.std.proofs.Common.{◌≡◌, ℕ, List, [], ◌∷◌, ◌++◌, length, map, refl, sym, ◌∙◌, ap, subst, inl, inr, true≢false, arith}
use Rattle.std.specs.Prelude.{Bool, true, false, cond, find, bytes_eq, Option, Some, None, option_map, option_copied}
use Rattle.indexmap.specs.IndexMap.{insert_entry}
use Rattle.std.specs.Borrow.{Bor}
use Rattle.std.specs.Map.{lookup}
use Rattle.std.specs.List.{AllByRecursion, IsDistinct}
use Rattle.std.proofs.lemmas.Bool.{cases_Bool}
use Rattle.std.proofs.lemmas.Slice.Eq.{bytes_eq-Decides}
use Rattle.std.specs.Bool.{one_answer}
use Rattle.std.proofs.lemmas.Bool.Decides.{Decides-like}
use Rattle.c_token_spec.specs.Words.{entry_of}
use Rattle.c_types_spec.specs.Types.{Structs}
use Rattle.c_types_spec.specs.Core as core
use Rattle.c_types_spec.specs.Units.{functions_in, global_size, globals_in}
use Rattle.c_types_layout.specs.Types.{type_of}
use Rattle.c_types_scope.specs.declared.meaning.Meaning.{Meaning}
use Rattle.c_types_scope.specs.declared.meaning.Meaning.TheVariants.{Local, Object, Function, Typedef, Enumerator}
use Rattle.c_types_scope.specs.Scopes.{file_of}
use Rattle.c_types_scope.specs.Meanings.{seen_meaning, scope_by}
use Rattle.c_types.specs.declared.typed.Body.{Body}
use Rattle.c_types.specs.Typed.{AreDistinct, bodies_of, body_in, body_of_name, function_in, global_at, global_in, global_of}

bytes-turn : (xs ys : List ℕ) → bytes_eq xs ys ≡ bytes_eq ys xs
bytes-turn xs ys = one_answer (bytes_eq xs ys) (bytes_eq ys xs) (bytes_eq-Decides xs ys) (Decides-like (bytes_eq ys xs) (λ e. sym e) (λ e. sym e) (bytes_eq-Decides ys xs))

pub same-bytes : (xs ys : List ℕ) → bytes_eq xs ys ≡ true → xs ≡ ys
same-bytes xs ys e = (bytes_eq-Decides xs ys).0 e

-- what a map gives by reference
pub copied-map : {X Y : Type 0} (f : X → Y) (r : Option (Bor X)) (v : Option X) → option_copied r ≡ v → option_map (λ b. f b.now) r ≡ option_map f v
copied-map f None v e = ap (λ x. option_map f x) e
copied-map f (Some b) v e = ap (λ x. option_map f x) e

pub body-found : (entries : List (Bor (List ℕ) × Body)) (name : List ℕ)
    → option_map (λ b. body_of_name name b) (lookup (λ (k : Bor (List ℕ)). bytes_eq name k.now) entries) ≡ body_in (bodies_of entries) name
body-found [] name = refl
body-found (entry ∷ entries) name = elim (cases_Bool (bytes_eq entry.0.now name)) [
  | inl h ↦ (let k : bytes_eq name entry.0.now ≡ true = bytes-turn name entry.0.now ∙ h in rw (h, k) (ap (λ n. Some (body_of_name n entry.1)) (sym (same-bytes entry.0.now name h))))
  | inr h ↦ (let k : bytes_eq name entry.0.now ≡ false = bytes-turn name entry.0.now ∙ h in rw (h, k) (body-found entries name))
]

pub body-added : (name : Bor (List ℕ)) (body : Body) (entries : List (Bor (List ℕ) × Body)) → lookup (λ (k : Bor (List ℕ)). bytes_eq name.now k.now) entries ≡ None
    → bodies_of (insert_entry (λ a b. bytes_eq a.now b.now) entries name body) ≡ bodies_of entries ++ body_of_name name.now body ∷ []
body-added name body [] e = refl
body-added name body (entry ∷ entries) e = elim (cases_Bool (bytes_eq name.now entry.0.now)) [
  | inl h ↦ absurd (let found : Some entry.1 ≡ None = rw h at e in cc)
  | inr h ↦ rw h (ap (λ l. body_of_name entry.0.now entry.1 ∷ l) (body-added name body entries (rw h at e)))
]

pub no-entries : {K X : Type 0} (test : K → Bool) (entries : List (K × X)) → length entries ≡ 0 → lookup test entries ≡ None
no-entries test [] h = refl
no-entries test (entry ∷ entries) h = absurd (omega (arith, h))

pub ruleset absent = (no-entries)

-- ---- names of the file scope, each of which is there once

abbrev Entries : Type 0
Entries = List (Bor (List ℕ) × Meaning)

-- no other entry has the name
abbrev Lacks : List ℕ → Entries → Type 0
Lacks name entries = AllByRecursion (λ (k : Bor (List ℕ)). bytes_eq name k.now ≡ false) (map (λ (e : Bor (List ℕ) × Meaning). e.0) entries)

abbrev in_option : {X Y : Type 0} → (X → Option Y) → Option X → Option Y
in_option f None = None
in_option f (Some x) = f x

-- what one entry adds to the functions
abbrev functions : Entries → List (List ℕ × core.FunctionType)
functions entries = functions_in (scope_by seen_meaning (file_of entries))

functions-lack : (entries : Entries) (name : List ℕ) → Lacks name entries → entry_of (functions entries) name ≡ None
functions-lack [] name lacks = refl
functions-lack ((key, Function signature has_body) ∷ entries) name lacks =
    let k : bytes_eq key.now name ≡ false = bytes-turn key.now name ∙ lacks.0 in rw k (functions-lack entries name lacks.1)
functions-lack ((key, Local number type) ∷ entries) name lacks = functions-lack entries name lacks.1
functions-lack ((key, Object type) ∷ entries) name lacks = functions-lack entries name lacks.1
functions-lack ((key, Typedef type) ∷ entries) name lacks = functions-lack entries name lacks.1
functions-lack ((key, Enumerator value) ∷ entries) name lacks = functions-lack entries name lacks.1

functions-at : (key : Bor (List ℕ)) (meaning : Meaning) (entries : Entries) (name : List ℕ) → bytes_eq key.now name ≡ true → Lacks name entries
    → function_in meaning ≡ entry_of (functions ((key, meaning) ∷ entries)) name
functions-at key (Function signature has_body) entries name h lacks = rw h refl
functions-at key (Local number type) entries name h lacks = sym (functions-lack entries name lacks)
functions-at key (Object type) entries name h lacks = sym (functions-lack entries name lacks)
functions-at key (Typedef type) entries name h lacks = sym (functions-lack entries name lacks)
functions-at key (Enumerator value) entries name h lacks = sym (functions-lack entries name lacks)

functions-past : (key : Bor (List ℕ)) (meaning : Meaning) (entries : Entries) (name : List ℕ) → bytes_eq key.now name ≡ false
    → entry_of (functions entries) name ≡ entry_of (functions ((key, meaning) ∷ entries)) name
functions-past key (Function signature has_body) entries name h = rw h refl
functions-past key (Local number type) entries name h = refl
functions-past key (Object type) entries name h = refl
functions-past key (Typedef type) entries name h = refl
functions-past key (Enumerator value) entries name h = refl

lacks-same : (key : Bor (List ℕ)) (meaning : Meaning) (entries : Entries) (name : List ℕ) → bytes_eq key.now name ≡ true → AreDistinct ((key, meaning) ∷ entries) → Lacks name entries
unfolding IsDistinct
lacks-same key meaning entries name h distinct = subst (λ n. Lacks n entries) (same-bytes key.now name h) distinct.0

rest-distinct : (key : Bor (List ℕ)) (meaning : Meaning) (entries : Entries) → AreDistinct ((key, meaning) ∷ entries) → AreDistinct entries
unfolding IsDistinct
rest-distinct key meaning entries distinct = distinct.1

pub function-found : (entries : Entries) (name : List ℕ) → AreDistinct entries
    → in_option function_in (lookup (λ (k : Bor (List ℕ)). bytes_eq name k.now) entries) ≡ entry_of (functions entries) name
function-found [] name distinct = refl
function-found ((key, meaning) ∷ entries) name distinct = elim (cases_Bool (bytes_eq key.now name)) [
  | inl h ↦ (let k : bytes_eq name key.now ≡ true = bytes-turn name key.now ∙ h in rw k (functions-at key meaning entries name h (lacks-same key meaning entries name h distinct)))
  | inr h ↦ (let k : bytes_eq name key.now ≡ false = bytes-turn name key.now ∙ h in rw k (function-found entries name (rest-distinct key meaning entries distinct) ∙ functions-past key meaning entries name h))
]

pub function-known : (entries : Entries) (name : List ℕ) (meaning : Meaning) → AreDistinct entries → Some meaning ≡ lookup (λ (k : Bor (List ℕ)). bytes_eq name k.now) entries
    → function_in meaning ≡ entry_of (functions entries) name
function-known entries name meaning distinct e = ap (in_option function_in) e ∙ function-found entries name distinct

pub function-unknown : (entries : Entries) (name : List ℕ) → AreDistinct entries → None ≡ lookup (λ (k : Bor (List ℕ)). bytes_eq name k.now) entries
    → None ≡ entry_of (functions entries) name
function-unknown entries name distinct e = ap (in_option function_in) e ∙ function-found entries name distinct

-- ---- globals

abbrev globals : Structs → Entries → List core.Global
globals structs entries = globals_in structs (scope_by seen_meaning (file_of entries))

globals-lack : (structs : Structs) (entries : Entries) (name : List ℕ) → Lacks name entries → global_in (globals structs entries) name ≡ None
globals-lack structs [] name lacks = refl
globals-lack structs ((key, Object type) ∷ entries) name lacks =
    let k : bytes_eq key.now name ≡ false = bytes-turn key.now name ∙ lacks.0 in rw k (globals-lack structs entries name lacks.1)
globals-lack structs ((key, Function signature has_body) ∷ entries) name lacks = globals-lack structs entries name lacks.1
globals-lack structs ((key, Local number type) ∷ entries) name lacks = globals-lack structs entries name lacks.1
globals-lack structs ((key, Typedef type) ∷ entries) name lacks = globals-lack structs entries name lacks.1
globals-lack structs ((key, Enumerator value) ∷ entries) name lacks = globals-lack structs entries name lacks.1

globals-at : (structs : Structs) (key : Bor (List ℕ)) (meaning : Meaning) (entries : Entries) (name : List ℕ) → bytes_eq key.now name ≡ true → Lacks name entries
    → global_at structs name meaning ≡ global_in (globals structs ((key, meaning) ∷ entries)) name
globals-at structs key (Object type) entries name h lacks = rw h (ap (λ n. Some (global_of n (global_size structs (type_of type)))) (sym (same-bytes key.now name h)))
globals-at structs key (Function signature has_body) entries name h lacks = sym (globals-lack structs entries name lacks)
globals-at structs key (Local number type) entries name h lacks = sym (globals-lack structs entries name lacks)
globals-at structs key (Typedef type) entries name h lacks = sym (globals-lack structs entries name lacks)
globals-at structs key (Enumerator value) entries name h lacks = sym (globals-lack structs entries name lacks)

globals-past : (structs : Structs) (key : Bor (List ℕ)) (meaning : Meaning) (entries : Entries) (name : List ℕ) → bytes_eq key.now name ≡ false
    → global_in (globals structs entries) name ≡ global_in (globals structs ((key, meaning) ∷ entries)) name
globals-past structs key (Object type) entries name h = rw h refl
globals-past structs key (Function signature has_body) entries name h = refl
globals-past structs key (Local number type) entries name h = refl
globals-past structs key (Typedef type) entries name h = refl
globals-past structs key (Enumerator value) entries name h = refl

pub global-found : (structs : Structs) (entries : Entries) (name : List ℕ) → AreDistinct entries
    → in_option (global_at structs name) (lookup (λ (k : Bor (List ℕ)). bytes_eq name k.now) entries) ≡ global_in (globals structs entries) name
global-found structs [] name distinct = refl
global-found structs ((key, meaning) ∷ entries) name distinct = elim (cases_Bool (bytes_eq key.now name)) [
  | inl h ↦ (let k : bytes_eq name key.now ≡ true = bytes-turn name key.now ∙ h in rw k (globals-at structs key meaning entries name h (lacks-same key meaning entries name h distinct)))
  | inr h ↦ (let k : bytes_eq name key.now ≡ false = bytes-turn name key.now ∙ h in rw k (global-found structs entries name (rest-distinct key meaning entries distinct) ∙ globals-past structs key meaning entries name h))
]

pub global-known : (structs : Structs) (entries : Entries) (name : List ℕ) (meaning : Meaning) → AreDistinct entries → Some meaning ≡ lookup (λ (k : Bor (List ℕ)). bytes_eq name k.now) entries
    → global_at structs name meaning ≡ global_in (globals structs entries) name
global-known structs entries name meaning distinct e = ap (in_option (global_at structs name)) e ∙ global-found structs entries name distinct

pub global-unknown : (structs : Structs) (entries : Entries) (name : List ℕ) → AreDistinct entries → None ≡ lookup (λ (k : Bor (List ℕ)). bytes_eq name k.now) entries
    → None ≡ global_in (globals structs entries) name
global-unknown structs entries name distinct e = ap (in_option (global_at structs name)) e ∙ global-found structs entries name distinct
