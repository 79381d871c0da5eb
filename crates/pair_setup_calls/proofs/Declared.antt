-- The functions and globals of a unit, and the numbers of their names.
use Rattle.std.proofs.Common.{◌≡◌, ◌∙◌, ℕ, zero, suc, ◌<◌, List, [], ◌∷◌, ◌++◌, map, Option, Some, None, refl, sym, ap, subst, inl, inr, arith, true≢false}
use Rattle.std.specs.Prelude.{Bool, true, false, bytes_eq, IsSome, Contains}
use Rattle.std.specs.Borrow.{Bor}
use Rattle.std.specs.List.{AllByRecursion}
use Rattle.std.proofs.lemmas.Bool.{cases_Bool}
use Rattle.std.proofs.lemmas.Slice.Eq.{bytes_eq-Decides}
use Rattle.c_token_spec.specs.Words.{entry_of}
use Rattle.c_types_spec.specs.Types.{Structs}
use Rattle.c_types_spec.specs.Core as core
use Rattle.c_types_spec.specs.Units.{functions_in, globals_in}
use Rattle.c_types_layout.specs.Types.{type_of}
use Rattle.c_types_scope.specs.declared.meaning.Meaning.{Meaning}
use Rattle.c_types_scope.specs.declared.meaning.Meaning.TheVariants.{Local, Object, Function, Typedef, Enumerator}
use Rattle.c_types_scope.specs.Scopes.{file_of}
use Rattle.c_types_scope.specs.Meanings.{seen_meaning, scope_by}
use Rattle.pair_setup_calls.specs.Names.{IsNumber, AreApart}
use Rattle.pair_setup_calls.proofs.Indices.{Entries, names_in}

abbrev pub functions_by : Entries → List (List ℕ × core.FunctionType)
functions_by entries = functions_in (scope_by seen_meaning (file_of entries))

abbrev pub globals_by : Structs → Entries → List core.Global
globals_by structs entries = globals_in structs (scope_by seen_meaning (file_of entries))

-- a number and a name
abbrev pub Numbered : (names : List (List ℕ)) → List ℕ → Type 0
Numbered names name = (number : ℕ) × IsNumber names number name

later : (first : List ℕ) (names : List (List ℕ)) (name : List ℕ) → Numbered names name → Numbered (first ∷ names) name
later first names name n = (suc n.0, n.1)

-- ---- functions

-- a function that is declared has a number
pub function-numbered : (entries : Entries) (name : List ℕ) → IsSome (entry_of (functions_by entries) name) → Numbered (names_in entries) name
function-numbered [] name some = absurd (true≢false (sym some))
function-numbered ((key, Function signature has_body) ∷ entries) name some = elim (cases_Bool (bytes_eq key.now name)) [
  | inl h ↦ (0, ap Some ((bytes_eq-Decides key.now name).0 h))
  | inr h ↦ later key.now (names_in entries) name (function-numbered entries name (rw h at some))
]
function-numbered ((key, Local number type) ∷ entries) name some = later key.now (names_in entries) name (function-numbered entries name some)
function-numbered ((key, Object type) ∷ entries) name some = later key.now (names_in entries) name (function-numbered entries name some)
function-numbered ((key, Typedef type) ∷ entries) name some = later key.now (names_in entries) name (function-numbered entries name some)
function-numbered ((key, Enumerator value) ∷ entries) name some = later key.now (names_in entries) name (function-numbered entries name some)

-- ---- where a name is among those of the functions, or of the globals: after names of lower numbers

abbrev IsEarlier : (names : List (List ℕ)) → ℕ → List ℕ → Type 0
IsEarlier names number other = (j : ℕ) × (j < number) × IsNumber names j other

pub record Splits (names list : List (List ℕ)) (number : ℕ) (name : List ℕ) : Type 0 where
  pub prefix : List (List ℕ)
  pub rest : List (List ℕ)
  pub split : list ≡ prefix ++ (name ∷ rest)
  pub earlier : AllByRecursion (IsEarlier names number) prefix

all-later : (first : List ℕ) (names : List (List ℕ)) (number : ℕ) (prefix : List (List ℕ)) → AllByRecursion (IsEarlier names number) prefix
    → AllByRecursion (IsEarlier (first ∷ names) (suc number)) prefix
all-later first names number [] all = tt
all-later first names number (other ∷ prefix) all = ((suc all.0.0, omega (arith, all.0.1), all.0.2), all-later first names number prefix all.1)

-- the first name isn't among these
splits-passed : (first : List ℕ) (names list : List (List ℕ)) (number : ℕ) (name : List ℕ) → Splits names list number name → Splits (first ∷ names) list (suc number) name
splits-passed first names list number name s = record { prefix = s.prefix; rest = s.rest; split = s.split; earlier = all-later first names number s.prefix s.earlier }

-- and it is
splits-added : (first : List ℕ) (names list : List (List ℕ)) (number : ℕ) (name : List ℕ) → Splits names list number name → Splits (first ∷ names) (first ∷ list) (suc number) name
splits-added first names list number name s = record {
  prefix = first ∷ s.prefix;
  rest = s.rest;
  split = ap (λ l. first ∷ l) s.split;
  earlier = ((0, omega arith, refl), all-later first names number s.prefix s.earlier);
}

apart-tail : (first : List ℕ) (names : List (List ℕ)) → AreApart (first ∷ names) → AreApart names
apart-tail first names apart j k name one other = let both = apart (suc j) (suc k) name one other in omega (arith, both)

pub function-splits : (entries : Entries) (number : ℕ) (name : List ℕ) → AreApart (names_in entries) → IsNumber (names_in entries) number name
    → IsSome (entry_of (functions_by entries) name) → Splits (names_in entries) (map (λ (entry : List ℕ × core.FunctionType). entry.0) (functions_by entries)) number name
function-splits [] number name apart is some = absurd (true≢false (sym some))
function-splits ((key, Function signature has_body) ∷ entries) zero name apart is some = record {
  prefix = [];
  rest = map (λ (entry : List ℕ × core.FunctionType). entry.0) (functions_by entries);
  split = ap (λ n. n ∷ map (λ (entry : List ℕ × core.FunctionType). entry.0) (functions_by entries)) (let both : Some key.now ≡ Some name = is in cc);
  earlier = tt;
}
function-splits ((key, Function signature has_body) ∷ entries) (suc number) name apart is some = elim (cases_Bool (bytes_eq key.now name)) [
  | inl h ↦ absurd (let both = apart 0 (suc number) name (ap Some ((bytes_eq-Decides key.now name).0 h)) is in omega (arith, both))
  | inr h ↦ splits-added key.now (names_in entries) _ number name (function-splits entries number name (apart-tail key.now (names_in entries) apart) is (rw h at some))
]
function-splits ((key, Local n type) ∷ entries) zero name apart is some =
    absurd (let other = function-numbered entries name some in let both = apart 0 (suc other.0) name is other.1 in omega (arith, both))
function-splits ((key, Local n type) ∷ entries) (suc number) name apart is some =
    splits-passed key.now (names_in entries) _ number name (function-splits entries number name (apart-tail key.now (names_in entries) apart) is some)
function-splits ((key, Object type) ∷ entries) zero name apart is some =
    absurd (let other = function-numbered entries name some in let both = apart 0 (suc other.0) name is other.1 in omega (arith, both))
function-splits ((key, Object type) ∷ entries) (suc number) name apart is some =
    splits-passed key.now (names_in entries) _ number name (function-splits entries number name (apart-tail key.now (names_in entries) apart) is some)
function-splits ((key, Typedef type) ∷ entries) zero name apart is some =
    absurd (let other = function-numbered entries name some in let both = apart 0 (suc other.0) name is other.1 in omega (arith, both))
function-splits ((key, Typedef type) ∷ entries) (suc number) name apart is some =
    splits-passed key.now (names_in entries) _ number name (function-splits entries number name (apart-tail key.now (names_in entries) apart) is some)
function-splits ((key, Enumerator value) ∷ entries) zero name apart is some =
    absurd (let other = function-numbered entries name some in let both = apart 0 (suc other.0) name is other.1 in omega (arith, both))
function-splits ((key, Enumerator value) ∷ entries) (suc number) name apart is some =
    splits-passed key.now (names_in entries) _ number name (function-splits entries number name (apart-tail key.now (names_in entries) apart) is some)

-- ---- globals

-- a global that is declared has a number
pub global-numbered : (structs : Structs) (entries : Entries) (declared : core.Global) → Contains (globals_by structs entries) declared
    → Numbered (names_in entries) declared.global
global-numbered structs [] declared (k, below, here) = absurd (omega (arith, below))
global-numbered structs ((key, Object type) ∷ entries) declared (zero, below, here) = (0, ap (λ (g : core.Global). Some g.global) here)
global-numbered structs ((key, Object type) ∷ entries) declared (suc k, below, here) =
    later key.now (names_in entries) declared.global (global-numbered structs entries declared (k, omega (arith, below), here))
global-numbered structs ((key, Local n type) ∷ entries) declared among = later key.now (names_in entries) declared.global (global-numbered structs entries declared among)
global-numbered structs ((key, Function signature has_body) ∷ entries) declared among = later key.now (names_in entries) declared.global (global-numbered structs entries declared among)
global-numbered structs ((key, Typedef type) ∷ entries) declared among = later key.now (names_in entries) declared.global (global-numbered structs entries declared among)
global-numbered structs ((key, Enumerator value) ∷ entries) declared among = later key.now (names_in entries) declared.global (global-numbered structs entries declared among)

pub global-splits : (structs : Structs) (entries : Entries) (number : ℕ) (declared : core.Global) → AreApart (names_in entries)
    → IsNumber (names_in entries) number declared.global → Contains (globals_by structs entries) declared
    → Splits (names_in entries) (map (λ (g : core.Global). g.global) (globals_by structs entries)) number declared.global
global-splits structs [] number declared apart is (k, below, here) = absurd (omega (arith, below))
global-splits structs ((key, Object type) ∷ entries) zero declared apart is among = record {
  prefix = [];
  rest = map (λ (g : core.Global). g.global) (globals_by structs entries);
  split = ap (λ n. n ∷ map (λ (g : core.Global). g.global) (globals_by structs entries)) (let both : Some key.now ≡ Some declared.global = is in cc);
  earlier = tt;
}
global-splits structs ((key, Object type) ∷ entries) (suc number) declared apart is (zero, below, here) =
    absurd (let both = apart 0 (suc number) declared.global (ap (λ (g : core.Global). Some g.global) here) is in omega (arith, both))
global-splits structs ((key, Object type) ∷ entries) (suc number) declared apart is (suc k, below, here) =
    splits-added key.now (names_in entries) _ number declared.global
    (global-splits structs entries number declared (apart-tail key.now (names_in entries) apart) is (k, omega (arith, below), here))
global-splits structs ((key, Local n type) ∷ entries) zero declared apart is among =
    absurd (let other = global-numbered structs entries declared among in let both = apart 0 (suc other.0) declared.global is other.1 in omega (arith, both))
global-splits structs ((key, Local n type) ∷ entries) (suc number) declared apart is among =
    splits-passed key.now (names_in entries) _ number declared.global (global-splits structs entries number declared (apart-tail key.now (names_in entries) apart) is among)
global-splits structs ((key, Function signature has_body) ∷ entries) zero declared apart is among =
    absurd (let other = global-numbered structs entries declared among in let both = apart 0 (suc other.0) declared.global is other.1 in omega (arith, both))
global-splits structs ((key, Function signature has_body) ∷ entries) (suc number) declared apart is among =
    splits-passed key.now (names_in entries) _ number declared.global (global-splits structs entries number declared (apart-tail key.now (names_in entries) apart) is among)
global-splits structs ((key, Typedef type) ∷ entries) zero declared apart is among =
    absurd (let other = global-numbered structs entries declared among in let both = apart 0 (suc other.0) declared.global is other.1 in omega (arith, both))
global-splits structs ((key, Typedef type) ∷ entries) (suc number) declared apart is among =
    splits-passed key.now (names_in entries) _ number declared.global (global-splits structs entries number declared (apart-tail key.now (names_in entries) apart) is among)
global-splits structs ((key, Enumerator value) ∷ entries) zero declared apart is among =
    absurd (let other = global-numbered structs entries declared among in let both = apart 0 (suc other.0) declared.global is other.1 in omega (arith, both))
global-splits structs ((key, Enumerator value) ∷ entries) (suc number) declared apart is among =
    splits-passed key.now (names_in entries) _ number declared.global (global-splits structs entries number declared (apart-tail key.now (names_in entries) apart) is among)
