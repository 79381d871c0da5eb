-- Functions with a body have names of certificates, no two of them alike.
use Rattle.std.proofs.Common.{◌≡◌, ◌≢◌, ℕ, suc, Bool, true, false, cond, List, [], ◌∷◌, map, filter, bytes_eq, slice_get, All, Option, Some, None, find, refl, sym, subst, arith}
use Rattle.std.specs.List.{IsDistinct, AllByRecursion}
use Rattle.std.proofs.lemmas.Slice.Eq.{bytes_eq-Decides}
use Rattle.std.proofs.lemmas.List.Elements.{recursion_from_All}
use Rattle.std.proofs.lemmas.List.Kept.{AllPairs-filter}
use Rattle.std.proofs.lemmas.Map.Made.{AllPairs-from_IsDistinct, IsDistinct-from_AllPairs}
use Rattle.c_types_spec.specs.Core.{Body}
use Rattle.c_types_spec.specs.HasType.{IsTypedUnit}
use Rattle.c_types_laws.proofs.Units.{typed-IsTypedUnit}
use Rattle.cert_text_spec.specs.Lines.{is_name}
use Rattle.c_types_laws.specs.Statements.{bodies, AreApart, HasName}
use Rattle.c_types_laws.proofs.Definitions.{defines_names}
use Rattle.c_types_laws.proofs.Bodies.{are_defined}

-- ---- names

-- the bodies have names of certificates
abbrev AreNamed : List Body → Type 0
AreNamed list = AllByRecursion (λ name. is_name name ≡ true) (map (λ (body : Body). body.name) list)

-- the name of a body that is found
found-named : (list : List Body) (name : List ℕ) → AreNamed list → find (λ (body : Body). bytes_eq body.name name) list ≢ None → is_name name ≡ true
found-named [] name h there = absurd (there refl)
found-named (body ∷ list) name h there =
    by (bytes_eq body.name name) (find (λ (other : Body). bytes_eq other.name name) list) refl there (found-named list name h.1)
  where
    by : (b : Bool) (rest : Option Body) → bytes_eq body.name name ≡ b → cond b (Some body) rest ≢ None → (rest ≢ None → is_name name ≡ true) → is_name name ≡ true
    by true rest e found later = subst (λ n. is_name n ≡ true) ((bytes_eq-Decides body.name name).0 e) h.0
    by false rest e found later = later found

pub has_name : HasName
has_name text unit core name tree e there =
    let names : All (λ n. is_name n ≡ true) (bodies core) = subst (λ ns. All (λ n. is_name n ≡ true) ns) (sym (are_defined unit core e)) (defines_names text unit tree) in
    found-named core.bodies name (recursion_from_All (λ n. is_name n ≡ true) (bodies core) names) there

-- ---- no two alike

abbrev OneBody : List Body → Type 0
OneBody list = (i j : ℕ) (a b : Body) → slice_get list i ≡ Some a → slice_get list j ≡ Some b → a.name ≡ b.name → i ≡ j

differ : (a b : List ℕ) → (a ≡ b → ⊥) → bytes_eq a b ≡ false
differ a b h = by (bytes_eq a b) refl
  where
    by : (r : Bool) → bytes_eq a b ≡ r → bytes_eq a b ≡ false
    by true e = absurd (h ((bytes_eq-Decides a b).0 e))
    by false e = e

not_again : (body : Body) (list : List Body) → ((j : ℕ) (other : Body) → slice_get list j ≡ Some other → body.name ≡ other.name → ⊥)
    → AllByRecursion (λ name. bytes_eq body.name name ≡ false) (map (λ (other : Body). other.name) list)
not_again body [] h = tt
not_again body (other ∷ list) h = (differ body.name other.name (h 0 other refl), not_again body list (λ j. h (suc j)))

distinct : (list : List Body) → OneBody list → IsDistinct bytes_eq (map (λ (body : Body). body.name) list)
unfolding IsDistinct
distinct [] one = tt
distinct (body ∷ list) one = (
  not_again body list (λ j other e same. let bad : 0 ≡ suc j = one 0 (suc j) body other refl e same in absurd (omega arith)),
  distinct list (λ i j a b e f same. let next : suc i ≡ suc j = one (suc i) (suc j) a b e f same in omega arith),
)

filtered : (test : List ℕ → Bool) (names : List (List ℕ)) → IsDistinct bytes_eq names → IsDistinct bytes_eq (filter test names)
filtered test names h =
    IsDistinct-from_AllPairs bytes_eq-Decides (filter test names)
    (AllPairs-filter (λ (x y : List ℕ). x ≢ y) test names (AllPairs-from_IsDistinct bytes_eq-Decides names h))

pub are_apart : AreApart
are_apart unit core test e =
    let is : IsTypedUnit core = typed-IsTypedUnit unit core e in
    let apart = distinct core.bodies is.one_body in
    (apart, filtered test (bodies core) apart)
