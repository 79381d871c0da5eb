-- The file scope, in a map and in a list.
use Rattle.std.proofs.Common.{◌≡◌, ℕ, List, [], ◌∷◌, map, refl, sym, ◌∙◌, ap, inl, inr, arith}
use Rattle.std.specs.Prelude.{Bool, true, false, cond, ◌&&◌, nat_eq, bytes_eq, Option, Some, None, option_map}
use Rattle.std.specs.Borrow.{Bor}
use Rattle.std.specs.Map.{lookup}
use Rattle.std.proofs.lemmas.Bool.{cases_Bool}
use Rattle.std.proofs.lemmas.Bool.Decides.{nat_tests}
use Rattle.indexmap.specs.IndexMap.{insert_entry}
use Rattle.c_token_spec.specs.Words.{entry_of}
use Rattle.c_types_spec.specs.Names as names
use Rattle.c_types_scope.specs.Scopes.{file_of}

nat_turn : (x y : ℕ) → nat_eq x y ≡ nat_eq y x
nat_turn x y = grind (arith, nat_tests)

bytes-turn : (xs ys : List ℕ) → bytes_eq xs ys ≡ bytes_eq ys xs
bytes-turn [] [] = refl
bytes-turn [] (y ∷ ys) = refl
bytes-turn (x ∷ xs) [] = refl
bytes-turn (x ∷ xs) (y ∷ ys) = ap (λ b. b && bytes_eq xs ys) (nat_turn x y) ∙ ap (λ b. nat_eq y x && b) (bytes-turn xs ys)

pub file-found : {M : Type 0} (entries : List (Bor (List ℕ) × M)) (name : List ℕ) → entry_of (file_of entries) name ≡ option_map (λ m. Some m) (lookup (λ (k : Bor (List ℕ)). bytes_eq name k.now) entries)
file-found [] name = refl
file-found (entry ∷ entries) name = elim (cases_Bool (bytes_eq entry.0.now name)) [
  | inl h ↦ (let k : bytes_eq name entry.0.now ≡ true = bytes-turn name entry.0.now ∙ h in rw (h, k) refl)
  | inr h ↦ (let k : bytes_eq name entry.0.now ≡ false = bytes-turn name entry.0.now ∙ h in rw (h, k) (file-found entries name))
]

pub file-put : {M : Type 0} (entries : List (Bor (List ℕ) × M)) (name : Bor (List ℕ)) (meaning : M)
    → file_of (insert_entry (λ a b. bytes_eq a.now b.now) entries name meaning) ≡ names.put name.now (Some meaning) (file_of entries)
file-put [] name meaning = refl
file-put (entry ∷ entries) name meaning = elim (cases_Bool (bytes_eq entry.0.now name.now)) [
  | inl h ↦ (let k : bytes_eq name.now entry.0.now ≡ true = bytes-turn name.now entry.0.now ∙ h in rw (h, k) refl)
  | inr h ↦ (let k : bytes_eq name.now entry.0.now ≡ false = bytes-turn name.now entry.0.now ∙ h in rw (h, k) (ap (λ l. (entry.0.now, Some entry.1) ∷ l) (file-put entries name meaning)))
]
