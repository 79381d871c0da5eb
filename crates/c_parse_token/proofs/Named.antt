-- A name among names that are borrowed, in the order in which they came.
use Rattle.std.proofs.Common.{◌≡◌, ℕ, Bool, true, false, ◌||◌, List, [], ◌∷◌, ◌++◌, map, reverse, refl, sym, ap, ◌∙◌, bytes_eq, Bor, if◌then◌else◌}
use Rattle.std.specs.List.{list_any}
use Rattle.std.proofs.lemmas.Cmp.{nat_list_eq_equiv}
use Rattle.std.proofs.lemmas.List.{reverse-append, map-append}
use Rattle.std.proofs.lemmas.List.Sorted.{list_any-IsPermutation, IsPermutation-reverse}
use Rattle.indexmap.specs.IndexSet.{insert_key}
use Rattle.c_parse_spec.specs.Expressions.{is_typedef_name}
use Rattle.c_parse_token.specs.Lists.{with_name}

in_order : (keys : List (Bor (List ℕ))) (spelling : List ℕ) → list_any (λ name. bytes_eq name spelling) (map (λ name. name.now) keys) ≡ list_any (λ key. bytes_eq spelling key.now) keys
in_order [] spelling = refl
in_order (key ∷ keys) spelling = ap (λ b. bytes_eq key.now spelling || b) (in_order keys spelling) ∙ ap (λ b. b || list_any (λ key. bytes_eq spelling key.now) keys) (nat_list_eq_equiv.symm key.now spelling)

pub found : (keys : List (Bor (List ℕ))) (spelling : List ℕ) → list_any (λ key. bytes_eq spelling key.now) keys ≡ is_typedef_name (reverse (map (λ name. name.now) keys)) spelling
found keys spelling =
    sym (in_order keys spelling) ∙ list_any-IsPermutation (λ name. bytes_eq name spelling) (map (λ name. name.now) keys) (reverse (map (λ name. name.now) keys)) (IsPermutation-reverse (map (λ name. name.now) keys))

-- the names with a name put last
pub added : (keys after : List (Bor (List ℕ))) (name : Bor (List ℕ)) → after ≡ insert_key (λ x y. bytes_eq x.now y.now) keys name
    → reverse (map (λ name. name.now) after) ≡ with_name name.now (reverse (map (λ name. name.now) keys))
added keys after name is = ap (λ ks. reverse (map (λ name. name.now) ks)) is ∙ by (list_any (λ key. bytes_eq name.now key.now) keys) ∙ ap (λ b. if b then reverse (map (λ name. name.now) keys) else name.now ∷ reverse (map (λ name. name.now) keys)) (found keys name.now)
  where
    by : (b : Bool) → reverse (map (λ name. name.now) (if b then keys else keys ++ name ∷ [])) ≡ (if b then reverse (map (λ name. name.now) keys) else name.now ∷ reverse (map (λ name. name.now) keys))
    by true = refl
    by false = ap reverse (map-append (λ name. name.now) keys (name ∷ [])) ∙ reverse-append (map (λ name. name.now) keys) (name.now ∷ [])
