-- There is always a name that is none of a type.
use Rattle.std.proofs.Common.{ℕ, zero, suc, List, [], ◌∷◌, ◌≡◌, arith, length, refl, ◌+◌, ◌<◌, Bool, true, false, ap, bytes_eq}
use Rattle.std.proofs.lemmas.Slice.Eq.{bytes_eq-Decides}
use Rattle.c_syntax_spec.specs.Expression as tree
use Rattle.c_parse_spec.specs.Expressions.{is_typedef_name}

zeros : ℕ → List ℕ
zeros zero = []
zeros (suc n) = 0 ∷ zeros n

length_zeros : (n : ℕ) → length (zeros n) ≡ n
unfolding zeros
length_zeros zero = refl
length_zeros (suc n) = let h = length_zeros n in omega (arith, h)

all_lengths : List (List ℕ) → ℕ
all_lengths [] = 0
all_lengths (name ∷ names) = length name + all_lengths names

different : (name other : List ℕ) → length name < length other → bytes_eq name other ≡ false
different name other h = by_test (bytes_eq name other) refl
  where
    by_test : (b : Bool) → bytes_eq name other ≡ b → bytes_eq name other ≡ false
    by_test true e = absurd (let same = ap length ((bytes_eq-Decides name other).0 e) in omega arith)
    by_test false e = e

is_fresh : (names : List (List ℕ)) (n : ℕ) → all_lengths names < n → is_typedef_name names (zeros n) ≡ false
unfolding all_lengths
is_fresh [] n h = refl
is_fresh (name ∷ names) n h =
    let e = length_zeros n in
    rw (different name (zeros n) (omega arith), is_fresh names n (omega arith)) refl

pub fresh : List (List ℕ) → tree.Name
fresh names = record { spelling = zeros (suc (all_lengths names)); offset = 0 }

pub fresh_is : (names : List (List ℕ)) → is_typedef_name names (fresh names).spelling ≡ false
unfolding fresh
fresh_is names = is_fresh names (suc (all_lengths names)) (omega arith)
