-- The member of a name, in a map and in a list.
use Rattle.std.proofs.Common.{◌≡◌, ℕ, List, [], ◌∷◌, map, refl, ◌∙◌, ap, arith}
use Rattle.std.specs.Prelude.{Bool, true, false, cond, ◌&&◌, nat_eq, bytes_eq, find, Option, Some, None, option_map, option_copied}
use Rattle.std.proofs.lemmas.Bool.Decides.{nat_tests}
use Rattle.std.specs.Borrow.{Bor}
use Rattle.std.specs.Map.{lookup}
use Rattle.c_types_spec.specs.Types as tree
use Rattle.c_types_layout.specs.declared.structs.Placed.{Placed}
use Rattle.c_types_layout.specs.Structs.{member_of, placed_of, part_of}

nat_turn : (x y : ℕ) → nat_eq x y ≡ nat_eq y x
nat_turn x y = grind (arith, nat_tests)

bytes-turn : (xs ys : List ℕ) → bytes_eq xs ys ≡ bytes_eq ys xs
bytes-turn [] [] = refl
bytes-turn [] (y ∷ ys) = refl
bytes-turn (x ∷ xs) [] = refl
bytes-turn (x ∷ xs) (y ∷ ys) = ap (λ b. b && bytes_eq xs ys) (nat_turn x y) ∙ ap (λ b. nat_eq y x && b) (bytes-turn xs ys)

same-choice : (b : Bool) (entry : Bor (List ℕ) × Placed) (placed : Option Placed) (member : Option tree.Member) → option_map placed_of placed ≡ option_map part_of member → option_map placed_of (cond b (Some entry.1) placed) ≡ option_map part_of (cond b (Some (member_of entry)) member)
same-choice true entry placed member e = refl
same-choice false entry placed member e = e

pub looked-up : (name : List ℕ) (entries : List (Bor (List ℕ) × Placed)) → option_map placed_of (lookup (λ k. bytes_eq name k.now) entries) ≡ option_map part_of (find (λ m. bytes_eq m.member name) (map member_of entries))
looked-up name [] = refl
looked-up name (entry ∷ entries) =
    same-choice (bytes_eq name entry.0.now) entry (lookup (λ k. bytes_eq name k.now) entries) (find (λ m. bytes_eq m.member name) (map member_of entries)) (looked-up name entries)
    ∙ ap (λ b. option_map part_of (cond b (Some (member_of entry)) (find (λ m. bytes_eq m.member name) (map member_of entries)))) (bytes-turn name entry.0.now)

pub copied : (found : Option (Bor Placed)) → option_map (λ p. placed_of p.now) found ≡ option_map placed_of (option_copied found)
copied None = refl
copied (Some p) = refl
