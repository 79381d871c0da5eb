-- Sizes that are kept up to the limit, and members that are added.
use Rattle.std.proofs.Common.{◌≡◌, ℕ, min, List, [], ◌∷◌, ◌++◌, map, refl, sym, ◌∙◌, ap, arith, inl, inr}
use Rattle.std.specs.Prelude.{Bool, true, false, nat_le, bytes_eq, find, is_none, is_some, Option, Some, None, option_map, Ok}
use Rattle.std.specs.Borrow.{Bor}
use Rattle.std.specs.Map.{lookup}
use Rattle.std.proofs.lemmas.Bool.{cases_lt, cases_Bool, le-leb, leb-false}
use Rattle.indexmap.specs.IndexMap.{insert_entry}
use Rattle.c_syntax_spec.specs.Expression.{Name}
use Rattle.c_types_spec.specs.declared.TheConstants.{SIZE_LIMIT}
use Rattle.c_types_spec.specs.declared.TypeFaultKind.{TypeFaultKind}
use Rattle.c_types_spec.specs.declared.TypeFaultKind.TheVariants.{Twice, Mismatch, Incomplete, LeftOut}
use Rattle.c_types_spec.specs.declared.LeftOut.TheVariants.{Word64}
use Rattle.c_types_spec.specs.Types as types
use Rattle.c_types_spec.specs.Names.{faults_at}
use Rattle.c_types_spec.specs.Declarations.{member_faults}
use Rattle.c_types_layout.specs.Structs.{capped, part_of, placed_of, member_of}
use Rattle.c_types_layout.specs.declared.structs.Placed.{Placed}
use Rattle.c_types_layout.proofs.Members.{looked-up}
use Rattle.c_types_declaration.specs.Sizes.{IsKnown}

large-min : (n limit : ℕ) → nat_le limit (min n limit) ≡ nat_le limit n
large-min n limit = elim (cases_lt n limit) [
  | inl h ↦ (let e : min n limit ≡ n = omega arith in rw e refl)
  | inr h ↦ (let e : min n limit ≡ limit = omega arith in rw e (le-leb limit limit (omega arith) ∙ sym (le-leb limit n h)))
]

pub is_large-capped : (size : Option ℕ) → types.is_large (capped size) ≡ types.is_large size
is_large-capped None = refl
is_large-capped (Some n) = large-min n SIZE_LIMIT

pub is_none-capped : (size : Option ℕ) → is_none (capped size) ≡ is_none size
is_none-capped None = refl
is_none-capped (Some n) = refl

-- ---- members

pub is_some-part : {A B C : Type 0} (f : A → C) (g : B → C) (a : Option A) (b : Option B) → option_map f a ≡ option_map g b → is_some a ≡ is_some b
is_some-part f g None None e = refl
is_some-part f g None (Some y) e = absurd cc
is_some-part f g (Some x) None e = absurd cc
is_some-part f g (Some x) (Some y) e = refl

pub inserted-new : (name : Bor (List ℕ)) (placed : Placed) (entries : List (Bor (List ℕ) × Placed)) → lookup (λ (k : Bor (List ℕ)). bytes_eq name.now k.now) entries ≡ None
    → map member_of (insert_entry (λ a b. bytes_eq a.now b.now) entries name placed) ≡ map member_of entries ++ member_of (name, placed) ∷ []
inserted-new name placed [] e = refl
inserted-new name placed (entry ∷ entries) e = elim (cases_Bool (bytes_eq name.now entry.0.now)) [
  | inl h ↦ absurd (let found : Some entry.1 ≡ None = rw h at e in cc)
  | inr h ↦ rw h (ap (λ l. member_of entry ∷ l) (inserted-new name placed entries (rw h at e)))
]

pub ruleset members = (is_some-part)

pub ruleset inserted = (inserted-new)

pub not-there : (name : List ℕ) (entries : List (Bor (List ℕ) × Placed)) (placed : Placed) → is_some (find (λ (m : types.Member). bytes_eq m.member name) (map member_of entries)) ≡ false
    → lookup (λ k. bytes_eq name k.now) entries ≡ Some placed → ⊥
not-there name entries placed none found =
    let both = is_some-part placed_of part_of (lookup (λ k. bytes_eq name k.now) entries) (find (λ (m : types.Member). bytes_eq m.member name) (map member_of entries)) (looked-up name entries) in
    absurd (let e : true ≡ false = sym (ap (λ (o : Option Placed). is_some o) found) ∙ both ∙ none in cc)

-- ---- known sizes

pub known-capped : (size : Option ℕ) (n : ℕ) → IsKnown size → Some n ≡ capped size → size ≡ Some n
known-capped None n known is = absurd known
known-capped (Some m) n known is = let e : n ≡ min m SIZE_LIMIT = cc in let f : m ≡ n = omega (arith, e, known) in ap (λ (k : ℕ). Some k) f

pub never-unknown : (size : Option ℕ) → IsKnown size → None ≡ capped size → ⊥
never-unknown None known is = known
never-unknown (Some m) known is = absurd cc

known_if : (size : Option ℕ) → types.is_large size ≡ false → is_none size ≡ false → IsKnown size
known_if None small there = absurd (let e : true ≡ false = there in cc)
known_if (Some n) small there = leb-false SIZE_LIMIT n small

-- a type that is neither too large nor incomplete has one
pub fits : (structs : types.Structs) (type : types.CType) → types.too_large structs type ≡ false → is_none (types.size_of structs type) ≡ false → IsKnown (types.size_of structs type)
unfolding types.size_of
fits structs types.Void small there = known_if (types.size_of structs types.Void) small there
fits structs (types.Integer s) small there = known_if (types.size_of structs (types.Integer s)) small there
fits structs (types.Pointer t) small there = known_if (types.size_of structs (types.Pointer t)) small there
fits structs (types.Array None t) small there = absurd (let e : true ≡ false = there in cc)
fits structs (types.Array (Some n) t) small there = known_if (types.size_of structs (types.Array (Some n) t)) small there
fits structs (types.Struct m) small there = known_if (types.size_of structs (types.Struct m)) small there

absent : (offset : ℕ) (a b c : Bool) (x y z : TypeFaultKind) (tests : List (Bool × TypeFaultKind)) → faults_at offset ((a, x) ∷ (b, y) ∷ (c, z) ∷ tests) ≡ Ok (tt {0})
    → (a ≡ false) × (b ≡ false) × (c ≡ false)
absent offset true b c x y z tests is = absurd cc
absent offset false true c x y z tests is = absurd cc
absent offset false false true x y z tests is = absurd cc
absent offset false false false x y z tests is = (refl, refl, refl)

-- of a member without fault: it isn't there before, and its size is known
module _ (structs : types.Structs) (layout : types.Layout) (name : Name) (type : types.CType) (fine : faults_at name.offset (member_faults structs layout name type) ≡ Ok (tt {0})) where
  absences : (is_some (types.member_named layout name.spelling) ≡ false) × (types.too_large structs type ≡ false) × (is_none (types.size_of structs type) ≡ false)
  absences =
      absent name.offset (is_some (types.member_named layout name.spelling)) (types.too_large structs type) (is_none (types.size_of structs type)) Twice Mismatch Incomplete
      ((types.is_wide type, LeftOut Word64) ∷ []) fine

  pub is_new : is_some (types.member_named layout name.spelling) ≡ false
  is_new = absences.0

  pub is_known : IsKnown (types.size_of structs type)
  is_known = fits structs type absences.1 absences.2

pub ruleset knowing = (known-capped, never-unknown, is_new, is_known)

pub ruleset capping = (is_large-capped, is_none-capped)
