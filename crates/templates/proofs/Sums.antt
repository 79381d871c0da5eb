-- Lines as what operators make of all words of two lists.
use Rattle.std.proofs.Common.{◌≡◌, ◌∙◌, ℕ, List, [], ◌∷◌, ◌++◌, map, refl, ap, ap₂}
use Rattle.std.specs.Prelude.{flat_map}
use Rattle.std.proofs.lemmas.List.{map-append}
use Rattle.std.proofs.lemmas.List.Folds.{flat_map-map}
use Rattle.std.proofs.lemmas.Simd.{map-map}
use Rattle.term_core_spec.specs.declared.BinaryOperator.TheVariants.{Word as WordOf, Equal}
use Rattle.term_core_spec.specs.declared.WordOperator.TheVariants.{Add, Multiply, Subtract}
use Rattle.term_core_spec.specs.Term.{Term, equal, add, subtract, multiply}
use Rattle.c_graph_spec.specs.State.{number}
use Rattle.sim_rules_spec.specs.Calling.{at_entry}
use Rattle.templates_spec.specs.Templates as spec
use Rattle.templates.specs.Added.{on_each, on_all}
use Rattle.templates.specs.Viewed.{sums_of, pointers_at}

module _ {X : Type 0} where
  flat_same : {Y : Type 0} (f g : X → List Y) → ((x : X) → f x ≡ g x) → (xs : List X) → flat_map f xs ≡ flat_map g xs
  flat_same f g same [] = refl
  flat_same {Y} f g same (x ∷ xs) = ap₂ (λ (a b : List Y). a ++ b) (same x) (flat_same f g same xs)

  map_flat : {Y Z : Type 0} (f : Y → Z) (g : X → List Y) (xs : List X) → map f (flat_map g xs) ≡ flat_map (λ x. map f (g x)) xs
  map_flat f g [] = refl
  map_flat {Y} {Z} f g (x ∷ xs) = map-append f (g x) (flat_map g xs) ∙ ap (λ (l : List Z). map f (g x) ++ l) (map_flat f g xs)

scaled_are : (ys : List Term) → on_all (WordOf Multiply) (map number spec.scales) ys ≡ flat_map (λ s. map (λ y. multiply (number s) y) ys) spec.scales
scaled_are ys = flat_map-map (λ (x : Term). on_each (WordOf Multiply) x ys) number spec.scales

of_base : (p b : Term) (ys : List Term) → map (λ z. equal p z) (on_each (WordOf Add) b (on_all (WordOf Multiply) (map number spec.scales) ys))
    ≡ flat_map (λ s. map (λ y. equal p (add b (multiply (number s) y))) ys) spec.scales
of_base p b ys =
    map-map (λ z. equal p z) (λ z. add b z) (on_all (WordOf Multiply) (map number spec.scales) ys)
    ∙ (ap (map (λ z. equal p (add b z))) (scaled_are ys)
    ∙ (map_flat (λ z. equal p (add b z)) (λ s. map (λ y. multiply (number s) y) ys) spec.scales
    ∙ flat_same (λ s. map (λ z. equal p (add b z)) (map (λ y. multiply (number s) y) ys)) (λ s. map (λ y. equal p (add b (multiply (number s) y))) ys)
    (λ s. map-map (λ z. equal p (add b z)) (λ y. multiply (number s) y) ys) spec.scales))

pub sums_are : (f : spec.Facts) (at : List Term) → on_all Equal at (sums_of f) ≡ spec.sum_lines f at
sums_are f at = flat_same (λ p. on_each Equal p (sums_of f))
    (λ (p : Term). flat_map (λ (b : Term). flat_map (λ s. map (λ y. equal p (add b (multiply (number s) y))) (spec.all_words f.locals)) spec.scales) (spec.bases f))
    (λ p.
    map_flat (λ z. equal p z) (λ b. on_each (WordOf Add) b (on_all (WordOf Multiply) (map number spec.scales) (spec.all_words f.locals))) (spec.bases f)
    ∙ flat_same (λ b. map (λ z. equal p z) (on_each (WordOf Add) b (on_all (WordOf Multiply) (map number spec.scales) (spec.all_words f.locals))))
    (λ b. flat_map (λ s. map (λ y. equal p (add b (multiply (number s) y))) (spec.all_words f.locals)) spec.scales)
    (λ b. of_base p b (spec.all_words f.locals)) (spec.bases f))
    at

-- addresses below the stack pointer at entry
pub below_are : (ns : List ℕ) → on_all (WordOf Subtract) (at_entry 2 ∷ []) (map number ns) ≡ map spec.below_entry ns
below_are ns = append-none (on_each (WordOf Subtract) (at_entry 2) (map number ns)) ∙ map-map (λ y. subtract (at_entry 2) y) number ns
  where
    append-none : (l : List Term) → l ++ [] ≡ l
    append-none [] = refl
    append-none (x ∷ l) = ap (λ (m : List Term). x ∷ m) (append-none l)

pub pointers_are : (depths : List ℕ) → on_all Equal (spec.register 2 ∷ spec.register 8 ∷ []) (map spec.below_entry depths) ≡ pointers_at depths
pointers_are depths =
    ap₂ (λ (a b : List Term). a ++ (b ++ [])) (map-map (λ y. equal (spec.register 2) y) spec.below_entry depths)
    (map-map (λ y. equal (spec.register 8) y) spec.below_entry depths)

pub entries_are : (at : List Term) (rs : List ℕ) → on_all Equal at (map at_entry rs) ≡ flat_map (λ (place : Term). map (λ r. equal place (at_entry r)) rs) at
entries_are at rs = flat_same (λ p. on_each Equal p (map at_entry rs)) (λ (p : Term). map (λ r. equal p (at_entry r)) rs) (λ p. map-map (λ y. equal p y) at_entry rs) at
