-- `and` of lists of terms, one term more.
use Rattle.std.proofs.Common.{◌≡◌, ◌∙◌, ℕ, ◌+◌, ◌<◌, List, [], ◌∷◌, ◌++◌, length, map, take, get_or, ap, sym, append_assoc}
use Rattle.std.specs.List.{fold}
use Rattle.std.proofs.lemmas.List.{take_more, map-append}
use Rattle.std.proofs.lemmas.List.Sums.{fold-append}
use Rattle.term_core_spec.specs.Term.{Term, and_term}
use Rattle.sim_rules_spec.specs.Rules.{all_of}

module _ {X Y : Type 0} (f : Y → Term) (g : X → Y) (xs : List X) (i : ℕ) (d : X) (less : i < length xs) where
  one_more : map f (map g (take (i + 1) xs)) ≡ map f (map g (take i xs)) ++ f (g (get_or xs i d)) ∷ []
  one_more =
      ap (λ (l : List X). map f (map g l)) (take_more xs i d less)
      ∙ ap (map f) (map-append g (take i xs) (get_or xs i d ∷ []))
      ∙ map-append f (map g (take i xs)) (g (get_or xs i d) ∷ [])

  pub fold_more : (t : Term) → fold and_term t (map f (map g (take (i + 1) xs))) ≡ and_term (fold and_term t (map f (map g (take i xs)))) (f (g (get_or xs i d)))
  fold_more t = ap (fold and_term t) one_more ∙ fold-append and_term t (map f (map g (take i xs))) (f (g (get_or xs i d)) ∷ [])

-- two and three lists of premises
pub fold_two : (t : Term) (a b : List Term) → fold and_term (fold and_term t a) b ≡ fold and_term t (a ++ b)
fold_two t a b = sym (fold-append and_term t a b)

pub fold_three : (t : Term) (a b c : List Term) → fold and_term (fold and_term (fold and_term t a) b) c ≡ fold and_term t (a ++ (b ++ c))
fold_three t a b c = fold_two (fold and_term t a) b c ∙ fold_two t a (b ++ c)

pub fold_last : (t : Term) (a b c d : List Term) → fold and_term (fold and_term t (a ++ (b ++ c))) d ≡ fold and_term t (a ++ (b ++ (c ++ d)))
fold_last t a b c d =
    fold_two t (a ++ (b ++ c)) d ∙ ap (fold and_term t) (append_assoc a (b ++ c) d ∙ ap (λ (l : List Term). a ++ l) (append_assoc b c d))

-- of two lists, each mapped
pub fold_both : (f : Term → Term) (t : Term) (a b : List Term) → fold and_term (fold and_term t (map f a)) (map f b) ≡ fold and_term t (map f (a ++ b))
fold_both f t a b = fold_two t (map f a) (map f b) ∙ ap (fold and_term t) (sym (map-append f a b))

-- a first term, more terms and a last one
pub all_three : (f : Term → Term) (first : Term) (rest : List Term) (last : Term)
    → and_term (fold and_term (f first) (map f rest)) (f last) ≡ all_of (map f (first ∷ (rest ++ last ∷ [])))
all_three f first rest last = fold_both f (f first) rest (last ∷ [])
