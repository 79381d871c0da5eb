-- Lists that grow by what is left of others.
use Rattle.std.proofs.Common.{◌≡◌, ◌∙◌, ℕ, ◌+◌, ◌<◌, ◌≤◌, List, [], ◌∷◌, ◌++◌, length, map, drop, get_or, sym, ap, append_assoc, append-nil}
use Rattle.std.proofs.lemmas.List.{at_drop_more, at_drop_all}

module _ {X : Type 0} where
  -- what is left to add completes the whole
  pub grown : (old new piece later rest whole : List X) → new ≡ old ++ piece → rest ≡ piece ++ later → old ++ rest ≡ whole → new ++ later ≡ whole
  grown old new piece later rest whole added splits so_far =
      ap (λ (l : List X). l ++ later) added ∙ append_assoc old piece later ∙ ap (λ (l : List X). old ++ l) (sym splits) ∙ so_far

  pub complete : (now rest whole : List X) → rest ≡ [] → now ++ rest ≡ whole → now ≡ whole
  complete now rest whole none so_far = sym (append-nil now) ∙ ap (λ (l : List X). now ++ l) (sym none) ∙ so_far

  -- one piece after another
  pub one_then : (first middle new xs ys : List X) → middle ≡ first ++ xs → new ≡ middle ++ ys → new ≡ first ++ (xs ++ ys)
  one_then first middle new xs ys e f = f ∙ ap (λ (l : List X). l ++ ys) e ∙ append_assoc first xs ys

module _ {X Y : Type 0} where
  -- one more of a list under a map
  pub one_mapped : (f : X → Y) (all : List X) (n : ℕ) (d : X) (old new whole : List Y) → n < length all → new ≡ old ++ f (get_or all n d) ∷ []
      → old ++ map f (drop n all) ≡ whole → new ++ map f (drop (n + 1) all) ≡ whole
  one_mapped f all n d old new whole less added so_far =
      grown old new (f (get_or all n d) ∷ []) (map f (drop (n + 1) all)) (map f (drop n all)) whole added (at_drop_more (map f) all n d less) so_far

  pub all_mapped : (f : X → Y) (all : List X) (n : ℕ) (now whole : List Y) → length all ≤ n → now ++ map f (drop n all) ≡ whole → now ≡ whole
  all_mapped f all n now whole past so_far = complete now (map f (drop n all)) whole (at_drop_all (map f) all n past) so_far
