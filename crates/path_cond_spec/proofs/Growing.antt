-- A list that grows by one item a step, each made from those before it.
use Rattle.std.proofs.Common.{◌≡◌, ◌∙◌, ℕ, ◌+◌, ◌<◌, zero, suc, List, [], ◌∷◌, ◌++◌, length, get_or, take, sym, ap, subst, arith, append_assoc, length-append}
use Rattle.std.specs.List.{fold}
use Rattle.std.proofs.lemmas.List.{append-nil, get_or_at, take_at}

module _ {X C : Type 0} (f : List C → X → C) where
  abbrev pub push : List C → X → List C
  push known x = known ++ f known x ∷ []

  pub grown-extends : (known : List C) (xs : List X) → (more : List C) × (fold push known xs ≡ known ++ more)
  grown-extends known [] = ([], sym (append-nil known))
  grown-extends known (x ∷ xs) =
      let rest = grown-extends (push known x) xs in
      (f known x ∷ rest.0, rest.1 ∙ append_assoc known (f known x ∷ []) rest.0)

  pub length-grown : (known : List C) (xs : List X) → length (fold push known xs) ≡ length known + length xs
  length-grown known [] = omega arith
  length-grown known (x ∷ xs) =
      let one : length (push known x) ≡ length known + length (f known x ∷ []) = length-append known (f known x ∷ []) in
      let rest = length-grown (push known x) xs in
      omega arith

  -- each is made from those before it
  pub grown-at : (known : List C) (xs : List X) (j : ℕ) (d : C) (e : X) → j < length xs
      → get_or (fold push known xs) (length known + j) d ≡ f (take (length known + j) (fold push known xs)) (get_or xs j e)
  grown-at known [] j d e h = absurd (omega arith)
  grown-at known (x ∷ xs) zero d e h =
      let rest = grown-extends (push known x) xs in
      let is : fold push known (x ∷ xs) ≡ known ++ f known x ∷ rest.0 = rest.1 ∙ append_assoc known (f known x ∷ []) rest.0 in
      let len : length known ≡ length known + 0 = omega arith in
      let here : get_or (fold push known (x ∷ xs)) (length known + 0) d ≡ f known x =
      ap (λ (l : List C). get_or l (length known + 0) d) is ∙ get_or_at known (f known x) rest.0 d (length known + 0) len in
      let before : take (length known + 0) (fold push known (x ∷ xs)) ≡ known =
      ap (λ (l : List C). take (length known + 0) l) is ∙ take_at known (f known x ∷ rest.0) (length known + 0) len in
      here ∙ ap (λ (l : List C). f l x) (sym before)
  grown-at known (x ∷ xs) (suc j) d e h =
      let one : length (push known x) ≡ length known + length (f known x ∷ []) = length-append known (f known x ∷ []) in
      let same : length (push known x) + j ≡ length known + suc j = omega arith in
      subst (λ (n : ℕ). get_or (fold push known (x ∷ xs)) n d ≡ f (take n (fold push known (x ∷ xs))) (get_or xs j e)) same
      (grown-at (push known x) xs j d e (omega arith))
