-- Items are read alike in contexts that differ only in what their parser does not look at.
use Rattle.std.proofs.Common.{◌≡◌, ℕ, zero, suc, Bool, true, false, List, [], ◌∷◌, Ok, Err, refl, ap, sym, ◌∙◌, cond, length}
use Rattle.exact_read.specs.Reading.{Outcome, Parser}
use Rattle.exact_read.specs.Grammar.{bind, read_at_most, read_many}

-- a context that determines another
pub many-context : {T K X C D : Type 0} (starts : C → T → Bool) (item : C → Parser T K X) (next : C → X → C) (of : D → C) (next' : D → X → D) → ((d : D) (x : X) → of (next' d x) ≡ next (of d) x)
    → (n : ℕ) (d : D) (before : List T) → read_at_most starts item next n (of d) before ≡ read_at_most (λ d. starts (of d)) (λ d. item (of d)) next' n d before
many-context starts item next of next' same zero d before = refl
many-context starts item next of next' same (suc n) d [] = refl
many-context {T} {K} {X} {C} {D} starts item next of next' same (suc n) d (token ∷ more) = by_test (starts (of d) token) (by_item (λ e r. many-context starts item next of next' same n e r) (item (of d) (token ∷ more)))
  where
    by_item : ((e : D) (r : List T) → read_at_most starts item next n (of e) r ≡ read_at_most (λ d. starts (of d)) (λ d. item (of d)) next' n e r) → (o : Outcome T K X) → bind o (λ x rest. bind (read_at_most starts item next n (next (of d) x) rest) (λ xs after. Ok (x ∷ xs, after))) ≡ bind o (λ x rest. bind (read_at_most (λ d. starts (of d)) (λ d. item (of d)) next' n (next' d x) rest) (λ xs after. Ok (x ∷ xs, after)))
    by_item again (Err fault) = refl
    by_item again (Ok (x, rest)) =
        ap (λ c. bind (read_at_most starts item next n c rest) (λ xs after. Ok (x ∷ xs, after))) (sym (same d x))
        ∙ ap (λ o. bind o (λ xs after. Ok (x ∷ xs, after))) (again (next' d x) rest)

    by_test : (b : Bool)
        → bind (item (of d) (token ∷ more)) (λ x rest. bind (read_at_most starts item next n (next (of d) x) rest) (λ xs after. Ok (x ∷ xs, after))) ≡ bind (item (of d) (token ∷ more)) (λ x rest. bind (read_at_most (λ d. starts (of d)) (λ d. item (of d)) next' n (next' d x) rest) (λ xs after. Ok (x ∷ xs, after)))
        → cond b (bind (item (of d) (token ∷ more)) (λ x rest. bind (read_at_most starts item next n (next (of d) x) rest) (λ xs after. Ok (x ∷ xs, after)))) (Ok ([], token ∷ more)) ≡ cond b (bind (item (of d) (token ∷ more)) (λ x rest. bind (read_at_most (λ d. starts (of d)) (λ d. item (of d)) next' n (next' d x) rest) (λ xs after. Ok (x ∷ xs, after)))) (Ok ([], token ∷ more))
    by_test true e = e
    by_test false e = refl

pub many-context_same : {T K X C D : Type 0} (starts : C → T → Bool) (item : C → Parser T K X) (next : C → X → C) (of : D → C) (next' : D → X → D) → ((d : D) (x : X) → of (next' d x) ≡ next (of d) x) → (d : D) (before : List T)
    → read_many starts item next (of d) before ≡ read_many (λ d. starts (of d)) (λ d. item (of d)) next' d before
many-context_same starts item next of next' same d before = many-context starts item next of next' same (length before) d before
