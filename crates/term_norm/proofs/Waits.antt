-- Walks: what waits, and how much work is left.
use Rattle.std.proofs.Common.{◌≡◌, ◌≢◌, ℕ, zero, suc, ◌+◌, ◌*◌, ◌<◌, cond, List, [], ◌∷◌, ◌++◌, length, Option, Some, None, refl, sym, ap, ◌∙◌, ⊎_elim, arith}
use Rattle.std.specs.Prelude.{is_some}
use Rattle.std.proofs.lemmas.Bool.{cases_eq}
use Rattle.term_norm.specs.Walk.{Waits, first, left}

-- ---- what waits

pub below_bound : (f : ℕ → Option ℕ) (b : ℕ) (ws : List ℕ) (a : ℕ) → Waits f b ws a → a < b
below_bound f b [] a h = h.0
below_bound f b (w ∷ ws) a h =
    let less : w < b = h.0 in
    let least : a < w = below_bound f w ws a h.2 in
    omega arith

pub has_none : (f : ℕ → Option ℕ) (b : ℕ) (ws : List ℕ) (a : ℕ) → Waits f b ws a → f a ≡ None
has_none f b [] a h = h.1
has_none f b (w ∷ ws) a h = has_none f w ws a h.2

pub Waits-push : (f g : ℕ → Option ℕ) (b : ℕ) (ws : List ℕ) (a c : ℕ) → ((k : ℕ) → g k ≡ f k) → Waits f b ws a → c < a → f c ≡ None → Waits g b (ws ++ a ∷ []) c
Waits-push f g b [] a c same h less none = (h.0, same a ∙ h.1, (less, same c ∙ none))
Waits-push f g b (w ∷ ws) a c same h less none = (h.0, same w ∙ h.1, Waits-push f g w ws a c same h.2 less none)

-- the one at hand has a form now
pub Waits-pop : (f g : ℕ → Option ℕ) (b : ℕ) (ws : List ℕ) (w a : ℕ) → ((k : ℕ) → a < k → g k ≡ f k) → Waits f b (ws ++ w ∷ []) a → Waits g b ws w
Waits-pop f g b [] w a same h = (h.0, same w h.2.0 ∙ h.1)
Waits-pop f g b (v ∷ ws) w a same h = (h.0, same v (below_bound f v (ws ++ w ∷ []) a h.2) ∙ h.1, Waits-pop f g v ws w a same h.2)

pub first-push : (ws : List ℕ) (a c : ℕ) → first (ws ++ a ∷ []) c ≡ first ws a
first-push [] a c = refl
first-push (w ∷ ws) a c = refl

pub first_alone : (ws : List ℕ) (a : ℕ) → length ws ≡ 0 → first ws a ≡ a
first_alone [] a e = refl
first_alone (w ∷ ws) a e = absurd (omega arith)

-- ---- how much is left

abbrev tick : Option ℕ → ℕ
tick form = cond (is_some form) 0 1

pub left-same : (f g : ℕ → Option ℕ) (n : ℕ) → ((k : ℕ) → k < n → g k ≡ f k) → left g n ≡ left f n
unfolding left
left-same f g zero same = refl
left-same f g (suc n) same =
    let before : left g n ≡ left f n = left-same f g n (λ k below. same k (omega arith)) in
    let here : tick (g n) ≡ tick (f n) = ap tick (same n (omega arith)) in
    omega arith

pub left-made : (f g : ℕ → Option ℕ) (n a v : ℕ) → a < n → f a ≡ None → g a ≡ Some v → ((k : ℕ) → k ≢ a → g k ≡ f k) → left f n ≡ left g n + 1
unfolding left
left-made f g zero a v below none made same = absurd (omega arith)
left-made f g (suc n) a v below none made same =
    ⊎_elim
    (λ (e : a ≡ n).
    let before : left g n ≡ left f n = left-same f g n (λ k less. same k (λ at. omega (arith, e, at))) in
    let old : tick (f n) ≡ 1 = ap (λ k. tick (f k)) (sym e) ∙ ap tick none in
    let new : tick (g n) ≡ 0 = ap (λ k. tick (g k)) (sym e) ∙ ap tick made in
    omega arith)
    (λ (apart : a ≢ n).
    let before : left f n ≡ left g n + 1 = left-made f g n a v (omega arith) none made same in
    let here : tick (g n) ≡ tick (f n) = ap tick (same n (λ e. apart (sym e))) in
    omega arith)
    (cases_eq a n)

pub less_by_one : (l k m w a : ℕ) → k ≡ l + 1 → w < m → l * m + w < k * m + a
less_by_one l k m w a e less = rw e (omega arith)
