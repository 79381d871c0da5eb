-- Subterms that are added to a list which has, with each term, its arguments.
use Rattle.std.proofs.Common.{◌≡◌, Bool, true, false, cond, List, [], ◌∷◌, ◌++◌, refl, sym, ap, ◌∙◌, subst}
use Rattle.std.specs.Prelude.{◌||◌}
use Rattle.std.specs.List.{list_any}
use Rattle.term_core_spec.specs.Term.{Term, Leaf, Unary, Binary, Ternary, Quaternary, Octonary}
use Rattle.term_core_spec.specs.Same.{same_term}
use Rattle.term_core_spec.specs.Subterms.{with_term, with_subterms, arguments, IsIn, IsClosed}
use Rattle.term_core_spec.proofs.Same.{same_is, same_itself}
use Rattle.term_core_spec.proofs.Subterms.{AllIn, there, closed}

or_left : (p q : Bool) → p ≡ true → (p || q) ≡ true
or_left true q e = refl
or_left false q e = absurd (cc)

or_right : (p q : Bool) → q ≡ true → (p || q) ≡ true
or_right true q e = refl
or_right false q e = e

-- ---- one term

pub with_term-in : (t : Term) (xs : List Term) → IsIn t xs → with_term t xs ≡ xs
with_term-in t xs h = ap (λ b. cond b xs (xs ++ t ∷ [])) h

pub with_term-out : (t : Term) (xs : List Term) → list_any (same_term t) xs ≡ false → with_term t xs ≡ xs ++ t ∷ []
with_term-out t xs h = ap (λ b. cond b xs (xs ++ t ∷ [])) h

-- ---- the arguments

all_from : (ts xs : List Term) → ((a : Term) → IsIn a ts → IsIn a xs) → AllIn ts xs
unfolding AllIn
all_from [] xs f = tt
all_from (t ∷ rest) xs f = (
  f t (or_left (same_term t t) (list_any (same_term t) rest) (same_itself t)),
  all_from rest xs (λ a e. f a (or_right (same_term a t) (list_any (same_term a) rest) e)),
)

pub in_all : (ts xs : List Term) → AllIn ts xs → (a : Term) → IsIn a ts → IsIn a xs
unfolding AllIn
in_all [] xs h a at = absurd (cc)
in_all (t ∷ rest) xs h a at = by (same_term a t) refl at (in_all rest xs h.1 a)
  where
    by : (test : Bool) → same_term a t ≡ test → (test || list_any (same_term a) rest) ≡ true → (IsIn a rest → IsIn a xs) → IsIn a xs
    by true same e later = subst (λ u. IsIn u xs) (sym (same_is a t same)) h.0
    by false same e later = later e

pub parts : (t : Term) (xs : List Term) → IsClosed xs → IsIn t xs → AllIn (arguments t) xs
parts t xs h at = all_from (arguments t) xs (h t at)

-- with the subterms of some terms, the first first
unfoldable pub with_each : List Term → List Term → List Term
with_each [] xs = xs
with_each (a ∷ rest) xs = with_each rest (with_subterms a xs)

pub by_arguments : (t : Term) (xs : List Term) → with_subterms t xs ≡ with_term t (with_each (arguments t) xs)
unfolding with_subterms arguments with_each
by_arguments (Leaf leaf) xs = refl
by_arguments (Unary o a) xs = refl
by_arguments (Binary o a b) xs = refl
by_arguments (Ternary o a b c) xs = refl
by_arguments (Quaternary o a b c d) xs = refl
by_arguments (Octonary a b c d e f g i) xs = refl

-- ---- a term that is there adds nothing

pub there_same : (t : Term) (xs : List Term) → IsClosed xs → IsIn t xs → with_subterms t xs ≡ xs
unfolding with_subterms arguments AllIn
there_same (Leaf leaf) xs h at = with_term-in (Leaf leaf) xs at
there_same (Unary o a) xs h at =
    let p = parts (Unary o a) xs h at in
    ap (with_term (Unary o a)) (there_same a xs h p.0) ∙ with_term-in (Unary o a) xs at
there_same (Binary o a b) xs h at =
    let p = parts (Binary o a b) xs h at in
    ap (with_term (Binary o a b)) (ap (with_subterms b) (there_same a xs h p.0) ∙ there_same b xs h p.1.0) ∙ with_term-in (Binary o a b) xs at
there_same (Ternary o a b c) xs h at =
    let p = parts (Ternary o a b c) xs h at in
    ap (with_term (Ternary o a b c))
    (ap (with_subterms c) (ap (with_subterms b) (there_same a xs h p.0) ∙ there_same b xs h p.1.0) ∙ there_same c xs h p.1.1.0)
    ∙ with_term-in (Ternary o a b c) xs at
there_same (Quaternary o a b c d) xs h at =
    let p = parts (Quaternary o a b c d) xs h at in
    ap (with_term (Quaternary o a b c d))
    (ap (with_subterms d)
    (ap (with_subterms c) (ap (with_subterms b) (there_same a xs h p.0) ∙ there_same b xs h p.1.0) ∙ there_same c xs h p.1.1.0)
    ∙ there_same d xs h p.1.1.1.0)
    ∙ with_term-in (Quaternary o a b c d) xs at
there_same (Octonary a b c d e f g i) xs h at =
    let p = parts (Octonary a b c d e f g i) xs h at in
    let q = p.1.1.1.1 in
    let first : with_subterms d (with_subterms c (with_subterms b (with_subterms a xs))) ≡ xs =
    ap (with_subterms d)
    (ap (with_subterms c) (ap (with_subterms b) (there_same a xs h p.0) ∙ there_same b xs h p.1.0) ∙ there_same c xs h p.1.1.0)
    ∙ there_same d xs h p.1.1.1.0 in
    let second : with_subterms i (with_subterms g (with_subterms f (with_subterms e xs))) ≡ xs =
    ap (with_subterms i)
    (ap (with_subterms g) (ap (with_subterms f) (there_same e xs h q.0) ∙ there_same f xs h q.1.0) ∙ there_same g xs h q.1.1.0)
    ∙ there_same i xs h q.1.1.1.0 in
    ap (with_term (Octonary a b c d e f g i))
    (ap (λ ts. with_subterms i (with_subterms g (with_subterms f (with_subterms e ts)))) first ∙ second)
    ∙ with_term-in (Octonary a b c d e f g i) xs at

-- nor do some that are all there
pub each_there : (ts xs : List Term) → IsClosed xs → AllIn ts xs → with_each ts xs ≡ xs
unfolding with_each AllIn
each_there [] xs h all = refl
each_there (t ∷ rest) xs h all = ap (with_each rest) (there_same t xs h all.0) ∙ each_there rest xs h all.1

-- the subterms of one of them may be added before
pub one_before : (c : Term) (rest xs : List Term) → IsClosed xs → with_each (c ∷ rest) (with_subterms c xs) ≡ with_each (c ∷ rest) xs
unfolding with_each
one_before c rest xs h = ap (with_each rest) (there_same c (with_subterms c xs) (closed c xs h) (there c xs))

pub later_before : (t c : Term) (rest xs : List Term) → IsClosed xs → IsIn t xs → IsIn t (with_subterms c xs)
    → with_each rest (with_subterms c xs) ≡ with_each rest xs → with_each (t ∷ rest) (with_subterms c xs) ≡ with_each (t ∷ rest) xs
unfolding with_each
later_before t c rest xs h at later e =
    ap (with_each rest) (there_same t (with_subterms c xs) (closed c xs h) later) ∙ e ∙ sym (ap (with_each rest) (there_same t xs h at))
