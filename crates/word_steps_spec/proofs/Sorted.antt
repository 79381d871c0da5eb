-- The subterms of a well-sorted term are well sorted.
use Rattle.std.proofs.Common.{◌≡◌, Bool, true, false, cond, List, [], ◌∷◌, ◌++◌, Option, Some, None, ◌⊎◌, inl, inr, refl, sym, subst}
use Rattle.std.specs.List.{list_any}
use Rattle.std.proofs.lemmas.Bool.{and_parts}
use Rattle.term_core_spec.specs.declared.Width.TheVariants.{W64}
use Rattle.term_core_spec.specs.declared.Sort.{Sort}
use Rattle.term_core_spec.specs.declared.Sort.TheVariants as sort
use Rattle.term_core_spec.specs.Term.{Term, Leaf, Unary, Binary, Ternary, Quaternary, Octonary}
use Rattle.term_core_spec.specs.Sort.{sort_of, sort_of_unary, sort_of_binary, sort_of_ternary, sort_of_quaternary, all_bytes, is_byte}
use Rattle.term_core_spec.specs.Same.{same_term}
use Rattle.term_core_spec.specs.Subterms.{with_term, with_subterms, subterms, IsIn}
use Rattle.term_core_spec.proofs.Sorts.{sort_if-some, with_one-some, with_two-some, with_three-some, with_four-some}
use Rattle.term_core_spec.proofs.Subterms.{in_either, in_one}

-- the term is well sorted
abbrev pub HasSort : Term → Type 0
HasSort t = (s : Sort) × (sort_of t ≡ Some s)

abbrev AllSorted : List Term → Type 0
AllSorted ts = (u : Term) → IsIn u ts → HasSort u

with_one_more : (t : Term) (ts : List Term) → HasSort t → AllSorted ts → AllSorted (with_term t ts)
with_one_more t ts ht h u at = by (list_any (same_term t) ts) at
  where
    last : IsIn u ts ⊎ IsIn u (t ∷ []) → HasSort u
    last (inl here) = h u here
    last (inr here) = subst HasSort (sym (in_one u t here)) ht

    by : (test : Bool) → IsIn u (cond test ts (ts ++ t ∷ [])) → HasSort u
    by true here = h u here
    by false here = last (in_either u ts (t ∷ []) here)

byte_sorted : (o : Option Sort) (rest : List (Option Sort)) → all_bytes (o ∷ rest) ≡ true → ((s : Sort) × (o ≡ Some s)) × (all_bytes rest ≡ true)
byte_sorted (Some s) rest e = ((s, refl), (and_parts (is_byte s) (all_bytes rest) e).1)
byte_sorted None rest e = absurd (cc)

all_sorted : (t : Term) (ts : List Term) → HasSort t → AllSorted ts → AllSorted (with_subterms t ts)
unfolding with_subterms sort_of
all_sorted (Leaf atom) ts ht h = with_one_more (Leaf atom) ts ht h
all_sorted (Unary o a) ts ht h =
    let p = with_one-some (sort_of_unary o) (sort_of a) ht.0 ht.1 in
    with_one_more (Unary o a) _ ht (all_sorted a ts (p.0, p.1) h)
all_sorted (Binary o a b) ts ht h =
    let p = with_two-some (sort_of_binary o) (sort_of a) (sort_of b) ht.0 ht.1 in
    with_one_more (Binary o a b) _ ht (all_sorted b _ (p.1, p.3) (all_sorted a ts (p.0, p.2) h))
all_sorted (Ternary o a b c) ts ht h =
    let p = with_three-some (sort_of_ternary o) (sort_of a) (sort_of b) (sort_of c) ht.0 ht.1 in
    with_one_more (Ternary o a b c) _ ht (all_sorted c _ (p.2, p.5) (all_sorted b _ (p.1, p.4) (all_sorted a ts (p.0, p.3) h)))
all_sorted (Quaternary o a b c d) ts ht h =
    let p = with_four-some (sort_of_quaternary o) (sort_of a) (sort_of b) (sort_of c) (sort_of d) ht.0 ht.1 in
    with_one_more (Quaternary o a b c d) _ ht
    (all_sorted d _ (p.3, p.7) (all_sorted c _ (p.2, p.6) (all_sorted b _ (p.1, p.5) (all_sorted a ts (p.0, p.4) h))))
all_sorted (Octonary a b c d e f g i) ts ht h =
    let tests = sort_if-some _ (sort.Word W64) ht.0 ht.1 in
    let pa = byte_sorted (sort_of a) _ tests.0 in
    let pb = byte_sorted (sort_of b) _ pa.1 in
    let pc = byte_sorted (sort_of c) _ pb.1 in
    let pd = byte_sorted (sort_of d) _ pc.1 in
    let pe = byte_sorted (sort_of e) _ pd.1 in
    let pf = byte_sorted (sort_of f) _ pe.1 in
    let pg = byte_sorted (sort_of g) _ pf.1 in
    let pi = byte_sorted (sort_of i) _ pg.1 in
    with_one_more (Octonary a b c d e f g i) _ ht
    (all_sorted i _ pi.0 (all_sorted g _ pg.0 (all_sorted f _ pf.0 (all_sorted e _ pe.0
    (all_sorted d _ pd.0 (all_sorted c _ pc.0 (all_sorted b _ pb.0 (all_sorted a ts pa.0 h))))))))

pub subterms_sorted : (t : Term) → HasSort t → (u : Term) → IsIn u (subterms t) → HasSort u
subterms_sorted t ht = all_sorted t [] ht (λ u at. absurd (cc))
