-- Terms that are built from others that were built.
use Rattle.std.proofs.Common.{◌≡◌, ◌∙◌, ℕ, ◌<◌, List, length, refl, ap₂, subst}
use Rattle.term_core_spec.specs.Term.{Term, constant, not_term, equal, choose}
use Rattle.term_bank.specs.Nodes.{tree_at}
use Rattle.c_types_spec.specs.declared.Scalar.{Scalar}
use Rattle.c_graph_spec.specs.State.{width_of}
use Rattle.c_graph_spec.specs.Values.{Terms, of_word, of_truth, set_if, chosen}
use Rattle.c_graph_terms.specs.declared.values.ValueIds.{ValueIds}
use Rattle.c_graph_terms.specs.Built.{IsGrown, IsBuilt, AreTerms, AreBuilt, IsWithin, terms_at}
use Rattle.c_graph_terms.proofs.Banks.{grown_then, kept, within_later, built_then, terms_then}

-- ---- over one term, and over two of which the first was there

pub built_over : (a b c : List Term) (i : ℕ) (s : Term) (j : ℕ) (f : Term → Term) → IsBuilt a b i s → IsBuilt b c j (f (tree_at b i)) → IsBuilt a c j (f s)
built_over a b c i s j f h k = built_then a b c j (f s) h.is_grown (subst (λ t. IsBuilt b c j (f t)) h.tree k)

pub terms_over : (a b c : List Term) (i : ℕ) (s : Term) (ids : ValueIds) (f : Term → Terms) → IsBuilt a b i s → AreBuilt b c ids (f (tree_at b i)) → AreBuilt a c ids (f s)
terms_over a b c i s ids f h k = terms_then a b c ids (f s) h.is_grown (subst (λ t. AreBuilt b c ids (f t)) h.tree k)

pub built_beside : (a b c : List Term) (x i : ℕ) (s : Term) (j : ℕ) (f : Term → Term → Term) → x < length a → IsBuilt a b i s → IsBuilt b c j (f (tree_at b x) (tree_at b i)) → IsBuilt a c j (f (tree_at a x) s)
built_beside a b c x i s j f below h k =
    let first : IsBuilt b c j (f (tree_at b x) s) = subst (λ t. IsBuilt b c j (f (tree_at b x) t)) h.tree k in
    built_then a b c j (f (tree_at a x) s) h.is_grown (subst (λ t. IsBuilt b c j (f t s)) (kept a b x h.is_grown below) first)

-- ---- values

pub word_built : (old new : List Term) (type : Scalar) (x id : ℕ) → x < length old → IsBuilt old new id (not_term (equal (tree_at old x) (constant (width_of type) 0)))
    → AreBuilt old new (record { word = x; truth = id }) (of_word type (tree_at old x))
word_built old new type x id below h =
    record {
      is_grown = h.is_grown;
      are = record { word_within = within_later old new x h.is_grown below; truth_within = h.within; word_is = kept old new x h.is_grown below; truth_is = h.tree };
    }

pub truth_built : (old new : List Term) (test id : ℕ) → test < length old → IsBuilt old new id (set_if (tree_at old test))
    → AreBuilt old new (record { word = id; truth = test }) (of_truth (tree_at old test))
truth_built old new test id below h =
    record {
      is_grown = h.is_grown;
      are = record { word_within = h.within; truth_within = within_later old new test h.is_grown below; word_is = h.tree; truth_is = kept old new test h.is_grown below };
    }

-- a value of three terms, one after the other: a second word beside a first, and what is made of both
pub terms_beside : (a b c d : List Term) (x w v : ℕ) (s : Term) (ids : ValueIds) (f : Term → Term → Term) (type : Scalar) → x < length a → IsBuilt a b w s
    → IsBuilt b c v (f (tree_at b x) (tree_at b w)) → AreBuilt c d ids (of_word type (tree_at c v)) → AreBuilt a d ids (of_word type (f (tree_at a x) s))
terms_beside a b c d x w v s ids f type below first second third =
    terms_over a c d v (f (tree_at a x) s) ids (of_word type) (built_beside a b c x w s v f below first second) third

pub chosen_built : (a b c : List Term) (test first second : ValueIds) (w u : ℕ) → test.truth < length a → first.truth < length a → second.truth < length a
    → IsBuilt a b w (choose (tree_at a test.truth) (tree_at a first.word) (tree_at a second.word))
    → IsBuilt b c u (choose (tree_at b test.truth) (tree_at b first.truth) (tree_at b second.truth))
    → AreBuilt a c (record { word = w; truth = u }) (chosen (terms_at a test) (terms_at a first) (terms_at a second))
chosen_built a b c test first second w u t_in f_in s_in word truth =
    let g = word.is_grown in
    let t : tree_at b test.truth ≡ tree_at a test.truth = kept a b test.truth g t_in in
    let f : tree_at b first.truth ≡ tree_at a first.truth = kept a b first.truth g f_in in
    let s : tree_at b second.truth ≡ tree_at a second.truth = kept a b second.truth g s_in in
    let same : choose (tree_at b test.truth) (tree_at b first.truth) (tree_at b second.truth) ≡ choose (tree_at a test.truth) (tree_at a first.truth) (tree_at a second.truth) = cc in
    record {
      is_grown = grown_then a b c g truth.is_grown;
      are = record { word_within = within_later b c w truth.is_grown word.within; truth_within = truth.within; word_is = kept b c w truth.is_grown word.within ∙ word.tree; truth_is = truth.tree ∙ same };
    }

-- the terms at the ids of a value are its terms
pub terms_are : (trees : List Term) (ids : ValueIds) (t : Terms) → AreTerms trees ids t → terms_at trees ids ≡ t
terms_are trees ids t h = ap₂ (λ (w u : Term). let r : Terms = record { word = w; truth = u } in r) h.word_is h.truth_is

-- two terms that were there before the bank grew
pub two_kept : (a b c : List Term) (x y : ℕ) (ids : ValueIds) (f : Term → Term → Terms) → IsGrown a b → x < length a → y < length a → AreBuilt b c ids (f (tree_at b x) (tree_at b y))
    → AreBuilt b c ids (f (tree_at a x) (tree_at a y))
two_kept a b c x y ids f g x_in y_in h =
    subst (λ (t : Term). AreBuilt b c ids (f (tree_at a x) t)) (kept a b y g y_in)
    (subst (λ (t : Term). AreBuilt b c ids (f t (tree_at b y))) (kept a b x g x_in) h)

pub terms_there : (trees : List Term) (ids : ValueIds) → IsWithin (length trees) ids → AreTerms trees ids (terms_at trees ids)
terms_there trees ids h = record { word_within = h.0; truth_within = h.1; word_is = refl; truth_is = refl }
