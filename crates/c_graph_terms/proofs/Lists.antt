-- Ids of lists of terms.
use Rattle.std.proofs.Common.{◌≡◌, ◌∙◌, ℕ, ◌<◌, false, List, [], ◌∷◌, ◌++◌, length, map, Some, refl, sym, ap, ap₂, subst, append_assoc, append-nil}
use Rattle.std.specs.Prelude.{slice_get, Option, None, IfSome}
use Rattle.std.proofs.lemmas.List.{map-append}
use Rattle.std.proofs.lemmas.Option.{slice_get_within, get_or_from_slice_get, slice_get-get_or}
use Rattle.term_core_spec.specs.declared.Atom.TheVariants as atom
use Rattle.term_core_spec.specs.Term as tree
use Rattle.term_core_spec.specs.Term.{Term}
use Rattle.term_bank.specs.Nodes.{tree_at, Holds}
use Rattle.term_bank.proofs.Growth.{slice_get-front}
use Rattle.c_graph_terms.specs.Tables.{AreWithin}
use Rattle.c_graph_terms.specs.Built.{IsGrown, IsBuilt, AreTerms, AreBuilt}
use Rattle.c_graph_terms.specs.Tests.{AreIdsOf, IsTested, IsEvaluated, IsTest, ids_of, trees_of}
use Rattle.c_graph_terms.specs.declared.values.ValueIds.{ValueIds}
use Rattle.c_graph_spec.specs.Values.{Terms}
use Rattle.c_graph_terms.proofs.Banks.{grown_then, terms_later, built_holds}

heads : {X : Type 0} (a b : X) (xs ys : List X) → a ∷ xs ≡ b ∷ ys → (a ≡ b) × (xs ≡ ys)
heads a b xs ys e = (cc, cc)

pub holds_later : (old new : List Term) (i : ℕ) (t : Term) → IsGrown old new → Holds old i t → Holds new i t
holds_later old new i t g h = subst (λ l. Holds l i t) (sym g.extends.1) (slice_get-front old g.extends.0 i t h)

pub ids_later : (old new : List Term) (ids : List ℕ) (terms : List Term) → IsGrown old new → AreIdsOf old ids terms → AreIdsOf new ids terms
ids_later old new [] [] g e = refl
ids_later old new [] (t ∷ ts) g e = absurd (cc)
ids_later old new (i ∷ ids) [] g e = absurd (cc)
ids_later old new (i ∷ ids) (t ∷ ts) g e =
    let parts = heads (slice_get old i) (Some t) (map (slice_get old) ids) (map Some ts) e in
    ap₂ (λ (x : Option Term) (xs : List (Option Term)). x ∷ xs) (holds_later old new i t g parts.0) (ids_later old new ids ts g parts.1)

pub ids_within : (trees : List Term) (ids : List ℕ) (terms : List Term) → AreIdsOf trees ids terms → AreWithin (length trees) ids
ids_within trees [] ts e = tt
ids_within trees (i ∷ ids) [] e = absurd (cc)
ids_within trees (i ∷ ids) (t ∷ ts) e =
    let parts = heads (slice_get trees i) (Some t) (map (slice_get trees) ids) (map Some ts) e in
    (slice_get_within trees i t parts.0, ids_within trees ids ts parts.1)

pub ids_trees : (trees : List Term) (ids : List ℕ) (terms : List Term) → AreIdsOf trees ids terms → map (tree_at trees) ids ≡ terms
ids_trees trees [] [] e = refl
ids_trees trees [] (t ∷ ts) e = absurd (cc)
ids_trees trees (i ∷ ids) [] e = absurd (cc)
ids_trees trees (i ∷ ids) (t ∷ ts) e =
    let parts = heads (slice_get trees i) (Some t) (map (slice_get trees) ids) (map Some ts) e in
    ap₂ (λ (x : Term) (xs : List Term). x ∷ xs) (get_or_from_slice_get trees i t (tree.Leaf (atom.Truth false)) parts.0) (ids_trees trees ids ts parts.1)

pub ids_append : (trees : List Term) (ids more : List ℕ) (terms others : List Term) → AreIdsOf trees ids terms → AreIdsOf trees more others → AreIdsOf trees (ids ++ more) (terms ++ others)
ids_append trees ids more terms others e f =
    map-append (slice_get trees) ids more ∙ ap₂ (λ (xs ys : List (Option Term)). xs ++ ys) e f ∙ sym (map-append Some terms others)

-- ---- tests

pub tested_itself : (old new : List Term) (before : List ℕ) → IsGrown old new → IsTested old new before before []
tested_itself old new before g =
    record {
      is_grown = g;
      added = λ terms h. subst (AreIdsOf new before) (sym (append-nil terms)) (ids_later old new before terms g h);
    }

pub tested_then : (a b c : List Term) (i j k : List ℕ) (first second : List Term) → IsTested a b i j first → IsTested b c j k second → IsTested a c i k (first ++ second)
tested_then a b c i j k first second p q =
    record {
      is_grown = grown_then a b c p.is_grown q.is_grown;
      added = λ terms h. subst (AreIdsOf c k) (append_assoc terms first second) (q.added (terms ++ first) (p.added terms h));
    }

pub tested_more : (a b c : List Term) (i j : List ℕ) (tests : List Term) → IsTested a b i j tests → IsGrown b c → IsTested a c i j tests
tested_more a b c i j tests p g =
    record {
      is_grown = grown_then a b c p.is_grown g;
      added = λ terms h. ids_later b c j (terms ++ tests) g (p.added terms h);
    }

pub tested_after : (a b c : List Term) (i j : List ℕ) (tests : List Term) → IsGrown a b → IsTested b c i j tests → IsTested a c i j tests
tested_after a b c i j tests g p =
    record {
      is_grown = grown_then a b c g p.is_grown;
      added = λ terms h. p.added terms (ids_later a b i terms g h);
    }

-- one test that was built is kept
pub tested_one : (old new : List Term) (before after : List ℕ) (id : ℕ) (t : Term) → IsBuilt old new id t → after ≡ before ++ id ∷ [] → IsTested old new before after (t ∷ [])
tested_one old new before after id t h e =
    let here : AreIdsOf new (id ∷ []) (t ∷ []) = ap (λ (x : Option Term). x ∷ []) (built_holds old new id t h) in
    record {
      is_grown = h.is_grown;
      added = λ terms all. subst (λ ids. AreIdsOf new ids (terms ++ t ∷ [])) (sym e) (ids_append new before (id ∷ []) terms (t ∷ []) (ids_later old new before terms h.is_grown all) here);
    }

pub found_ids : (new : List Term) (found : Option ℕ) (tests : List Term) → IfSome found (λ id. id < length new) → trees_of new found ≡ tests → AreIdsOf new (ids_of found) tests
found_ids new None tests h e = subst (AreIdsOf new []) e refl
found_ids new (Some id) tests h e = subst (AreIdsOf new (id ∷ [])) e (ap (λ (x : Option Term). x ∷ []) (slice_get-get_or new id (tree.Leaf (atom.Truth false)) h))

-- a test, or none, that was built is kept
pub tested_some : (old new : List Term) (before after : List ℕ) (found : Option ℕ) (tests : List Term) → IsTest old new found tests → after ≡ before ++ ids_of found → IsTested old new before after tests
tested_some old new before after found tests h e =
    record {
      is_grown = h.is_grown;
      added = λ terms all. subst (λ ids. AreIdsOf new ids (terms ++ tests)) (sym e) (ids_append new before (ids_of found) terms tests (ids_later old new before terms h.is_grown all) (found_ids new found tests h.within h.are));
    }

-- ---- values

pub untested : (old new : List Term) (before : List ℕ) (ids : ValueIds) (t : Terms) → AreBuilt old new ids t → IsEvaluated old new before before ids t []
untested old new before ids t h = record { tested = tested_itself old new before h.is_grown; are = h.are }

pub evaluated_then : (a b c : List Term) (i j k : List ℕ) (ids : ValueIds) (t : Terms) (first second : List Term) → IsTested a b i j first → IsEvaluated b c j k ids t second → IsEvaluated a c i k ids t (first ++ second)
evaluated_then a b c i j k ids t first second p q = record { tested = tested_then a b c i j k first second p q.tested; are = q.are }

-- tests, and then a value
pub tested_value : (a b c : List Term) (i j : List ℕ) (ids : ValueIds) (t : Terms) (tests : List Term) → IsTested a b i j tests → AreBuilt b c ids t → IsEvaluated a c i j ids t tests
tested_value a b c i j ids t tests p q = record { tested = tested_more a b c i j tests p q.is_grown; are = q.are }

-- terms, and then tests
pub value_tested : (a b : List Term) (i j : List ℕ) (ids : ValueIds) (t : Terms) (tests : List Term) → AreTerms a ids t → IsTested a b i j tests → IsEvaluated a b i j ids t tests
value_tested a b i j ids t tests h p = record { tested = p; are = terms_later a b ids t p.is_grown h }
