-- Terms that are added one after the other.
use Rattle.std.proofs.Common.{◌≡◌, ◌∙◌, ℕ, suc, refl, ◌≤◌, ◌+◌, ◌<◌, List, [], ◌∷◌, ◌++◌, length, map, get_or, drop, sym, ap, ap₂, subst, arith, append_assoc, append-nil, drop-cons}
use Rattle.std.specs.Prelude.{flat_map}
use Rattle.std.proofs.lemmas.List.{map-append}
use Rattle.std.proofs.lemmas.List.{drop_all}
use Rattle.term_core_spec.specs.Term.{Term}
use Rattle.term_bank.specs.Nodes.{tree_at}
use Rattle.c_graph_terms.specs.Tables.{AreWithin}
use Rattle.c_graph_terms.specs.Built.{IsGrown, IsBuilt}
use Rattle.c_graph_terms.proofs.Banks.{grown_itself, grown_then}
use Rattle.c_graph_terms.proofs.Growing.{all_later, with_last, trees_kept}
use Rattle.templates.specs.Added.{AreAdded}

pub none_added : (trees : List Term) (ids : List ℕ) → AreWithin (length trees) ids → AreAdded trees trees ids ids []
none_added trees ids within = record { is_grown = grown_itself trees; within = within; are = sym (append-nil (map (tree_at trees) ids)) }

pub one_added : (old new : List Term) (before : List ℕ) (id : ℕ) (t : Term) → AreWithin (length old) before → IsBuilt old new id t
    → AreAdded old new before (before ++ id ∷ []) (t ∷ [])
one_added old new before id t within built = record {
  is_grown = built.is_grown;
  within = with_last (length new) before id (all_later old new before built.is_grown within) built.within;
  are = map-append (tree_at new) before (id ∷ []) ∙ ap₂ (λ (ts : List Term) (x : Term). ts ++ x ∷ []) (trees_kept old new before built.is_grown within) built.tree;
}

pub added_then : (a b c : List Term) (before between after : List ℕ) (first second : List Term) → AreAdded a b before between first → AreAdded b c between after second
    → AreAdded a c before after (first ++ second)
added_then a b c before between after first second p q = record {
  is_grown = grown_then a b c p.is_grown q.is_grown;
  within = q.within;
  are = q.are ∙ (ap (λ (l : List Term). l ++ second) p.are ∙ append_assoc (map (tree_at a) before) first second);
}

-- other ids of the first bank have their terms still
pub others_later : (a b : List Term) (before ids : List ℕ) (terms : List Term) (others : List ℕ) → AreAdded a b before ids terms → AreWithin (length a) others
    → AreWithin (length b) others
others_later a b before ids terms others p within = all_later a b others p.is_grown within

pub others_kept : (a b : List Term) (before ids : List ℕ) (terms : List Term) (others : List ℕ) → AreAdded a b before ids terms → AreWithin (length a) others
    → map (tree_at b) others ≡ map (tree_at a) others
others_kept a b before ids terms others p within = trees_kept a b others p.is_grown within

pub as_added : (a b : List Term) (before ids : List ℕ) (terms others : List Term) → terms ≡ others → AreAdded a b before ids terms → AreAdded a b before ids others
as_added a b before ids terms others e p = record { is_grown = p.is_grown; within = p.within; are = p.are ∙ ap (λ (l : List Term). map (tree_at a) before ++ l) e }

-- ---- loops: so far these have been added, and with what the rest gives they are all

pub record IsSoFar {X : Type 0} (old now : List Term) (before ids : List ℕ) (gives : X → List Term) (all rest : List X) : Type 0 where
  pub so_far : List Term
  pub added : AreAdded old now before ids so_far
  pub goes_on : so_far ++ flat_map gives rest ≡ flat_map gives all

module _ {X : Type 0} (old : List Term) (before : List ℕ) (gives : X → List Term) (all : List X) where
  pub begins : AreWithin (length old) before → IsSoFar old old before before gives all all
  begins within = record { so_far = []; added = none_added old before within; goes_on = refl }

  pub goes : (now next : List Term) (ids more : List ℕ) (x : X) (rest tail : List X) → IsSoFar old now before ids gives all rest → rest ≡ x ∷ tail
      → AreAdded now next ids more (gives x) → IsSoFar old next before more gives all tail
  goes now next ids more x rest tail s is step = record {
    so_far = s.so_far ++ gives x;
    added = added_then old now next before ids more s.so_far (gives x) s.added step;
    goes_on = append_assoc s.so_far (gives x) (flat_map gives tail)
        ∙ (ap (λ (l : List X). s.so_far ++ flat_map gives l) (sym is) ∙ s.goes_on);
  }

  pub ends : (now : List Term) (ids : List ℕ) → IsSoFar old now before ids gives all [] → AreAdded old now before ids (flat_map gives all)
  ends now ids s = as_added old now before ids s.so_far (flat_map gives all) (sym (append-nil s.so_far) ∙ s.goes_on) s.added

pub next_of : {X : Type 0} (xs : List X) (i : ℕ) (d : X) → i < length xs → drop i xs ≡ get_or xs i d ∷ drop (i + 1) xs
next_of xs i d h =
    let next : i + 1 ≡ suc i = omega arith in
    drop-cons xs i d h ∙ ap (λ (n : ℕ). get_or xs i d ∷ drop n xs) (sym next)

pub finished : {X : Type 0} (old now : List Term) (before ids : List ℕ) (gives : X → List Term) (all : List X) (i : ℕ) (terms : List Term) → length all ≤ i
    → IsSoFar old now before ids gives all (drop i all) → flat_map gives all ≡ terms → AreAdded old now before ids terms
finished old now before ids gives all i terms past s e =
    as_added old now before ids (flat_map gives all) terms e
    (ends old before gives all now ids (subst (λ rest. IsSoFar old now before ids gives all rest) (drop_all i all past) s))

pub pushed_one : (old new : List Term) (before after : List ℕ) (id : ℕ) (t : Term) → AreWithin (length old) before → IsBuilt old new id t → after ≡ before ++ id ∷ []
    → AreAdded old new before after (t ∷ [])
pushed_one old new before after id t within built e = subst (λ ids. AreAdded old new before ids (t ∷ [])) (sym e) (one_added old new before id t within built)

-- ---- lists that were made on the way

-- what is added to a bank that has grown before
pub from_before : (a b c : List Term) (before ids : List ℕ) (terms : List Term) → IsGrown a b → AreWithin (length a) before → AreAdded b c before ids terms
    → AreAdded a c before ids terms
from_before a b c before ids terms grown within p = record {
  is_grown = grown_then a b c grown p.is_grown;
  within = p.within;
  are = p.are ∙ ap (λ (l : List Term). l ++ terms) (trees_kept a b before grown within);
}

-- of a list that was empty, in a bank that has grown since
pub made_are : (a b c : List Term) (empty ids : List ℕ) (terms : List Term) → empty ≡ [] → AreAdded a b empty ids terms → IsGrown b c → map (tree_at c) ids ≡ terms
made_are a b c empty ids terms e p grown =
    trees_kept b c ids grown p.within ∙ (p.are ∙ ap (λ (l : List ℕ). map (tree_at a) l ++ terms) e)
