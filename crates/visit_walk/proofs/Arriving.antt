-- Visits of a table, as the table grows.
use Rattle.std.proofs.Common.{◌≡◌, ◌⊎◌, ℕ, zero, suc, ◌+◌, ◌<◌, ◌≤◌, List, [], ◌∷◌, ◌++◌, length, Some, refl, sym, ◌∙◌, ap, subst, inl, inr, arith, append-nil, length-append}
use Rattle.std.specs.Prelude.{option_map}
use Rattle.std.proofs.Math.ListN.{get_or-append}
use Rattle.std.proofs.lemmas.List.{map-append}
use Rattle.std.proofs.lemmas.Option.{slice_get-map, same_Some}
use Rattle.graph_core_spec.specs.declared.Next.{Next}
use Rattle.graph_core_spec.specs.declared.Mark.{Mark}
use Rattle.visit_walk_spec.specs.DepthFirst.{AreDistinct}
use Rattle.visit_walk_spec.specs.Visits.{Visit, arrival_of}
use Rattle.visit_walk_spec.proofs.Members.{none_contained}
use Rattle.visit_walk.specs.declared.table.Key.{Key}
use Rattle.visit_walk.specs.declared.table.Key.TheVariants.{Node, Return, Error}
use Rattle.visit_walk.specs.Tables.{Holds, Extends, vector_at, counts_of, place_of, seen, visits_in, AreTable, IsKeyAdded, IsKeyAfter, Grows}
use Rattle.visit_walk.proofs.Lists.{holds-cases, held}

-- ---- keys

pub key-same : (a b : Key) → place_of a ≡ place_of b → counts_of a ≡ counts_of b → a ≡ b
key-same (Node m c) (Node n d) p e = let same : m ≡ n = cc in λ i. Node (same i) (e i)
key-same (Node m c) (Return d) p e = absurd (cc)
key-same (Node m c) (Error d) p e = absurd (cc)
key-same (Return c) (Node n d) p e = absurd (cc)
key-same (Return c) (Return d) p e = ap Return e
key-same (Return c) (Error d) p e = absurd (cc)
key-same (Error c) (Node n d) p e = absurd (cc)
key-same (Error c) (Return d) p e = absurd (cc)
key-same (Error c) (Error d) p e = ap Error e

-- the key of a visit
pub record IsKeyOf (vectors : List (List ℕ)) (keys : List Key) (i : ℕ) (v : Visit) : Type 0 where
  pub key : Key
  pub holds : Holds keys i key
  pub is : v ≡ seen vectors key

pub key_of : (vectors : List (List ℕ)) (keys : List Key) (i : ℕ) (v : Visit) → Holds (visits_in vectors keys) i v → IsKeyOf vectors keys i v
key_of vectors [] i v e = absurd (cc)
key_of vectors (k ∷ keys) zero v e = record { key = k; holds = refl; is = sym (same_Some (seen vectors k) v e) }
key_of vectors (k ∷ keys) (suc i) v e = let r = key_of vectors keys i v e in record { key = r.key; holds = r.holds; is = r.is }

pub visit_of : (vectors : List (List ℕ)) (keys : List Key) (i : ℕ) (key : Key) → Holds keys i key → Holds (visits_in vectors keys) i (seen vectors key)
visit_of vectors keys i key h = slice_get-map (seen vectors) keys i ∙ ap (λ o. option_map (seen vectors) o) h

pub visits-distinct : (vectors : List (List ℕ)) (keys : List Key) → AreTable vectors keys → AreDistinct (visits_in vectors keys)
visits-distinct vectors keys t i j v a b =
    let k = key_of vectors keys i v a in
    let l = key_of vectors keys j v b in
    let both : seen vectors k.key ≡ seen vectors l.key = sym k.is ∙ l.is in
    let counts : vector_at vectors (counts_of k.key) ≡ vector_at vectors (counts_of l.key) = ap (λ (v : Visit). v.counts) both in
    let first = held vectors (counts_of k.key) [] (t.counts_there i k.key k.holds) in
    let second = held vectors (counts_of l.key) [] (t.counts_there j l.key l.holds) in
    let same : counts_of k.key ≡ counts_of l.key =
    t.vectors_distinct (counts_of k.key) (counts_of l.key) (vector_at vectors (counts_of k.key)) first (second ∙ ap Some (sym counts)) in
    let key : k.key ≡ l.key = key-same k.key l.key (ap (λ (v : Visit). v.place) both) same in
    t.keys_distinct i j k.key k.holds (l.holds ∙ ap Some (sym key))

-- ---- more vectors

seen-front : (vectors more : List (List ℕ)) (key : Key) → counts_of key < length vectors → seen (vectors ++ more) key ≡ seen vectors key
seen-front vectors more key below = ap (λ (c : List ℕ). record { place = place_of key; counts = c }) (get_or-append vectors more [] (counts_of key) below)

pub visits-stay : (vectors new : List (List ℕ)) (keys : List Key) → Extends vectors new → ((i : ℕ) (key : Key) → Holds keys i key → counts_of key < length vectors)
    → visits_in new keys ≡ visits_in vectors keys
visits-stay vectors new [] (more, e) there = refl
visits-stay vectors new (k ∷ keys) (more, e) there =
    let first : seen new k ≡ seen vectors k = ap (λ vs. seen vs k) e ∙ seen-front vectors more k (there 0 k refl) in
    let rest = visits-stay vectors new keys (more, e) (λ i key h. there (suc i) key h) in
    λ i. first i ∷ rest i

pub extends-longer : {X : Type 0} (old new : List X) → Extends old new → length old ≤ length new
extends-longer old new (more, e) = omega (arith, ap length e, length-append old more)

-- ---- a key is added

pub record IsKeyed (vectors new : List (List ℕ)) (keys more : List Key) (visit : Visit) (index : ℕ) : Type 0 where
  pub table : AreTable new more
  pub grows : Grows (visit ∷ []) (visits_in vectors keys) (visits_in new more)
  pub holds : Holds (visits_in new more) index visit

pub keyed : (ms : List Mark) (vectors new : List (List ℕ)) (keys more : List Key) (counts : ℕ) (to : Next) (key : Key) (index : ℕ) → AreTable vectors keys
    → IsKeyAfter ms vectors new counts to key → IsKeyAdded keys more key index → IsKeyed vectors new keys more (arrival_of ms (vector_at vectors counts) to) index
keyed ms vectors new keys more counts to key index t after added = record {
  table = record { vectors_distinct = after.distinct; keys_distinct = added.distinct; counts_there = there };
  grows = grows added.grown;
  holds = visit_of new more index key added.holds ∙ ap Some after.is;
}
  where
    longer : length vectors ≤ length new
    longer = extends-longer vectors new after.extends

    before : (i : ℕ) (k : Key) → Holds keys i k → counts_of k < length new
    before i k h = let below = t.counts_there i k h in omega (arith, below, longer)

    there : (i : ℕ) (k : Key) → Holds more i k → counts_of k < length new
    there i k h = elim added.grown [
      | inl e ↦ before i k (subst (λ ks. Holds ks i k) e h)
      | inr e ↦ last i k (holds-cases keys (key ∷ []) i k (subst (λ ks. Holds ks i k) e h))
    ]
      where
        only : (j : ℕ) (k : Key) → Holds (key ∷ []) j k → counts_of k < length new
        only zero k h = subst (λ z. counts_of z < length new) (same_Some key k h) after.there
        only (suc j) k h = absurd (cc)

        last : (i : ℕ) (k : Key) → Holds keys i k ⊎ ((j : ℕ) × (i ≡ length keys + j) × Holds (key ∷ []) j k) → counts_of k < length new
        last i k (inl h) = before i k h
        last i k (inr (j, e, h)) = only j k h

    stay : visits_in new keys ≡ visits_in vectors keys
    stay = visits-stay vectors new keys after.extends t.counts_there

    grows : (more ≡ keys) ⊎ (more ≡ keys ++ key ∷ []) → Grows (arrival_of ms (vector_at vectors counts) to ∷ []) (visits_in vectors keys) (visits_in new more)
    grows (inl e) = record {
      more = [];
      grown = ap (visits_in new) e ∙ (stay ∙ sym (append-nil (visits_in vectors keys)));
      only = λ v c. absurd (none_contained v c);
    }
    grows (inr e) = record {
      more = arrival_of ms (vector_at vectors counts) to ∷ [];
      grown = ap (visits_in new) e ∙ (map-append (seen new) keys (key ∷ [])
          ∙ (ap (λ vs. vs ++ seen new key ∷ []) stay ∙ ap (λ v. visits_in vectors keys ++ v ∷ []) after.is));
      only = λ v c. c;
    }
