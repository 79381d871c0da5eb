-- Conjunctions that grow, and loads of one memory.
use Rattle.std.proofs.Common.{◌≡◌, ℕ, zero, suc, ◌+◌, ◌-◌, ◌<◌, Bool, true, false, cond, List, [], ◌∷◌, ◌++◌, map, length, take, drop, get_or, refl, sym, ap, ◌∙◌, arith, length-drop}
use Rattle.std.specs.Prelude.{filter}
use Rattle.std.proofs.lemmas.List.{take_more, take_all, map-append}
use Rattle.std.proofs.Math.Seq.{drop-cons}
use Rattle.term_bank.specs.Nodes.{Extends}
use Rattle.mem_terms.proofs.Trees.{load_later, loads_later}
use Rattle.term_core_spec.specs.declared.Variable.{Variable}
use Rattle.term_core_spec.specs.Same.{same_variable}
use Rattle.term_core_spec.specs.Term.{Term, and_term}
use Rattle.mem_terms_spec.specs.Flat.{FlatLoad, agree, pairs, is_from, pairs_of, all_of}
use Rattle.mem_terms.specs.declared.ids.LoadIds.{LoadIds}
use Rattle.mem_terms.specs.Ids.{load_at, is_load_from, AreWithin, IsWithin}

pub drop_here : {X : Type 0} → (xs : List X) (i : ℕ) (otherwise : X) → i < length xs → drop i xs ≡ get_or xs i otherwise ∷ drop (i + 1) xs
drop_here xs i otherwise below = let next : suc i ≡ i + 1 = omega arith in drop-cons xs i otherwise below ∙ ap (λ k. get_or xs i otherwise ∷ drop k xs) next

pub all_of-append : (t : Term) (xs ys : List Term) → all_of t (xs ++ ys) ≡ all_of (all_of t xs) ys
all_of-append t [] ys = refl
all_of-append t (x ∷ xs) ys = all_of-append (and_term t x) xs ys

-- all later ones
pub later_is : (i : ℕ) (loads : List LoadIds) → take (length loads - (i + 1)) (drop (i + 1) loads) ≡ drop (i + 1) loads
later_is i loads = take_all (length loads - (i + 1)) (drop (i + 1) loads) (omega (arith, length-drop (i + 1) loads))

-- what holds of each index in a list
pub within_at : (n : ℕ) (loads : List LoadIds) (i : ℕ) (otherwise : LoadIds) → AreWithin n loads → i < length loads → IsWithin n (get_or loads i otherwise)
within_at n [] i otherwise h b = absurd (omega arith)
within_at n (l ∷ loads) zero otherwise h b = h.0
within_at n (l ∷ loads) (suc i) otherwise h b = within_at n loads i otherwise h.1 (omega arith)

pub within_drop : (n : ℕ) (loads : List LoadIds) (i : ℕ) → AreWithin n loads → AreWithin n (drop i loads)
within_drop n loads zero h = h
within_drop n [] (suc i) h = tt
within_drop n (l ∷ loads) (suc i) h = within_drop n loads i h.1

pub within_filter : (n : ℕ) (memory : Variable) (loads : List LoadIds) → AreWithin n loads → AreWithin n (filter (is_load_from memory) loads)
within_filter n memory [] h = tt
within_filter n memory (l ∷ loads) h = step (same_variable memory l.memory) (within_filter n memory loads h.1)
  where
    step : (test : Bool) → AreWithin n (filter (is_load_from memory) loads)
        → AreWithin n (cond test (l ∷ filter (is_load_from memory) loads) (filter (is_load_from memory) loads))
    step true rest = (h.0, rest)
    step false rest = rest

-- the loads of a memory by their trees are those by their indices
pub filter_loads : (trees : List Term) (memory : Variable) (loads : List LoadIds)
    → map (load_at trees) (filter (is_load_from memory) loads) ≡ filter (is_from memory) (map (load_at trees) loads)
filter_loads trees memory [] = refl
filter_loads trees memory (l ∷ loads) = step (same_variable memory l.memory) (filter_loads trees memory loads)
  where
    step : (test : Bool) → map (load_at trees) (filter (is_load_from memory) loads) ≡ filter (is_from memory) (map (load_at trees) loads)
        → map (load_at trees) (cond test (l ∷ filter (is_load_from memory) loads) (filter (is_load_from memory) loads))
        ≡ cond test (load_at trees l ∷ filter (is_from memory) (map (load_at trees) loads)) (filter (is_from memory) (map (load_at trees) loads))
    step true e = ap (λ rest. load_at trees l ∷ rest) e
    step false e = e

-- ---- the turns of the loops

-- a load, and one later load more
pub later_step : (a b : List Term) (load : LoadIds) (later : List LoadIds) (i : ℕ) (otherwise : LoadIds) (t u : Term) → Extends a b → IsWithin (length a) load → AreWithin (length a) later
    → i < length later → u ≡ all_of t (map (agree (load_at a load)) (map (load_at a) (take i later)))
    → and_term u (agree (load_at b load) (load_at b (get_or later i otherwise))) ≡ all_of t (map (agree (load_at a load)) (map (load_at a) (take (i + 1) later)))
later_step a b load later i otherwise t u e load_in later_in below so_far =
    let f : FlatLoad → Term = agree (load_at a load) in
    let g : LoadIds → FlatLoad = load_at a in
    let y : LoadIds = get_or later i otherwise in
    let e1 : load_at b load ≡ load_at a load = load_later a b load e load_in in
    let e2 : load_at b y ≡ load_at a y = load_later a b y e (within_at (length a) later i otherwise later_in below) in
    let parts : map f (map g (take (i + 1) later)) ≡ map f (map g (take i later)) ++ f (g y) ∷ [] =
    ap (λ l. map f (map g l)) (take_more later i otherwise below) ∙ ap (map f) (map-append g (take i later) (y ∷ [])) ∙ map-append f (map g (take i later)) (g y ∷ []) in
    ap (λ v. and_term v (agree (load_at b load) (load_at b y))) so_far
    ∙ ap (λ v. and_term (all_of t (map f (map g (take i later)))) (agree v (load_at b y))) e1
    ∙ ap (λ v. and_term (all_of t (map f (map g (take i later)))) (agree (load_at a load) v)) e2
    ∙ sym (ap (all_of t) parts ∙ all_of-append t (map f (map g (take i later))) (f (g y) ∷ []))

-- one load with all later ones
pub pairs_step : (a b : List Term) (loads : List LoadIds) (i : ℕ) (otherwise : LoadIds) (u v : Term) → Extends a b → AreWithin (length a) loads → i < length loads
    → v ≡ all_of u (map (agree (load_at b (get_or loads i otherwise))) (map (load_at b) (drop (i + 1) loads)))
    → all_of v (pairs (map (load_at a) (drop (i + 1) loads))) ≡ all_of u (pairs (map (load_at a) (drop i loads)))
pairs_step a b loads i otherwise u v e within below made =
    let g : LoadIds → FlatLoad = load_at a in
    let y : LoadIds = get_or loads i otherwise in
    let rest : List LoadIds = drop (i + 1) loads in
    let e1 : load_at b y ≡ load_at a y = load_later a b y e (within_at (length a) loads i otherwise within below) in
    let e2 : map (load_at b) rest ≡ map g rest = loads_later a b rest e (within_drop (length a) loads (i + 1) within) in
    let whole : pairs (map g (drop i loads)) ≡ map (agree (g y)) (map g rest) ++ pairs (map g rest) = ap (λ l. pairs (map g l)) (drop_here loads i otherwise below) in
    let tree : v ≡ all_of u (map (agree (g y)) (map g rest)) = made ∙ ap (λ x. all_of u (map (agree x) (map (load_at b) rest))) e1 ∙ ap (λ l. all_of u (map (agree (g y)) l)) e2 in
    ap (λ w. all_of w (pairs (map g rest))) tree ∙ sym (ap (all_of u) whole ∙ all_of-append u (map (agree (g y)) (map g rest)) (pairs (map g rest)))

-- one memory's pairs
pub consistent_step : (a b : List Term) (loads own : List LoadIds) (memories : List Variable) (i : ℕ) (otherwise : Variable) (u v : Term) → Extends a b → AreWithin (length a) loads
    → i < length memories → own ≡ filter (is_load_from (get_or memories i otherwise)) loads → v ≡ all_of u (pairs (map (load_at b) own))
    → all_of v (pairs_of (drop (i + 1) memories) (map (load_at a) loads)) ≡ all_of u (pairs_of (drop i memories) (map (load_at a) loads))
consistent_step a b loads own memories i otherwise u v e within below own_is made =
    let m : Variable = get_or memories i otherwise in
    let flats : List FlatLoad = map (load_at a) loads in
    let e1 : map (load_at b) (filter (is_load_from m) loads) ≡ map (load_at a) (filter (is_load_from m) loads) =
    loads_later a b (filter (is_load_from m) loads) e (within_filter (length a) m loads within) in
    let e2 : map (load_at b) own ≡ filter (is_from m) flats = ap (map (load_at b)) own_is ∙ e1 ∙ filter_loads a m loads in
    let whole : pairs_of (drop i memories) flats ≡ pairs (filter (is_from m) flats) ++ pairs_of (drop (i + 1) memories) flats = ap (λ l. pairs_of l flats) (drop_here memories i otherwise below) in
    ap (λ w. all_of w (pairs_of (drop (i + 1) memories) flats)) (made ∙ ap (λ l. all_of u (pairs l)) e2)
    ∙ sym (ap (all_of u) whole ∙ all_of-append u (pairs (filter (is_from m) flats)) (pairs_of (drop (i + 1) memories) flats))
