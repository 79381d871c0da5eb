-- The exploration of a walk: the visits that are found, and what follows each.
use Rattle.std.proofs.Common.{◌≡◌, ◌⊎◌, ℕ, zero, suc, ◌+◌, ◌<◌, ◌≤◌, Bool, true, false, List, [], ◌∷◌, ◌++◌, length, replicate, Some, refl, sym, ◌∙◌, ap, subst, inl, inr, arith, append-nil, append_assoc, length-append, eqb-true, eq-eqb}
use Rattle.std.specs.Prelude.{slice_get, Contains, Vec, nat_eq, if◌then◌else◌}
use Rattle.std.specs.Global.{Global}
use Rattle.std.proofs.Math.ListN.{get_or-append}
use Rattle.std.proofs.lemmas.List.{length-map}
use Rattle.std.proofs.lemmas.List.Elements.{Contains-append_cases}
use Rattle.std.proofs.lemmas.Option.{same_Some, get_or_from_slice_get}
use Rattle.graph_core_spec.specs.declared.Next.{Next}
use Rattle.graph_core_spec.specs.declared.Next.TheVariants as next
use Rattle.visit_walk_spec.specs.declared.Successors.{Successors}
use Rattle.visit_walk_spec.specs.declared.Successors.TheVariants as successors
use Rattle.graph_core_spec.specs.declared.Mark.{Mark}
use Rattle.visit_walk_spec.specs.declared.Branch.TheVariants.{Only, IfTrue, IfFalse}
use Rattle.visit_walk_spec.specs.Shape.{Shape, successors_at}
use Rattle.visit_walk_spec.specs.DepthFirst.{Leads, here, on, AreDistinct}
use Rattle.visit_walk_spec.specs.Visits.{Visit, Edge, arrival_of, first_of, followed, edges_of, edges_at, nexts_of, is_last}
use Rattle.visit_walk_spec.proofs.Members.{none_contained, only_contained, contained_here, contained_later, contained_at}
use Rattle.visit_walk.specs.declared.depth_first.Targets.{Targets}
use Rattle.visit_walk.specs.declared.depth_first.Targets.TheVariants.{Zero, One, Two}
use Rattle.visit_walk.specs.declared.table.Table.{Table}
use Rattle.visit_walk.specs.declared.table.Key.{Key}
use Rattle.visit_walk.specs.declared.table.Key.TheVariants.{Node, Return, Error}
use Rattle.visit_walk.specs.Tables.{Holds, Extends, lists_of, vector_at, counts_of, place_of, seen, visits_in, vectors_of, visits_of, visit_at, stray, IsTable, Grows, IsArrived, AreEdges, AreFollowed, IsBegun, AreReached, HasTargets, AreListed, AreMore, IsExplored}
use Rattle.visit_walk.proofs.Lists.{holds-front, holds-last, holds-cases, holds-below, holds-one, held}
use Rattle.visit_walk.proofs.Arriving.{visit_of}
use Rattle.visit_walk.proofs.Counting.{zeros-are}

-- ---- lists of visits that grow

grows-nothing : (items xs : List Visit) → Grows items xs xs
grows-nothing items xs = record { more = []; grown = sym (append-nil xs); only = λ v c. absurd (none_contained v c) }

grows-then : (u v : Visit) (xs ys zs : List Visit) → Grows (u ∷ []) xs ys → Grows (v ∷ []) ys zs → Grows (u ∷ v ∷ []) xs zs
grows-then u v xs ys zs g h = record {
  more = g.more ++ h.more;
  grown = h.grown ∙ (ap (λ l. l ++ h.more) g.grown ∙ append_assoc xs g.more h.more);
  only = λ w c. elim (Contains-append_cases g.more h.more w c) [
    | inl first ↦ subst (Contains (u ∷ v ∷ [])) (sym (only_contained u w (g.only w first))) (contained_here u (v ∷ []))
    | inr second ↦ contained_later u (v ∷ []) w (h.only w second)
  ];
}

pub grown-holds : (items xs ys : List Visit) (i : ℕ) (v : Visit) → Grows items xs ys → Holds xs i v → Holds ys i v
grown-holds items xs ys i v g h = subst (λ l. Holds l i v) (sym g.grown) (holds-front xs g.more i v h)

edges-front : (xs ys : List Visit) (edges : List Edge) (targets : Targets) → ((i : ℕ) (v : Visit) → Holds xs i v → Holds ys i v) → AreEdges xs edges targets → AreEdges ys edges targets
edges-front xs ys edges Zero more are = are
edges-front xs ys edges (One target) more are = record { visit = are.visit; holds = more target are.visit are.holds; edges_are = are.edges_are }
edges-front xs ys edges (Two first second) more are = record {
  on_true = are.on_true;
  on_false = are.on_false;
  holds_first = more first are.on_true are.holds_first;
  holds_second = more second are.on_false are.holds_second;
  edges_are = are.edges_are;
}

-- ---- what follows one visit

pub follow_one : (old new : Table) (visit : Visit) (index : ℕ) → IsArrived old new visit index → AreFollowed old new (record { branch = Only; to = visit } ∷ []) (One index)
follow_one old new visit index a = record { table = a.table; grows = a.grows; edges_are = record { visit = visit; holds = a.holds; edges_are = refl } }

pub follow_two : (old middle new : Table) (u v w : Visit) (first second : ℕ) → IsArrived old middle u first → IsArrived middle new v second → v ≡ w
    → AreFollowed old new (record { branch = IfTrue; to = u } ∷ record { branch = IfFalse; to = w } ∷ []) (Two first second)
follow_two old middle new u v w first second a b same = record {
  table = b.table;
  grows = subst (λ z. Grows (u ∷ z ∷ []) (visits_of old) (visits_of new)) same (grows-then u v (visits_of old) (visits_of middle) (visits_of new) a.grows b.grows);
  edges_are = record {
    on_true = u;
    on_false = w;
    holds_first = grown-holds (v ∷ []) (visits_of middle) (visits_of new) first u b.grows a.holds;
    holds_second = subst (Holds (visits_of new) second) same b.holds;
    edges_are = refl;
  };
}

pub follow_none : (t : Table) → IsTable t → AreFollowed t t [] Zero
follow_none t table = record { table = table; grows = grows-nothing [] (visits_of t); edges_are = refl }

pub visit_held : (t : Table) (index : ℕ) → index < length t.keys.keys → Holds (visits_of t) index (visit_at t index)
visit_held t index below = held (visits_of t) index stray (omega (arith, below, length-map t.keys.keys (seen (vectors_of t))))

pub follow_self : (t : Table) (index : ℕ) → IsTable t → index < length t.keys.keys → AreFollowed t t (record { branch = Only; to = visit_at t index } ∷ []) (One index)
follow_self t index table below = record {
  table = table;
  grows = grows-nothing (visit_at t index ∷ []) (visits_of t);
  edges_are = record { visit = visit_at t index; holds = visit_held t index below; edges_are = refl };
}

-- the counts of a visit stay where vectors are added
pub counts-stay : (old new : Table) (ms : List Mark) (counts : ℕ) (to : Next) → Extends (vectors_of old) (vectors_of new) → counts < length (vectors_of old)
    → arrival_of ms (vector_at (vectors_of new) counts) to ≡ arrival_of ms (vector_at (vectors_of old) counts) to
counts-stay old new ms counts to (more, e) below =
    ap (λ c. arrival_of ms c to) (ap (λ vs. vector_at vs counts) e ∙ get_or-append (vectors_of old) more [] counts below)

-- the visit at an index is that of the key there
pub visit_is : (t : Table) (index : ℕ) (key : Key) → Holds t.keys.keys index key → visit_at t index ≡ seen (vectors_of t) key
visit_is t index key h =
    let v = visit_of (vectors_of t) t.keys.keys index key h in
    holds-one (visits_of t) index (visit_at t index) (seen (vectors_of t) key) (held (visits_of t) index stray (holds-below (visits_of t) index (seen (vectors_of t) key) v)) v

pub vector_read : (vectors : List (Vec ℕ Global)) (i : ℕ) (read : Vec ℕ Global) → slice_get vectors i ≡ Some read → read.items ≡ vector_at (lists_of vectors) i
vector_read [] i read is = absurd (cc)
vector_read (v ∷ vectors) zero read is = ap (λ (v : Vec ℕ Global). v.items) (sym (same_Some v read is))
vector_read (v ∷ vectors) (suc i) read is = vector_read vectors i read is

pub counts_below : (t : Table) (index : ℕ) (key : Key) → IsTable t → Holds t.keys.keys index key → counts_of key < length t.vectors.keys
counts_below t index key table h = let below = table.counts_there index key h in omega (arith, below, length-map t.vectors.keys (λ (v : Vec ℕ Global). v.items))

pub follow_both : (old middle new : Table) (ms : List Mark) (v : Visit) (counts : ℕ) (on_true on_false : Next) (goes : Successors) (first second : ℕ)
    → goes ≡ successors.Two on_true on_false → v.counts ≡ vector_at (vectors_of old) counts → counts < length (vectors_of old)
    → IsArrived old middle (arrival_of ms (vector_at (vectors_of old) counts) on_true) first
    → IsArrived middle new (arrival_of ms (vector_at (vectors_of middle) counts) on_false) second
    → AreFollowed old new (followed ms v goes) (Two first second)
follow_both old middle new ms v counts on_true on_false goes first second is e there a b =
    subst (λ s. AreFollowed old new (followed ms v s) (Two first second)) (sym is)
    (subst (λ cs. AreFollowed old new (record { branch = IfTrue; to = arrival_of ms cs on_true } ∷ record { branch = IfFalse; to = arrival_of ms cs on_false } ∷ []) (Two first second)) (sym e)
    (follow_two old middle new (arrival_of ms (vector_at (vectors_of old) counts) on_true) (arrival_of ms (vector_at (vectors_of middle) counts) on_false)
    (arrival_of ms (vector_at (vectors_of old) counts) on_false) first second a b (counts-stay old middle ms counts on_false a.extends there)))

pub follow_call : (t : Table) (ms : List Mark) (index : ℕ) (goes : Successors) → goes ≡ successors.Callee → IsTable t → index < length t.keys.keys
    → AreFollowed t t (followed ms (visit_at t index) goes) (One index)
follow_call t ms index goes is table below =
    subst (λ s. AreFollowed t t (followed ms (visit_at t index) s) (One index)) (sym is) (follow_self t index table below)

-- the edges of a visit at a node: none at a last arrival
edges-node : (shape : Shape) (ms : List Mark) (v : Visit) (n : ℕ) (counts : List ℕ) (b : Bool) → v ≡ record { place = next.At n; counts = counts } → is_last (next.At n) ms counts ≡ b
    → edges_of shape ms v ≡ (if b then [] else followed ms v (successors_at shape n))
unfolding edges_of
edges-node shape ms v n counts b e last =
    ap (λ t. if t then [] else edges_at shape ms v v.place) (ap (λ (u : Visit). is_last u.place ms u.counts) e ∙ last)
    ∙ ap (λ (u : Visit). if b then [] else edges_at shape ms v u.place) e

edges-ended : (shape : Shape) (ms : List Mark) (v : Visit) → edges_at shape ms v v.place ≡ [] → edges_of shape ms v ≡ []
unfolding edges_of
edges-ended shape ms v e = either (is_last v.place ms v.counts)
  where
    either : (b : Bool) → (if b then [] else edges_at shape ms v v.place) ≡ []
    either true = refl
    either false = e

pub follow_last : (t : Table) (shape : Shape) (ms : List Mark) (index n counts : ℕ) → IsTable t → Holds t.keys.keys index (Node n counts)
    → is_last (next.At n) ms (vector_at (vectors_of t) counts) ≡ true → AreFollowed t t (edges_of shape ms (visit_at t index)) Zero
follow_last t shape ms index n counts table h last =
    subst (λ es. AreFollowed t t es Zero) (sym (edges-node shape ms (visit_at t index) n (vector_at (vectors_of t) counts) true (visit_is t index (Node n counts) h) last)) (follow_none t table)

pub follow_ended_key : (t : Table) (shape : Shape) (ms : List Mark) (index : ℕ) (key : Key) → IsTable t → Holds t.keys.keys index key → ((n : ℕ) → place_of key ≡ next.At n → ⊥)
    → AreFollowed t t (edges_of shape ms (visit_at t index)) Zero
follow_ended_key t shape ms index key table h ended =
    subst (λ es. AreFollowed t t es Zero) (sym (edges-ended shape ms (visit_at t index) (none (visit_at t index).place (λ n e. ended n (sym (ap (λ (v : Visit). v.place) (visit_is t index key h)) ∙ e)))))
    (follow_none t table)
  where
    none : (place : Next) → ((n : ℕ) → place ≡ next.At n → ⊥) → edges_at shape ms (visit_at t index) place ≡ []
    none (next.At n) never = absurd (never n refl)
    none next.Ret never = refl
    none next.Err never = refl

pub follow_ended : (t : Table) (shape : Shape) (ms : List Mark) (index : ℕ) (read : Key) → IsTable t → slice_get t.keys.keys index ≡ Some read
    → ((counts : ℕ) × (read ≡ Return counts)) ⊎ ((counts : ℕ) × (read ≡ Error counts)) → AreFollowed t t (edges_of shape ms (visit_at t index)) Zero
follow_ended t shape ms index read table h (inl (counts, e)) = follow_ended_key t shape ms index (Return counts) table (h ∙ ap Some e) (λ n e. cc)
follow_ended t shape ms index read table h (inr (counts, e)) = follow_ended_key t shape ms index (Error counts) table (h ∙ ap Some e) (λ n e. cc)

pub follow_on : (old new : Table) (shape : Shape) (ms : List Mark) (index n counts : ℕ) (targets : Targets) → Holds old.keys.keys index (Node n counts)
    → is_last (next.At n) ms (vector_at (vectors_of old) counts) ≡ false → AreFollowed old new (followed ms (visit_at old index) (successors_at shape n)) targets
    → AreFollowed old new (edges_of shape ms (visit_at old index)) targets
follow_on old new shape ms index n counts targets h last f =
    subst (λ es. AreFollowed old new es targets) (sym (edges-node shape ms (visit_at old index) n (vector_at (vectors_of old) counts) false (visit_is old index (Node n counts) h) last)) f

-- what was read of a visit's counts
pub last_read : (t : Table) (ms : List Mark) (n counts : ℕ) (read : Vec ℕ Global) (slice : List ℕ) (result b : Bool)
    → slice_get t.vectors.keys counts ≡ Some read → slice ≡ read.items → result ≡ is_last (next.At n) ms slice → result ≡ b
    → is_last (next.At n) ms (vector_at (vectors_of t) counts) ≡ b
last_read t ms n counts read slice result b is items last e =
    ap (is_last (next.At n) ms) (sym (items ∙ vector_read t.vectors.keys counts read is)) ∙ (sym last ∙ e)

-- ---- the first visit

pub begun : (ms : List Mark) (start : ℕ) (t : Table) (counts : ℕ) (zeros : List ℕ) → t.keys.keys ≡ Node start counts ∷ [] → Holds (vectors_of t) counts zeros
    → AreDistinct (vectors_of t) → zeros ≡ replicate (length ms) 0 → IsBegun ms start t
begun ms start t counts zeros e h distinct are = record {
  table = record {
    vectors_distinct = distinct;
    keys_distinct = λ i j k a b. one i j k (subst (λ l. Holds l i k) e a) (subst (λ l. Holds l j k) e b);
    counts_there = λ i k a. there i k (subst (λ l. Holds l i k) e a);
  };
  first = ap (visits_in (vectors_of t)) e ∙ ap (λ (cs : List ℕ). record { place = next.At start; counts = cs } ∷ []) (get_or_from_slice_get (vectors_of t) counts zeros [] h ∙ (are ∙ sym (zeros-are ms)));
}
  where
    one : (i j : ℕ) (k : Key) → Holds (Node start counts ∷ []) i k → Holds (Node start counts ∷ []) j k → i ≡ j
    one zero zero k a b = refl
    one zero (suc j) k a b = absurd (cc)
    one (suc i) j k a b = absurd (cc)

    there : (i : ℕ) (k : Key) → Holds (Node start counts ∷ []) i k → counts_of k < length (vectors_of t)
    there zero k a = subst (λ z. counts_of z < length (vectors_of t)) (same_Some (Node start counts) k a) (holds-below (vectors_of t) counts zeros h)
    there (suc i) k a = absurd (cc)

-- ---- all visits

module _ (shape : Shape) (marks : List Mark) (start : ℕ) where
  pub record IsExploring (count : ℕ) (t : Table) (targets : List Targets) : Type 0 where
    pub table : IsTable t
    pub reached : AreReached shape marks start (visits_of t)
    pub within : count ≤ length (visits_of t)
    pub number : length targets ≡ count
    pub follow : (i : ℕ) (v : Visit) → i < count → Holds (visits_of t) i v → HasTargets shape marks start (visits_of t) targets i v

  pub explore_begin : (t : Table) (targets : List Targets) → IsBegun marks start t → targets ≡ [] → IsExploring 0 t targets
  explore_begin t targets b e = record {
    table = b.table;
    reached = record {
      first = subst (λ l. Holds l 0 (first_of start marks)) (sym b.first) refl;
      reached = λ i v h. only i v (subst (λ l. Holds l i v) b.first h);
    };
    within = omega arith;
    number = ap length e;
    follow = λ i v below h. absurd (omega (arith, below));
  }
    where
      only : (i : ℕ) (v : Visit) → Holds (first_of start marks ∷ []) i v → Leads (nexts_of shape marks) (first_of start marks) v
      only zero v h = subst (Leads (nexts_of shape marks) (first_of start marks)) (same_Some (first_of start marks) v h) here
      only (suc i) v h = absurd (cc)

  pub explore_next : (count : ℕ) (t new : Table) (targets : List Targets) (found : Targets) → IsExploring count t targets → count < length t.keys.keys
      → AreFollowed t new (edges_of shape marks (visit_at t count)) found → IsExploring (count + 1) new (targets ++ found ∷ [])
  explore_next count t new targets found e below f = record {
    table = f.table;
    reached = record { first = more 0 (first_of start marks) e.reached.first; reached = reached };
    within = omega (arith, below, length-map t.keys.keys (seen (vectors_of t)), ap length f.grows.grown, length-append (visits_of t) f.grows.more);
    number = omega (arith, length-append targets (found ∷ []), e.number);
    follow = follow;
  }
    where
      v : Visit
      v = visit_at t count

      more : (i : ℕ) (u : Visit) → Holds (visits_of t) i u → Holds (visits_of new) i u
      more i u h = grown-holds (nexts_of shape marks (visit_at t count)) (visits_of t) (visits_of new) i u f.grows h

      cases : (i : ℕ) (u : Visit) → Holds (visits_of new) i u → Holds (visits_of t) i u ⊎ ((j : ℕ) × (i ≡ length (visits_of t) + j) × Holds f.grows.more j u)
      cases i u h = holds-cases (visits_of t) f.grows.more i u (subst (λ l. Holds l i u) f.grows.grown h)

      reached : (i : ℕ) (u : Visit) → Holds (visits_of new) i u → Leads (nexts_of shape marks) (first_of start marks) u
      reached i u h = elim (cases i u h) [ inl old ↦ e.reached.reached i u old | inr (j, at, added) ↦ further j u added ]
        where
          further : (j : ℕ) (u : Visit) → Holds f.grows.more j u → Leads (nexts_of shape marks) (first_of start marks) u
          further j u added =
              on (visit_at t count) u (e.reached.reached count (visit_at t count) (visit_held t count below)) (f.grows.only u (contained_at f.grows.more j u added))

      front : (i : ℕ) (u : Visit) → i < count → HasTargets shape marks start (visits_of t) targets i u → HasTargets shape marks start (visits_of new) (targets ++ found ∷ []) i u
      front i u before has = record {
        found = has.found;
        holds = holds-front targets (found ∷ []) i has.found has.holds;
        edges_are = edges-front (visits_of t) (visits_of new) (edges_of shape marks u) has.found more has.edges_are;
      }

      last : (i : ℕ) (u : Visit) → i ≡ count → Holds (visits_of t) i u → HasTargets shape marks start (visits_of new) (targets ++ found ∷ []) i u
      last i u at h =
          let same : visit_at t count ≡ u = holds-one (visits_of t) count (visit_at t count) u (visit_held t count below) (subst (λ k. Holds (visits_of t) k u) at h) in
          record {
            found = found;
            holds = subst (λ k. Holds (targets ++ found ∷ []) k found) (e.number ∙ sym at) (holds-last targets found);
            edges_are = subst (λ z. AreEdges (visits_of new) (edges_of shape marks z) found) same f.edges_are;
          }

      old : (i : ℕ) (u : Visit) → i < count + 1 → Holds (visits_of new) i u → Holds (visits_of t) i u
      old i u before h = elim (cases i u h) [
        | inl o ↦ o
        | inr (j, at, added) ↦ absurd (omega (arith, at, before, below, length-map t.keys.keys (seen (vectors_of t))))
      ]

      split : (i : ℕ) → i < count + 1 → (i < count) ⊎ (i ≡ count)
      split i before = grind (arith, before)

      follow : (i : ℕ) (u : Visit) → i < count + 1 → Holds (visits_of new) i u → HasTargets shape marks start (visits_of new) (targets ++ found ∷ []) i u
      follow i u before h = elim (split i before) [
        | inl earlier ↦ front i u earlier (e.follow i u earlier (old i u before h))
        | inr at ↦ last i u at (old i u before h)
      ]

  pub explore_all : (count maximum : ℕ) (t : Table) (targets : List Targets) → IsExploring count t targets → length t.keys.keys ≡ count → count ≤ maximum
      → AreListed shape marks start maximum t targets
  explore_all count maximum t targets e all few = record {
    table = e.table;
    reached = e.reached;
    follow = λ i v h. let below = holds-below (visits_of t) i v h in e.follow i v (omega (arith, below, all, length-map t.keys.keys (seen (vectors_of t)))) h;
    number = omega (arith, all, e.number);
    few = omega (arith, all, few, length-map t.keys.keys (seen (vectors_of t)));
  }

  pub explore_more : (count maximum : ℕ) (t : Table) (targets : List Targets) → IsExploring count t targets → maximum < length t.keys.keys
      → AreMore shape marks start maximum t
  explore_more count maximum t targets e many = record {
    table = e.table;
    reached = e.reached;
    many = omega (arith, many, length-map t.keys.keys (seen (vectors_of t)));
  }

  pub explored_last : (count maximum len : ℕ) (t : Table) (targets : List Targets) → IsExploring count t targets → count ≡ maximum → len ≡ length t.keys.keys
      → IsExplored shape marks start maximum t targets (nat_eq len maximum)
  explored_last count maximum len t targets e all is = at (nat_eq len maximum) refl
    where
      at : (b : Bool) → nat_eq len maximum ≡ b → IsExplored shape marks start maximum t targets b
      at true b = let same = eqb-true len maximum b in explore_all count maximum t targets e (omega (arith, same, all, is)) (omega (arith, all))
      at false b = explore_more count maximum t targets e (more (λ same. let yes = eq-eqb len maximum same in cc))
        where
          more : (len ≡ maximum → ⊥) → maximum < length t.keys.keys
          more apart = let within = e.within in omega (arith, within, all, is, apart, length-map t.keys.keys (seen (vectors_of t)))
