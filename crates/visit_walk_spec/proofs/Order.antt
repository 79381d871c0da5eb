-- The list of a walk's visits: its order, that there is one at most, and where the walk ends.
use Rattle.std.proofs.Common.{◌≡◌, ◌⊎◌, ℕ, Bool, true, false, List, [], ◌∷◌, ◌++◌, length, drop, refl, sym, ◌∙◌, ap, subst, inl, inr}
use Rattle.std.specs.Prelude.{Contains, ◌||◌, ◌&&◌, not}
use Rattle.graph_core_spec.specs.declared.Next.{Next}
use Rattle.graph_core_spec.specs.declared.Mark.{Mark}
use Rattle.visit_walk_spec.specs.DepthFirst.{Takes, none, again, first, Leads}
use Rattle.visit_walk_spec.specs.Visits.{Walk, Visit, first_visit, nexts, is_full, is_last, is_stop, is_bounded, is_marked_end}
use Rattle.visit_walk_spec.specs.Outcomes.{AreVisits, IsAcyclic}
use Rattle.visit_walk_spec.specs.Order.{AreOrdered}
use Rattle.visit_walk_spec.proofs.Members.{none_contained, only_contained, contained_here}
use Rattle.visit_walk_spec.proofs.Walks.{Left, IsTaken, walk_whole, walk_head, later_distinct, later_reached, later_after}

pub ordered : (w : Walk) (visits : List Visit) → AreVisits w visits → AreOrdered w visits
ordered w visits takes = record {
  once = later_distinct (nexts w) visits l.later;
  exactly = λ v. (λ c. from v (l.only v c), λ path. later_reached (nexts w) visits l.later (first_visit w) v (l.covers (first_visit w) (contained_here (first_visit w) [])) path);
  first = walk_head (nexts w) (first_visit w) visits takes;
  later = λ i u v h edge. (let a = later_after (nexts w) visits l.later i u v h edge in record { place = a.index; after = a.below; is = a.is });
}
  where
    l : Left (nexts w) [] (first_visit w ∷ []) visits
    l = walk_whole (nexts w) (first_visit w ∷ []) visits takes

    from : (v : Visit) → Contains [] v ⊎ IsTaken (nexts w) (first_visit w ∷ []) v → Leads (nexts w) (first_visit w) v
    from v (inl c) = absurd (none_contained v c)
    from v (inr t) = subst (λ u. Leads (nexts w) u v) (only_contained (first_visit w) t.from t.among) t.path

pub acyclic : (w : Walk) (visits : List Visit) → AreVisits w visits → IsAcyclic w
acyclic w visits takes n c =
    let l = walk_whole (nexts w) (first_visit w ∷ []) visits takes in
    l.acyclic (first_visit w) (l.covers (first_visit w) (contained_here (first_visit w) [])) (record { cyclic = c.visit; path = c.reached; cycle = c.cycle })

module _ {X : Type 0} (after : X → List X) where
  takes_once : (left todo a b : List X) → Takes after left todo a → Takes after left todo b → a ≡ b
  takes_once _ _ _ _ (none left) (none _) = refl
  takes_once _ _ _ _ (again x left todo a among rest) (again _ _ _ b _ other) = takes_once left todo a b rest other
  takes_once _ _ _ _ (again x left todo a among rest) (first _ _ middle _ b new inner other) = absurd (new among)
  takes_once _ _ _ _ (first x left middle todo a new inner rest) (again _ _ _ b among other) = absurd (new among)
  takes_once _ _ _ _ (first x left m todo a new inner rest) (first _ _ n _ b _ inside other) =
      takes_once (x ∷ m) todo a b rest (subst (λ l. Takes after (x ∷ l) todo b) (sym (takes_once left (after x) m n inner inside)) other)

pub one_list : (w : Walk) (a b : List Visit) → AreVisits w a → AreVisits w b → a ≡ b
one_list w a b = takes_once (nexts w) [] (first_visit w ∷ []) a b

-- ---- where a mark ends the walk

no_counts : (place : Next) (ms : List Mark) → is_last place ms [] ≡ false
no_counts place [] = refl
no_counts place (m ∷ ms) = refl

or_assoc : (a b c : Bool) → (a || (b || c)) ≡ ((a || b) || c)
or_assoc true b c = refl
or_assoc false b c = refl

last_of_both : (place : Next) (stops bounds : List Mark) (counts : List ℕ)
    → is_last place (stops ++ bounds) counts ≡ (is_last place stops counts || is_last place bounds (drop (length stops) counts))
last_of_both place [] bounds counts = refl
last_of_both place (m ∷ stops) bounds [] = sym (no_counts place bounds)
last_of_both place (m ∷ stops) bounds (c ∷ counts) =
    ap (λ b. is_full place m c || b) (last_of_both place stops bounds counts)
    ∙ or_assoc (is_full place m c) (is_last place stops counts) (is_last place bounds (drop (length stops) counts))

either_wins : (s b : Bool) → (s || b) ≡ (s || (not s && b))
either_wins true b = refl
either_wins false b = refl

pub stop_or_bounded : (w : Walk) (v : Visit) → is_marked_end w v ≡ (is_stop w v || is_bounded w v)
stop_or_bounded w v =
    last_of_both v.place w.stops w.bounds v.counts ∙ either_wins (is_stop w v) (is_last v.place w.bounds (drop (length w.stops) v.counts))
