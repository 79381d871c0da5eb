-- What a list of a walk's visits is, in the words of its graph of visits.
use Rattle.std.specs.Prelude.{◌≡◌, ◌↔◌, ◌<◌, ℕ, List, slice_get, Some, Contains}
use Rattle.visit_walk_spec.specs.DepthFirst.{Leads, AreDistinct}
use Rattle.visit_walk_spec.specs.Visits.{Walk, Visit, first_visit, nexts}

-- the visit is at a later index
pub record IsLater (visits : List Visit) (index : ℕ) (v : Visit) : Type 0 where
  pub place : ℕ
  pub after : index < place
  pub is : slice_get visits place ≡ Some v

-- each visit occurs once; they are exactly those to which paths lead from the first; this one comes first, and each
-- edge leads to a later visit
pub record AreOrdered (w : Walk) (visits : List Visit) : Type 0 where
  pub once : AreDistinct visits
  pub exactly : (v : Visit) → Contains visits v ↔ Leads (nexts w) (first_visit w) v
  pub first : slice_get visits 0 ≡ Some (first_visit w)
  pub later : (i : ℕ) (u v : Visit) → slice_get visits i ≡ Some u → Contains (nexts w u) v → IsLater visits i v
