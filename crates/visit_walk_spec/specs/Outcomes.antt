-- What a search for the visits of a walk finds: their list, a cycle, or too many.
use Rattle.std.specs.Prelude.{◌≡◌, ◌<◌, ℕ, List, [], ◌∷◌, length, slice_get, Some}
use Rattle.graph_core_spec.specs.declared.Next.TheVariants as next
use Rattle.visit_walk_spec.specs.Visits.{Walk, Visit, first_visit, nexts}
use Rattle.visit_walk_spec.specs.DepthFirst.{Takes, Leads, IsOnCycle, AreDistinct}

-- these are the visits of the walk, in reversed post-order of the depth-first walk that takes the true branch first
abbrev pub AreVisits : Walk → List Visit → Type 0
AreVisits w visits = Takes (nexts w) [] (first_visit w ∷ []) visits

-- a walk from the first visit comes to a visit of the node, and from there to the same visit again: no mark is on the
-- way, since its count would have grown. A call's visit that doesn't end the walk is one
pub record IsCyclicFrom (nexts : Visit → List Visit) (first : Visit) (n : ℕ) : Type 0 where
  pub visit : Visit
  pub place : visit.place ≡ next.At n
  pub reached : Leads nexts first visit
  pub cycle : IsOnCycle nexts visit

abbrev pub IsAcyclicFrom : (Visit → List Visit) → Visit → Type 0
IsAcyclicFrom nexts first = (n : ℕ) → IsCyclicFrom nexts first n → ⊥

abbrev pub IsCyclicAt : Walk → ℕ → Type 0
IsCyclicAt w = IsCyclicFrom (nexts w) (first_visit w)

abbrev pub IsAcyclic : Walk → Type 0
IsAcyclic w = IsAcyclicFrom (nexts w) (first_visit w)

-- there is no cycle, and there are at least so many visits, which are more than the maximum
pub record AreTooManyFrom (nexts : Visit → List Visit) (first : Visit) (maximum count : ℕ) : Type 0 where
  pub acyclic : IsAcyclicFrom nexts first
  pub visits : List Visit
  pub distinct : AreDistinct visits
  pub reached : (i : ℕ) (v : Visit) → slice_get visits i ≡ Some v → Leads nexts first v
  pub number : length visits ≡ count
  pub above : maximum < count

abbrev pub AreTooMany : Walk → (maximum count : ℕ) → Type 0
AreTooMany w = AreTooManyFrom (nexts w) (first_visit w)
