-- What a Leaf leaves to show at its stops, of the code as the definitions have it, in a bank.
use Rattle.std.specs.Prelude.{◌≡◌, ◌⊎◌, ℕ, ◌<◌, List, length, map, Option, Some, None}
use Rattle.std.specs.HashMap.{get}
use Rattle.term_core_spec.specs.Same.{same_variable}
use Rattle.term_core_spec.specs.Term.{Term, or_term}
use Rattle.term_core.specs.Trees.{term_of}
use Rattle.term_bank.specs.Nodes.{Holds}
use Rattle.term_substitution.specs.States.{AreBelow}
use Rattle.visit_walk_spec.specs.Visits.{Visit}
use Rattle.proof_tree_spec.specs.Frames as spec
use Rattle.proof_tree.specs.Frames.{terms_of}
use Rattle.sim_rules_spec.specs.Rules.{Seen, Stop}
use Rattle.sim_rules_spec.specs.Sides.{Way, arrives, visit_mark}
use Rattle.sim_rules_terms.specs.declared.sight.Part.{Part}
use Rattle.sim_rules_terms.specs.Ways.{IsSight, IsPart}
use Rattle.sim_rules_terms.specs.Which.{test_of}
use Rattle.sim_rules.specs.Compared.{Compared, comes_too, ends_alike}
use Rattle.sim_rules.specs.declared.point.Meeting.{Meeting}
use Rattle.sim_rules.specs.declared.point.Point.{Point}
use Rattle.sim_rules.specs.declared.point.Claim.{Claim}
use Rattle.sim_rules.specs.declared.point.Claim.TheVariants.{ComesToo, EndsAlike}

-- the stop of a point, for sides of these ways
abbrev pub stop_at : (a d : Way) → Point → Stop
stop_at a d p = record { binary = test_of a.walk.stops p.binary; source = test_of d.walk.stops p.source; lines = terms_of p.lines.now }

-- the stop of a goal at an index
abbrev pub goal_stop : ℕ → spec.Goal → Stop
goal_stop index g = record { binary = arrives (visit_mark g.binary) index; source = arrives (visit_mark g.source) index; lines = g.relation }

-- the ids of both parts are of a bank of so many terms
pub record ArePartsIn (n : ℕ) (p q : Part) : Type 0 where
  pub of_binary : p.condition < n
  pub of_source : q.condition < n
  pub binary_below : AreBelow n (get same_variable p.terms)
  pub source_below : AreBelow n (get same_variable q.terms)

-- the parts are those of both sides at the stop, of these ways and visits; memory and lines are the stop's
pub record IsMet (trees : List Term) (c : Compared) (a d : Way) (v w : List Visit) (s : Stop) (memory : Term) (lines : List Term) (p q : Part) : Type 0 where
  pub memory_is : c.memory ≡ memory
  pub lines_are : s.lines ≡ lines
  pub of_binary : IsPart trees a v s.binary p
  pub of_source : IsPart trees d w s.source q

abbrev pub binary_visits : Meeting → List Visit
binary_visits m = m.binary.visits.now.visits

abbrev pub source_visits : Meeting → List Visit
source_visits m = m.source.visits.now.visits

-- both sides are those of these ways, and this is the negation of the premises
pub record IsMeeting (trees : List Term) (denied : Term) (c : Compared) (a d : Way) (m : Meeting) : Type 0 where
  pub of_binary : IsSight trees a m.binary
  pub of_source : IsSight trees d m.source
  pub memory_is : c.memory ≡ term_of m.memory.now
  pub denied_is : Holds trees m.denied denied

-- both sides are those of some ways, and the ids are of the bank
pub record CanMeet (trees : List Term) (m : Meeting) : Type 0 where
  pub some_binary : (a : Way) × IsSight trees a m.binary
  pub some_source : (d : Way) × IsSight trees d m.source
  pub denied_in : m.denied < length trees

-- the same where each side has a list of visits
abbrev pub IsMeetingIf : List Term → (denied : Term) → Compared → (a d : Seen) → Option Meeting → Type 0
IsMeetingIf trees denied c a d None = (a.visits ≡ None) ⊎ (d.visits ≡ None)
IsMeetingIf trees denied c a d (Some m) =
    (a.visits ≡ Some (binary_visits m)) × (d.visits ≡ Some (source_visits m)) × IsMeeting trees denied c a.way d.way m

abbrev pub CanMeetIf : List Term → Option Meeting → Type 0
CanMeetIf trees None = Unit {0}
CanMeetIf trees (Some m) = CanMeet trees m

-- what a claim says at a stop
abbrev pub shown_term : Claim → (denied : Term) → Compared → (a d : Way) → (v w : List Visit) → Stop → Term
shown_term ComesToo denied c a d v w s = or_term denied (comes_too c a d v w s)
shown_term EndsAlike denied c a d v w s = or_term denied (ends_alike c a d v w s)

abbrev pub shown_terms : Claim → (denied : Term) → Compared → (a d : Way) → (v w : List Visit) → List Stop → List Term
shown_terms claim denied c a d v w all = map (λ (s : Stop). shown_term claim denied c a d v w s) all
