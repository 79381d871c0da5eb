-- What is compared where both sides stop, by terms alone: a convention of the code is always one of these, if or not it is
-- one of the definitions.
use Rattle.std.specs.Prelude.{◌≡◌, ◌&&◌, true, if◌then◌else◌, List, [], ◌∷◌, ◌++◌, map}
use Rattle.std.specs.List.{list_any}
use Rattle.term_core_spec.specs.Term.{Term, truth, and_term, or_term, not_term}
use Rattle.term_core_spec.specs.Substitution.{State as Terms, substituted}
use Rattle.term_core.specs.Trees.{term_of}
use Rattle.visit_walk_spec.specs.Visits.{Visit}
use Rattle.proof_tree_spec.specs.Frames.{Frame}
use Rattle.proof_tree.specs.Frames.{terms_of}
use Rattle.sim_rules_spec.specs.Points as points
use Rattle.sim_rules_spec.specs.Rules.{Opening, Stop, all_of, goal_stops, terms_at}
use Rattle.sim_rules_spec.specs.Sides as sides
use Rattle.sim_rules_spec.specs.Sides.{Way, visits_where, condition_where}
use Rattle.sim_rules_terms.specs.declared.convention.Convention.{Convention}

-- the term that compares memories, and the lines where both sides have returned
pub record Compared : Type 0 where
  pub memory : Term
  pub returns : List Term

abbrev pub compared_by : points.Convention → Compared
compared_by c = record { memory = points.same_byte c; returns = c.returns }

pub record AreCompared (code : Convention) (c : Compared) : Type 0 where
  pub returns_are : c.returns ≡ terms_of code.returns.now
  pub memory_is : c.memory ≡ term_of code.memory.value

-- ---- as in `sim_rules_spec` (Rules), of these terms

abbrev pub stops : Compared → Frame → List Stop
stops c f = record { binary = sides.returns; source = sides.returns; lines = c.returns } ∷ goal_stops 0 f.goals

module _ (c : Compared) (a d : Way) (v w : List Visit) where
  abbrev pub comes_too : Stop → Term
  comes_too s = or_term (not_term (condition_where d w s.source)) (condition_where a v s.binary)

  abbrev pub related : Stop → Term
  related s = all_of (map (substituted (terms_at (visits_where a v s.binary).state (visits_where d w s.source).state)) (s.lines ++ c.memory ∷ []))

  abbrev pub related_if : Stop → Term
  related_if s = if list_any s.binary v && list_any s.source w then related s else truth true

  abbrev pub ends_alike : Stop → Term
  ends_alike s = or_term (not_term (and_term (condition_where a v s.binary) (condition_where d w s.source))) (related_if s)

abbrev pub held_there : Compared → Opening → (binary : Terms) → List Term → Term
held_there c o binary lines = all_of (map (substituted (terms_at binary o.source)) (lines ++ c.memory ∷ []))
