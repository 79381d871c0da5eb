-- The obligations of Leaf and of Restrict are well sorted, and in them the source has one memory.
use Rattle.std.proofs.Common.{ℕ, suc, ◌&&◌, Bool, true, List, [], ◌∷◌, map, length, Option, Some, None, sym, subst}
use Rattle.std.specs.Prelude.{All}
use Rattle.std.specs.List.{fold, list_any}
use Rattle.std.proofs.lemmas.List.Elements.{All-nil, All-cons, All-append, All-head, All-tail, All-weaker}
use Rattle.term_core_spec.specs.declared.Sort.TheVariants.{Truth}
use Rattle.term_core_spec.specs.Term.{Term, truth, and_term, not_term}
use Rattle.term_core_spec.specs.Substitution.{State, substituted}
use Rattle.graph_core_spec.specs.declared.Mark.{Mark}
use Rattle.visit_walk_spec.specs.Visits.{Visit}
use Rattle.proof_tree_spec.specs.Frames.{Frame, Goal}
use Rattle.sim_rules_spec.specs.Points.{Convention, same_byte, with_memory}
use Rattle.sim_rules_spec.specs.Sides.{Way, graph_at, binary_way, source_way, visits_where, condition_where, visit_mark, returns, fails, arrives, breaks, unbroken}
use Rattle.sim_rules_spec.specs.Rules.{Opening, Seen, terms_at_start, terms_at, Stop, stops, goal_stops, unbroken_if, unfailed_if, premise_terms, under, comes_too, related, related_if, ends_alike, leaf_goals, leaf_terms, restricted, excluded, AreOfBinaryRestrict, AreOfSourceRestrict}
use Rattle.validity_laws.proofs.Good.{IsGoodState, IsTest, AreTests, truth_good, not_good, or_good, and_good, either_good, substituted_good, fold_good, all_good, mapped_good}
use Rattle.validity_laws.proofs.Conditions.{IsGoodGraph, where_fine}
use Rattle.validity_laws.proofs.Entry.{start_good, point_good}

-- lines with terms put in for variables
pub lines_good : (state : State) → IsGoodState state → (lines : List Term) → AreTests lines → AreTests (map (substituted state) lines)
lines_good state good [] all = All-nil IsTest
lines_good state good (line ∷ lines) all =
    All-cons IsTest (substituted state line) (map (substituted state) lines) (substituted_good state good line Truth (All-head IsTest line lines all))
    (lines_good state good lines (All-tail IsTest line lines all))

pub under_test : (premises : List Term) (goal : Term) → AreTests premises → IsTest goal → IsTest (under premises goal)
under_test premises goal all is =
    or_good (not_term (fold and_term (truth true) premises)) goal
    (not_good (fold and_term (truth true) premises) (fold_good premises (truth true) (truth_good true) all)) is

pub under_good : (premises : List Term) → AreTests premises → (goals : List Term) → AreTests goals → AreTests (map (under premises) goals)
under_good premises all [] goals = All-nil IsTest
under_good premises all (goal ∷ rest) goals =
    All-cons IsTest (under premises goal) (map (under premises) rest)
    (under_test premises goal all (All-head IsTest goal rest goals))
    (under_good premises all rest (All-tail IsTest goal rest goals))

module _ (w : Way) (graph : IsGoodGraph w.graph) (good : IsGoodState w.start) (visits : List Visit) where
  condition_good : (test : Visit → Bool) → IsTest (condition_where w visits test)
  condition_good test = (where_fine w graph good visits test).tested

  unbroken_good : (index : ℕ) (bounds : List Mark) → AreTests (unbroken w visits index bounds)
  unbroken_good index [] = All-nil IsTest
  unbroken_good index (b ∷ bounds) =
      All-cons IsTest (not_term (condition_where w visits (breaks w.walk (visit_mark b) index))) (unbroken w visits (suc index) bounds)
      (not_good (condition_where w visits (breaks w.walk (visit_mark b) index)) (condition_good (breaks w.walk (visit_mark b) index)))
      (unbroken_good (suc index) bounds)

-- what a side gives, if it has a list of visits
module _ (s : Seen) (graph : IsGoodGraph s.way.graph) (good : IsGoodState s.way.start) where
  unbroken_if_good : (visits : Option (List Visit)) (bounds : List Mark) → AreTests (unbroken_if s.way visits bounds)
  unbroken_if_good (Some visits) bounds = unbroken_good s.way graph good visits 0 bounds
  unbroken_if_good None bounds = All-nil IsTest

  unfailed_if_good : (visits : Option (List Visit)) → AreTests (unfailed_if s.way visits)
  unfailed_if_good (Some visits) =
      All-cons IsTest (not_term (condition_where s.way visits fails)) []
      (not_good (condition_where s.way visits fails) (condition_good s.way graph good visits fails)) (All-nil IsTest)
  unfailed_if_good None = All-nil IsTest

-- what is assumed in every rule
module _ (o : Opening) (f : Frame) (binary_state : IsGoodState o.binary) (source_state : IsGoodState o.source) (premises : AreTests f.start.premises) where
  assumed_good : (binary source : Seen) → IsGoodGraph binary.way.graph → IsGoodState binary.way.start → IsGoodGraph source.way.graph → IsGoodState source.way.start
      → AreTests (premise_terms o f binary source)
  assumed_good binary source binary_graph binary_good source_graph source_good =
      All-append IsTest (map (substituted (terms_at_start o)) f.start.premises) _ (lines_good (terms_at_start o) (start_good o binary_state source_state) f.start.premises premises)
      (All-append IsTest (unbroken_if binary.way binary.visits f.start.binary_bounds) _ (unbroken_if_good binary binary_graph binary_good binary.visits f.start.binary_bounds)
      (All-append IsTest (unbroken_if source.way source.visits f.start.source_bounds) _ (unbroken_if_good source source_graph source_good source.visits f.start.source_bounds)
      (unfailed_if_good source source_graph source_good source.visits)))

  -- ---- Restrict

  -- the arrival that the bound of a way counts
  excluded_good : (w : Way) → IsGoodGraph w.graph → IsGoodState w.start → (visits : List Visit) (bounds : List Mark) (bound : Mark) → IsTest (excluded w visits bounds bound)
  excluded_good w graph good visits bounds bound =
      not_good (condition_where w visits (breaks w.walk (visit_mark bound) (length bounds))) (condition_good w graph good visits (breaks w.walk (visit_mark bound) (length bounds)))

  module _ (binary_graph : IsGoodGraph (graph_at f.binary)) (source_graph : IsGoodGraph (graph_at f.source)) (bound : Mark) (terms : List Term) where
    pub binary_restrict_good : AreOfBinaryRestrict o f bound terms → AreTests terms
    binary_restrict_good are =
        let a = restricted (binary_way f o.binary) are.shape bound in
        let premise = premise_terms o f (record { way = a; visits = Some are.binary }) (record { way = source_way f o.source; visits = are.source }) in
        subst AreTests (sym are.terms_are)
        (under_good premise
        (assumed_good (record { way = a; visits = Some are.binary }) (record { way = source_way f o.source; visits = are.source }) binary_graph binary_state source_graph source_state)
        (excluded a are.binary f.start.binary_bounds bound ∷ [])
        (All-cons IsTest (excluded a are.binary f.start.binary_bounds bound) [] (excluded_good a binary_graph binary_state are.binary f.start.binary_bounds bound) (All-nil IsTest)))

    pub source_restrict_good : AreOfSourceRestrict o f bound terms → AreTests terms
    source_restrict_good are =
        let b = restricted (source_way f o.source) are.shape bound in
        let premise = premise_terms o f (record { way = binary_way f o.binary; visits = are.binary }) (record { way = b; visits = Some are.source }) in
        subst AreTests (sym are.terms_are)
        (under_good premise
        (assumed_good (record { way = binary_way f o.binary; visits = are.binary }) (record { way = b; visits = Some are.source }) binary_graph binary_state source_graph source_state)
        (excluded b are.source f.start.source_bounds bound ∷ [])
        (All-cons IsTest (excluded b are.source f.start.source_bounds bound) [] (excluded_good b source_graph source_state are.source f.start.source_bounds bound) (All-nil IsTest)))

-- ---- Leaf

abbrev pub AreGoodGoals : List Goal → Type 0
AreGoodGoals goals = All (λ (g : Goal). AreTests g.relation) goals

abbrev IsGoodStop : Stop → Type 0
IsGoodStop s = AreTests s.lines

goal_stops_good : (index : ℕ) (goals : List Goal) → AreGoodGoals goals → All IsGoodStop (goal_stops index goals)
goal_stops_good index [] all = All-nil IsGoodStop
goal_stops_good index (g ∷ goals) all =
    All-cons IsGoodStop (record { binary = arrives (visit_mark g.binary) index; source = arrives (visit_mark g.source) index; lines = g.relation }) (goal_stops (suc index) goals)
    (All-head (λ (h : Goal). AreTests h.relation) g goals all)
    (goal_stops_good (suc index) goals (All-tail (λ (h : Goal). AreTests h.relation) g goals all))

module _ (c : Convention) (o : Opening) (f : Frame) (binary_graph : IsGoodGraph (graph_at f.binary)) (source_graph : IsGoodGraph (graph_at f.source))
    (binary_state : IsGoodState o.binary) (source_state : IsGoodState o.source) (premises : AreTests f.start.premises)
    (lines : AreTests c.returns) (memory : IsTest (same_byte c)) (binary source : List Visit) where
  abbrev a : Way
  a = binary_way f o.binary

  abbrev b : Way
  b = source_way f o.source

  abbrev assumed : List Term
  assumed = premise_terms o f (record { way = a; visits = Some binary }) (record { way = b; visits = Some source })

  module _ (s : Stop) (at_stop : AreTests s.lines) where
    comes_good : IsTest (comes_too c a b binary source s)
    comes_good =
        or_good (not_term (condition_where b source s.source)) (condition_where a binary s.binary)
        (not_good (condition_where b source s.source) (condition_good b source_graph source_state source s.source)) (condition_good a binary_graph binary_state binary s.binary)

    related_good : IsTest (related c a b binary source s)
    related_good =
        let x = (visits_where a binary s.binary).state in
        let y = (visits_where b source s.source).state in
        let both = point_good x y (where_fine a binary_graph binary_state binary s.binary).states (where_fine b source_graph source_state source s.source).states in
        all_good (map (substituted (terms_at x y)) (with_memory c s.lines))
        (lines_good (terms_at x y) both (with_memory c s.lines)
        (All-append IsTest s.lines (same_byte c ∷ []) at_stop (All-cons IsTest (same_byte c) [] memory (All-nil IsTest))))

    alike_good : IsTest (ends_alike c a b binary source s)
    alike_good =
        or_good (not_term (and_term (condition_where a binary s.binary) (condition_where b source s.source))) (related_if c a b binary source s)
        (not_good (and_term (condition_where a binary s.binary) (condition_where b source s.source))
        (and_good (condition_where a binary s.binary) (condition_where b source s.source) (condition_good a binary_graph binary_state binary s.binary)
        (condition_good b source_graph source_state source s.source)))
        (either_good (list_any s.binary binary && list_any s.source source) Truth (related c a b binary source s) (truth true) (λ h. related_good) (truth_good true))

  goals_good : (all : List Stop) → All IsGoodStop all → AreTests (leaf_goals c a b binary source all)
  goals_good all are =
      All-cons IsTest (not_term (condition_where a binary fails)) _ (not_good (condition_where a binary fails) (condition_good a binary_graph binary_state binary fails))
      (All-append IsTest (map (comes_too c a b binary source) all) (map (ends_alike c a b binary source) all)
      (mapped_good (comes_too c a b binary source) all (All-weaker IsGoodStop (λ (s : Stop). IsTest (comes_too c a b binary source s)) (λ s h. comes_good s h) all are))
      (mapped_good (ends_alike c a b binary source) all (All-weaker IsGoodStop (λ (s : Stop). IsTest (ends_alike c a b binary source s)) (λ s h. alike_good s h) all are)))

  pub leaf_good : AreGoodGoals f.goals → AreTests (leaf_terms c o f binary source)
  leaf_good goals =
      under_good assumed
      (assumed_good o f binary_state source_state premises (record { way = a; visits = Some binary }) (record { way = b; visits = Some source }) binary_graph binary_state source_graph source_state)
      (leaf_goals c a b binary source (stops c f))
      (goals_good (stops c f)
      (All-cons IsGoodStop (record { binary = returns; source = returns; lines = c.returns }) (goal_stops 0 f.goals) lines (goal_stops_good 0 f.goals goals)))
