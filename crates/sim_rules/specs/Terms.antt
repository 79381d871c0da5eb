-- What a rule leaves to show of both sides' ways and visits, in the order in which it is added.
use Rattle.std.specs.Prelude.{Bool, true, if◌then◌else◌, List, [], ◌∷◌, ◌++◌, length, map, Option, Some, None}
use Rattle.std.specs.List.{fold}
use Rattle.term_core_spec.specs.Term.{Term, truth, not_term, and_term, or_term}
use Rattle.visit_walk_spec.specs.Visits.{Visit}
use Rattle.proof_tree_spec.specs.Frames.{Frame, Hold}
use Rattle.graph_core_spec.specs.declared.Mark.{Mark}
use Rattle.sim_rules_spec.specs.Rules.{Opening, Seen, Stop, premise_terms, wait_premises, comes_to}
use Rattle.sim_rules_spec.specs.Sides.{Way, condition_where, visits_where, visit_mark, breaks, fails}
use Rattle.sim_rules.specs.Compared.{Compared, stops, comes_too, ends_alike, held_there}
use Rattle.sim_rules_spec.specs.declared.Side.{Side}
use Rattle.sim_rules_spec.specs.declared.Side.TheVariants.{Binary, Source}

-- ---- premises

abbrev pub conjunction : List Term → Term
conjunction premises = fold and_term (truth true) premises

-- under premises, a goal is this or the goal
abbrev pub denial : List Term → Term
denial premises = not_term (conjunction premises)

-- with that the source doesn't fail, or without
abbrev pub premises_if : (is_source_safe : Bool) → Opening → Frame → (binary source : Seen) → List Term
premises_if is_source_safe o f a d = if is_source_safe then premise_terms o f a d else wait_premises o f a d

-- ---- what is shown first

-- a side comes to none of these visits, where it has a list of visits
abbrev pub never_in : (denied : Term) → Way → Option (List Visit) → (Visit → Bool) → List Term
never_in denied w None test = []
never_in denied w (Some visits) test = or_term denied (not_term (condition_where w visits test)) ∷ []

abbrev pub never_if : (denied : Term) → Seen → (Visit → Bool) → List Term
never_if denied s test = never_in denied s.way s.visits test

abbrev pub main_seen : Side → (binary source : Seen) → Seen
main_seen Binary a d = a
main_seen Source a d = d

-- ---- and then

-- at the stops: that the binary comes there too, and then what holds there
abbrev pub stop_terms : (denied : Term) → Compared → (a d : Way) → (v w : List Visit) → List Stop → List Term
stop_terms denied c a d v w all =
    map (λ (s : Stop). or_term denied (comes_too c a d v w s)) all ++ map (λ (s : Stop). or_term denied (ends_alike c a d v w s)) all

abbrev pub stop_terms_if : (denied : Term) → Compared → (a d : Way) → (v w : Option (List Visit)) → List Stop → List Term
stop_terms_if denied c a d None w all = []
stop_terms_if denied c a d (Some v) None all = []
stop_terms_if denied c a d (Some v) (Some w) all = stop_terms denied c a d v w all

-- at a hold: that the binary comes there, and what holds there
abbrev pub held_terms : (denied : Term) → Compared → Opening → Way → List Visit → Hold → List Term
held_terms denied c o w visits hold =
    let there = visits_where w visits (comes_to hold.nodes.binary) in
    or_term denied there.condition ∷ or_term denied (held_there c o there.state hold.relation) ∷ []

abbrev pub held_terms_if : (denied : Term) → Compared → Opening → Way → Option (List Visit) → Hold → List Term
held_terms_if denied c o w None hold = []
held_terms_if denied c o w (Some visits) hold = held_terms denied c o w visits hold

-- ---- all of it, rule by rule

-- a Leaf: the binary doesn't fail, and then at the stops
abbrev pub leaf_all : Compared → Opening → Frame → (binary source : Seen) → List Term
leaf_all c o f a d =
    never_if (denial (premise_terms o f a d)) a fails ++ stop_terms_if (denial (premise_terms o f a d)) c a.way d.way a.visits d.visits (stops c f)

-- a Restrict: on the main side the arrival that the new bound counts doesn't come
abbrev pub restrict_all : Opening → Frame → (binary source main : Seen) → (bounds : List Mark) → Mark → List Term
restrict_all o f a d main bounds bound = never_if (denial (premise_terms o f a d)) main (breaks main.way.walk (visit_mark bound) (length bounds))

-- a Wait: the binary doesn't fail, and then at the hold
abbrev pub wait_all : Compared → Opening → Frame → Hold → (binary source : Seen) → List Term
wait_all c o f hold a d = never_if (denial (wait_premises o f a d)) a fails ++ held_terms_if (denial (wait_premises o f a d)) c o a.way a.visits hold
