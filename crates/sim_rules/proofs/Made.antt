-- Ways that were made for a side of a frame, and their walks, as a bank grows.
use Rattle.std.proofs.Common.{◌≡◌, ℕ, List, [], Option, sym, subst, refl, length}
use Rattle.std.specs.Prelude.{Result, Ok, Err, IfOk, IfErr}
use Rattle.std.specs.HashMap.{get}
use Rattle.term_core_spec.specs.declared.Variable.{Variable}
use Rattle.term_core_spec.specs.Same.{same_variable}
use Rattle.term_core_spec.specs.Term.{Term}
use Rattle.term_core.specs.Trees.{term_of}
use Rattle.term_bank.specs.Nodes.{Extends}
use Rattle.term_substitution.specs.States.{AreBelow, state_of}
use Rattle.graph_core.specs.Graphs.{graph_of}
use Rattle.visit_walk_spec.specs.Listing.{Listing, IsListing}
use Rattle.visit_walk_spec.specs.Visits.{Walk}
use Rattle.visit_walk.specs.Found.{IsWalkFault}
use Rattle.attempt.specs.declared.refusal.Refusal.{Refusal}
use Rattle.visit_walk.specs.declared.found.WalkFault.{WalkFault}
use Rattle.path_cond.specs.States.{IsMapOf}
use Rattle.proof_tree.specs.Frames.{frame_of, terms_of}
use Rattle.sim_rules_spec.specs.Points.{Convention, all_hold}
use Rattle.sim_rules_spec.specs.Rules.{Opening}
use Rattle.sim_rules_spec.specs.Sides as ways
use Rattle.sim_rules_terms.specs.declared.points.Opening.{Opening as CodeOpening}
use Rattle.sim_rules_terms.specs.declared.way.Way.{Way}
use Rattle.sim_rules_terms.specs.Openings.{IsOpening, IsOpeningIn}
use Rattle.sim_rules_terms.specs.Ways.{IsWay, walk_on}
use Rattle.sim_rules_terms.proofs.Later.{map_later, opening_later}
use Rattle.sim_rules.specs.declared.setup.Setup.{Setup}
use Rattle.sim_rules_spec.specs.declared.Side.{Side}
use Rattle.sim_rules_spec.specs.declared.Side.TheVariants.{Binary, Source}
use Rattle.sim_rules.specs.declared.change.Change.{Change}
use Rattle.sim_rules.specs.declared.change.Change.TheVariants.{Plain, Holding, Restricting}
use Rattle.sim_rules.specs.declared.sides.Walked.{Walked}
use Rattle.sim_rules.specs.declared.fault.Needs.{Needs}
use Rattle.sim_rules.specs.declared.fault.RuleFault.{RuleFault}
use Rattle.sim_rules.specs.Faults.{IsFaultOf, IsOutcome}
use Rattle.sim_rules.specs.Made.{IsMade, changed}
use Rattle.sim_rules.specs.Compared.{Compared, compared_by}
use Rattle.sim_rules.specs.Setups.{IsSetup, IsSetupOver}
use Rattle.sim_rules.specs.Sides.{ids_at, terms_at, way_at}
use Rattle.sim_rules.specs.declared.sides.Sides.{Sides}
use Rattle.sim_rules.specs.Walks.{AreOf, AreWalked, IsWalked}

map_at : (trees : List Term) (o : Opening) (code : CodeOpening) (side : Side) → IsOpening trees o code → IsMapOf trees (ids_at code side) (terms_at o side)
map_at trees o code Binary is = is.of_binary
map_at trees o code Source is = is.of_source

below_at : (n : ℕ) (code : CodeOpening) (side : Side) → IsOpeningIn n code → AreBelow n (ids_at code side)
below_at n code Binary is = is.binary_below
below_at n code Source is = is.source_below

module _ (trees : List Term) (s : Setup) (side : Side) where
  terms_made : (o : Opening) (change : Change) (way : Way) → IsOpening trees o s.opening → IsMade s side change way → IsMapOf trees (get same_variable way.terms.now) (terms_at o side)
  terms_made o change way opening made = subst (λ (f : Variable → Option ℕ). IsMapOf trees f (terms_at o side)) (sym made.ids_are) (map_at trees o s.opening side opening)

  -- the way is the side's, as the rule changes it
  pub is_way : (o : Opening) (change : Change) (way : Way) → IsOpening trees o s.opening → IsMade s side change way
      → IsWay trees (changed (way_at o (frame_of s.frame.now) side) change way.shape.successors.items) way
  is_way o Plain way opening made = record { graph = made.graph_is; walk = made.walk_is o; terms = terms_made o Plain way opening made }
  is_way o (Holding n) way opening made = record { graph = made.graph_is; walk = made.walk_is o; terms = terms_made o (Holding n) way opening made }
  is_way o (Restricting b) way opening made = record { graph = made.graph_is; walk = made.walk_is o; terms = terms_made o (Restricting b) way opening made }

  -- the way as it is, of whatever terms its map has
  pub some_way : (change : Change) (way : Way) → IsOpeningIn (length trees) s.opening → IsMade s side change way → (w : ways.Way) × IsWay trees w way
  some_way change way opening made = (
    record { graph = graph_of way.graph.now; walk = walk_on way; start = state_of trees (get same_variable way.terms.now) },
    record {
      graph = refl;
      walk = refl;
      terms = record { current = λ v. refl; below = subst (AreBelow (length trees)) (sym made.ids_are) (below_at (length trees) s.opening side opening) };
    },
  )

-- ---- as the bank grows

module _ (before now : List Term) (e : Extends before now) where
  pub way_later : (w : ways.Way) (way : Way) → IsWay before w way → IsWay now w way
  way_later w way is = record { graph = is.graph; walk = is.walk; terms = map_later before now e (get same_variable way.terms.now) w.start is.terms }

  pub walked_later : (w : ways.Way) (x : Walked) → IsWalked before w x → IsWalked now w x
  walked_later w x is = record { is_way = way_later w x.way is.is_way; maximum = is.maximum; outcome = is.outcome }

  pub setup_later : (c : Compared) (o : Opening) (s : Setup) → IsSetupOver before c o s → IsSetupOver now c o s
  setup_later c o s is = record { compared_are = is.compared_are; opening_is = opening_later before now e o s.opening is.opening_is }

-- ---- the terms that are compared, and those of the opening

pub by_convention : (trees : List Term) (c : Convention) (o : Opening) (s : Setup) → IsSetup trees c o s → IsSetupOver trees (compared_by c) o s
by_convention trees c o s is = record {
  compared_are = record { returns_are = is.convention_is.returns_are; memory_is = is.convention_is.memory_is };
  opening_is = is.opening_is;
}

-- without a convention of the definitions
abbrev pub own_compared : Setup → Compared
own_compared s = record { memory = term_of s.convention.now.memory.value; returns = terms_of s.convention.now.returns.now }

abbrev pub own_opening : List Term → Setup → Opening
own_opening trees s = record {
  binary = state_of trees (get same_variable s.opening.binary.now);
  source = state_of trees (get same_variable s.opening.source.now);
  known = all_hold [];
}

pub own_setup : (trees : List Term) (s : Setup) → IsOpeningIn (length trees) s.opening → IsSetupOver trees (own_compared s) (own_opening trees s) s
own_setup trees s is = record {
  compared_are = record { returns_are = refl; memory_is = refl };
  opening_is = record {
    of_binary = record { current = λ v. refl; below = is.binary_below };
    of_source = record { current = λ v. refl; below = is.source_below };
  };
}

-- ---- what a walk gives

pub outcome : (w : Walk) (maximum : ℕ) (r : Result Listing (Refusal WalkFault)) → IfOk r (IsListing w maximum) → IfErr r (IsWalkFault w maximum) → IsOutcome w maximum r
outcome w maximum (Ok listing) ok err = ok
outcome w maximum (Err fault) ok err = err

-- of the way that was asked for
pub outcome_of : (trees : List Term) (w : ways.Way) (way : Way) (maximum : ℕ) (r : Result Listing (Refusal WalkFault)) → IsWay trees w way → IsOutcome (walk_on way) maximum r → IsOutcome w.walk maximum r
outcome_of trees w way maximum r is h = subst (λ (walk : Walk). IsOutcome walk maximum r) is.walk h

-- ---- both sides

-- they are of the ways of a frame
pub sides_of : (trees : List Term) (s : Setup) (binary source : Change) (sides : Sides) → AreWalked s binary source sides → (o : Opening) → IsOpening trees o s.opening
    → AreOf trees (changed (way_at o (frame_of s.frame.now) Binary) binary sides.binary.way.shape.successors.items)
    (changed (way_at o (frame_of s.frame.now) Source) source sides.source.way.shape.successors.items) sides
sides_of trees s binary source sides walked o opening =
    let a = is_way trees s Binary o binary sides.binary.way opening walked.of_binary in
    let d = is_way trees s Source o source sides.source.way opening walked.of_source in
    record {
      binary = record { is_way = a; maximum = s.maximum; outcome = outcome_of trees _ sides.binary.way s.maximum sides.binary.visits a walked.binary_outcome };
      source = record { is_way = d; maximum = s.maximum; outcome = outcome_of trees _ sides.source.way s.maximum sides.source.visits d walked.source_outcome };
    }

-- of some ways
pub some_sides : (trees : List Term) (s : Setup) (binary source : Change) (sides : Sides) → AreWalked s binary source sides → IsOpeningIn (length trees) s.opening
    → (a d : ways.Way) × AreOf trees a d sides
some_sides trees s binary source sides walked opening =
    let a = some_way trees s Binary binary sides.binary.way opening walked.of_binary in
    let d = some_way trees s Source source sides.source.way opening walked.of_source in (
      a.0,
      d.0,
      record {
        binary = record { is_way = a.1; maximum = s.maximum; outcome = outcome_of trees a.0 sides.binary.way s.maximum sides.binary.visits a.1 walked.binary_outcome };
        source = record { is_way = d.1; maximum = s.maximum; outcome = outcome_of trees d.0 sides.source.way s.maximum sides.source.visits d.1 walked.source_outcome };
      },
    )

pub sides_later : (before now : List Term) → Extends before now → (a d : ways.Way) (sides : Sides) → AreOf before a d sides → AreOf now a d sides
sides_later before now e a d sides are = record { binary = walked_later before now e a sides.binary are.binary; source = walked_later before now e d sides.source are.source }

-- a fault of the walks as they were made is one of the frame's
pub few_fault : {needs : Needs} {maximum : ℕ} {x : Refusal RuleFault} {P : Refusal RuleFault → Type 0} {v w a d : Walk}
    → ((y : Refusal RuleFault) → IsFaultOf needs a d maximum y → P y) → v ≡ a → w ≡ d → IsFaultOf needs v w maximum x → P x
few_fault {needs = needs} {maximum = maximum} {x = x} {w = w} {a = a} give p q h =
    give x (subst (λ (z : Walk). IsFaultOf needs a z maximum x) q (subst (λ (z : Walk). IsFaultOf needs z w maximum x) p h))
