-- Both sides of a frame with their walks and visits, of the code as the definitions have them, in a bank.
use Rattle.std.specs.Prelude.{ℕ, List, length, Option, Some, None, Result, Ok, Err}
use Rattle.term_core_spec.specs.Term.{Term}
use Rattle.visit_walk_spec.specs.Listing.{Listing}
use Rattle.attempt.specs.declared.refusal.Refusal.{Refusal}
use Rattle.visit_walk.specs.declared.found.WalkFault.{WalkFault}
use Rattle.path_cond_spec.specs.Junctions.{junctions}
use Rattle.path_cond.specs.declared.found.Conditions.{Conditions}
use Rattle.path_cond.specs.Result.{AreConditions}
use Rattle.sim_rules_spec.specs.Rules.{Seen}
use Rattle.sim_rules_spec.specs.Sides.{Way}
use Rattle.sim_rules_spec.specs.declared.Side.TheVariants.{Binary, Source}
use Rattle.sim_rules_terms.specs.Openings.{IsOpeningIn}
use Rattle.sim_rules_terms.specs.Seen.{IsSeen}
use Rattle.sim_rules_terms.specs.Ways.{IsWay, walk_on}
use Rattle.sim_rules.specs.declared.change.Change.{Change}
use Rattle.sim_rules.specs.declared.setup.Setup.{Setup}
use Rattle.sim_rules.specs.declared.sides.Walked.{Walked}
use Rattle.sim_rules.specs.declared.sides.Sides.{Sides}
use Rattle.sim_rules.specs.declared.sides.Found.{Found}
use Rattle.sim_rules.specs.declared.sides.Both.{Both}
use Rattle.sim_rules.specs.Faults.{IsOutcome, visits_in}
use Rattle.sim_rules.specs.Made.{IsMade}

abbrev pub seen_by : Way → Result Listing (Refusal WalkFault) → Seen
seen_by w visits = record { way = w; visits = visits_in visits }

-- the conditions of the visits
abbrev pub AreFoundIf : List Term → Way → Result Listing (Refusal WalkFault) → Option Conditions → Type 0
AreFoundIf trees w (Ok l) (Some found) = AreConditions trees w.start w.graph (junctions w.walk l.visits) found
AreFoundIf trees w (Ok l) None = ⊥
AreFoundIf trees w (Err fault) (Some found) = ⊥
AreFoundIf trees w (Err fault) None = Unit {0}

-- the walk is that of the way, and this is the list of its visits, or why it has none
pub record IsWalked (trees : List Term) (w : Way) (x : Walked) : Type 0 where
  pub is_way : IsWay trees w x.way
  pub maximum : ℕ
  pub outcome : IsOutcome w.walk maximum x.visits

-- ---- both sides

-- they are a frame's, as a rule changes them
pub record AreWalked (s : Setup) (binary source : Change) (sides : Sides) : Type 0 where
  pub of_binary : IsMade s Binary binary sides.binary.way
  pub of_source : IsMade s Source source sides.source.way
  pub binary_outcome : IsOutcome (walk_on sides.binary.way) s.maximum sides.binary.visits
  pub source_outcome : IsOutcome (walk_on sides.source.way) s.maximum sides.source.visits

-- they are of these ways
pub record AreOf (trees : List Term) (a d : Way) (sides : Sides) : Type 0 where
  pub binary : IsWalked trees a sides.binary
  pub source : IsWalked trees d sides.source

-- these are the conditions of their visits
pub record AreFound (trees : List Term) (a d : Way) (sides : Sides) (found : Found) : Type 0 where
  pub binary : AreFoundIf trees a sides.binary.visits found.binary
  pub source : AreFoundIf trees d sides.source.visits found.source

-- these are they
pub record AreSeen (trees : List Term) (a d : Seen) (both : Both) : Type 0 where
  pub binary : IsSeen trees a both.binary
  pub source : IsSeen trees d both.source

-- the ids of the opening and of both sides are of the bank
pub record CanSee (trees : List Term) (both : Both) : Type 0 where
  pub opening : IsOpeningIn (length trees) both.setup.now.opening
  pub some_binary : (a : Seen) × IsSeen trees a both.binary
  pub some_source : (d : Seen) × IsSeen trees d both.source
