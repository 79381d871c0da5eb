-- Frames inside a part, by what they have beside the frame at the function's entry.
use Rattle.std.specs.Prelude.{◌≡◌, ℕ, Box, Vec, List, [], ◌∷◌, ◌++◌, map, Option, Some, None}
use Rattle.std.specs.Global.{Global}
use Rattle.term_core_spec.specs.Term.{Term}
use Rattle.graph_core_spec.specs.declared.Mark.{Mark}
use Rattle.proof_tree_spec.specs.Frames.{Frame, Goal, Start}
use Rattle.sim_rules_spec.specs.Rules.{Opening, at_cut}
use Rattle.cert_check_spec.specs.Verdict.{Listed}
use Rattle.cert_check_lines_spec.specs.Jobs.{Origin, AtEntry, AtCut}
use Rattle.cert_check_frames.specs.declared.jobs.Branch.{Branch}
use Rattle.cert_check_frames.specs.Jobs.{AreBelow, premises_at, premises_with}
use Rattle.cert_check_jobs.specs.declared.cuts.Cuts.{Cuts}
use Rattle.cert_check_jobs.specs.declared.extra.Extra.{Extra}
use Rattle.cert_check_jobs.specs.Cuts.{AreGoalsBelow, Site, goals_in, goals_seen, no_cut, seen, start_seen}

-- where it starts, if at a cut; further premises, the bounds in force on both sides, and further goals
pub record Added : Type 0 where
  pub start : Option Site
  pub premises : List Term
  pub binary : List Mark
  pub source : List Mark
  pub goals : List Goal

-- a frame starts where the function's does, or at a cut, where the entry's premises hold and no bound is in force
abbrev pub started : Frame → Option Site → Start
started f None = f.start
started f (Some at) = record { nodes = at.nodes; path = at.path; premises = f.entry; binary_bounds = []; source_bounds = [] }

abbrev pub start_added : Start → Added → Start
start_added s x = record s {
  premises = s.premises ++ x.premises;
  binary_bounds = s.binary_bounds ++ x.binary;
  source_bounds = s.source_bounds ++ x.source;
}

abbrev pub frame_added : Frame → Added → Frame
frame_added f x = record f { start = start_added (started f x.start) x; goals = f.goals ++ x.goals }

-- where it starts, and the terms of variables there
abbrev pub origin_of : Option Site → Origin
origin_of None = AtEntry
origin_of (Some at) = AtCut

abbrev pub opening_at : Listed → Option Site → Opening
opening_at f None = f.opening
opening_at f (Some at) = at_cut f.convention

-- ---- as the program has them

-- the tests of its premises, and the lines of its goals, are in a bank
abbrev pub added_at : List Term → Extra → Added
added_at trees x = record {
  start = start_seen x.cuts.value.start;
  premises = premises_at trees x.premises.items;
  binary = x.binary_bounds.items;
  source = x.source_bounds.items;
  goals = goals_in trees (goals_seen x.cuts.value.goals.items);
}

-- the tests are given, in their order, and so are the goals
abbrev pub added_with : Extra → (tests : List Term) → (goals : List Goal) → Added
added_with x tests goals = record {
  start = start_seen x.cuts.value.start;
  premises = premises_with x.premises.items tests;
  binary = x.binary_bounds.items;
  source = x.source_bounds.items;
  goals = goals;
}

-- they are of a bank of so many terms
pub record IsBelow (n : ℕ) (x : Extra) : Type 0 where
  pub premises : AreBelow n x.premises.items
  pub goals : AreGoalsBelow n (goals_seen x.cuts.value.goals.items)

-- ---- as they are made

-- it has these
pub record IsMade (x : Extra) (cuts : Box Cuts Global) (premises : Vec Branch Global) (binary source : Vec Mark Global) : Type 0 where
  pub cuts_are : x.cuts ≡ cuts
  pub premises_are : x.premises ≡ premises
  pub binary_are : x.binary_bounds ≡ binary
  pub source_are : x.source_bounds ≡ source

-- ---- one more

pub record HasNothing (x : Extra) : Type 0 where
  pub cuts : seen x.cuts.value ≡ no_cut
  pub premises : x.premises.items ≡ []
  pub binary : x.binary_bounds.items ≡ []
  pub source : x.source_bounds.items ≡ []

pub record HasPremise (old : Extra) (b : Branch) (new : Extra) : Type 0 where
  pub cuts : seen new.cuts.value ≡ seen old.cuts.value
  pub premises : new.premises.items ≡ old.premises.items ++ b ∷ []
  pub binary : new.binary_bounds.items ≡ old.binary_bounds.items
  pub source : new.source_bounds.items ≡ old.source_bounds.items

pub record HasBinaryBound (old : Extra) (bound : Mark) (new : Extra) : Type 0 where
  pub cuts : seen new.cuts.value ≡ seen old.cuts.value
  pub premises : new.premises.items ≡ old.premises.items
  pub binary : new.binary_bounds.items ≡ old.binary_bounds.items ++ bound ∷ []
  pub source : new.source_bounds.items ≡ old.source_bounds.items

pub record HasSourceBound (old : Extra) (bound : Mark) (new : Extra) : Type 0 where
  pub cuts : seen new.cuts.value ≡ seen old.cuts.value
  pub premises : new.premises.items ≡ old.premises.items
  pub binary : new.binary_bounds.items ≡ old.binary_bounds.items
  pub source : new.source_bounds.items ≡ old.source_bounds.items ++ bound ∷ []
