-- What is said of a rule at the opening of a frame, as the part of a line has it.
use Rattle.std.proofs.Common.{ℕ, List, Option, Some, None}
use Rattle.term_core_spec.specs.Term.{Term}
use Rattle.proof_tree_spec.specs.Frames.{Frame}
use Rattle.sim_rules_spec.specs.Obligations.{Rule, IsCyclicRule, IsLargeRule}
use Rattle.tv_limits.specs.declared.TheConstants.{MAX_VISITS}
use Rattle.cert_check_lines_spec.specs.Sites.{Part}
use Rattle.cert_check_lines_spec.specs.Jobs.{opening}
use Rattle.cert_check_lines_spec.specs.LineRules.{Leaves}
use Rattle.cert_check_lines_spec.specs.Parts.{Member, part_of, unfolded}
use Rattle.cert_check_jobs.specs.Cuts.{Site}
use Rattle.cert_check_jobs.specs.Extras.{opening_at, origin_of}
use Rattle.cert_check.specs.Steps.{IsLeft}

module _ (parts : List Member) (m : Member) where
  abbrev part : Part
  part = part_of parts m (unfolded m)

  pub leaves : (start : Option Site) (frame : Frame) (r : Rule) (terms : List Term) → IsLeft m.listed.convention (opening_at m.listed start) frame r terms
      → Leaves part (origin_of start) frame r terms
  leaves None frame r terms left = record { acyclic = left.acyclic; small = left.small; obligations = left.are }
  leaves (Some at) frame r terms left = record { acyclic = left.acyclic; small = left.small; obligations = left.are }

  pub cyclic_there : (start : Option Site) (frame : Frame) (r : Rule) (node : ℕ) → IsCyclicRule (opening_at m.listed start) frame r node
      → IsCyclicRule (opening part (origin_of start)) frame r node
  cyclic_there None frame r node cyclic = cyclic
  cyclic_there (Some at) frame r node cyclic = cyclic

  pub never_there : (start : Option Site) (frame : Frame) (r : Rule) → ((node : ℕ) → IsCyclicRule (opening_at m.listed start) frame r node → ⊥) → (node : ℕ)
      → IsCyclicRule (opening part (origin_of start)) frame r node → ⊥
  never_there None frame r never node cyclic = never node cyclic
  never_there (Some at) frame r never node cyclic = never node cyclic

  pub large_there : (start : Option Site) (frame : Frame) (r : Rule) (count : ℕ) → IsLargeRule (opening_at m.listed start) frame MAX_VISITS r count
      → IsLargeRule (opening part (origin_of start)) frame MAX_VISITS r count
  large_there None frame r count large = large
  large_there (Some at) frame r count large = large
