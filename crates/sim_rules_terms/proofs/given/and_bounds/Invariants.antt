use Rattle.std.proofs.Common.{◌≡◌, ◌<◌, ◌≤◌, length, map, drop}
use Rattle.std.specs.List.{fold}
use Rattle.term_core_spec.specs.Term.{Term, and_term}
use Rattle.term_bank.specs.Nodes.{Holds, Extends}
use Rattle.proof_tree.specs.Frames.{mark_of}
use Rattle.sim_rules_spec.specs.Sides.{Way, unbroken}
use Rattle.sim_rules_terms.specs.Ways.{IsSight}
use Rattle.sim_rules_terms.proofs.given.and_bounds.Given as goal

-- what is left to add
abbrev pub invariant-loop-index : goal.invariant-loop-index
invariant-loop-index l = record {
  extends : Extends l.fn.bank l.bank;
  longer : length l.fn.bank ≤ length l.bank;
  within : l.all < length l.bank;
  tree : (w : Way) (t : Term) → IsSight l.fn.bank w l.sight → Holds l.fn.bank l.first t
      → (u : Term) × Holds l.bank l.all u
      × (fold and_term u (unbroken w l.sight.visits.now.visits l.index (map mark_of (drop l.index l.bounds))) ≡ fold and_term t (unbroken w l.sight.visits.now.visits 0 (map mark_of l.bounds)));
}
