use Rattle.std.proofs.Common.{◌<◌, ◌≤◌, length, map, take}
use Rattle.std.specs.List.{fold}
use Rattle.term_core_spec.specs.Term.{Term, and_term}
use Rattle.term_core_spec.specs.Substitution.{State, substituted}
use Rattle.term_bank.specs.Nodes.{Holds, Extends}
use Rattle.path_cond.specs.States.{IsMapOf}
use Rattle.proof_tree.specs.Frames.{premise_of}
use Rattle.sim_rules_terms.proofs.lines.and_premises.Given as goal

-- the premises so far
abbrev pub invariant-loop-i : goal.invariant-loop-i
invariant-loop-i g l = record {
  extends : Extends l.fn.bank l.bank;
  longer : length l.fn.bank ≤ length l.bank;
  within : l.all < length l.bank;
  tree : (t : Term) (s : State) → Holds l.fn.bank l.first t → IsMapOf l.fn.bank (g.L.Lookup.terms l.terms) s → Holds l.bank l.all (fold and_term t (map (substituted s) (map premise_of (take l.i l.premises))));
}
