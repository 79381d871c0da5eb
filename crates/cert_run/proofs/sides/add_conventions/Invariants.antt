use Rattle.std.proofs.Common.{◌≡◌, ◌≤◌, ℕ, List, length, Some}
use Rattle.std.specs.Prelude.{slice_get}
use Rattle.agreement_laws.specs.EntryFrame.{Pair}
use Rattle.validity_laws.specs.Derivation.{Function}
use Rattle.sim_rules_terms.specs.declared.convention.Convention.{Convention}
use Rattle.cert_check_frames.specs.Entries.{AreEntries, IsConventionFor}
use Rattle.cert_run.proofs.sides.add_conventions.Given as goal

-- the conventions so far
abbrev pub invariant-loop-index : goal.invariant-loop-index
invariant-loop-index l = record {
  count : length l.conventions.items ≡ l.index;
  within : l.index ≤ length l.entries;
  each : (q : Pair) (functions : List Function) → AreEntries q functions l.entries
      → (k : ℕ) (g : Function) (c : Convention) → slice_get functions k ≡ Some g → slice_get l.conventions.items k ≡ Some c → IsConventionFor q g c;
}
