use Rattle.std.proofs.Common.{◌≡◌, ◌≤◌, ℕ, List, length, map, Some}
use Rattle.std.specs.Prelude.{slice_get}
use Rattle.cert_check_spec.specs.Verdict.{Listed}
use Rattle.agreement_laws.specs.EntryFrame.{Pair}
use Rattle.validity_laws.specs.Derivation.{Function}
use Rattle.validity_laws.specs.CheckStatements.{listed_of}
use Rattle.cert_check_frames.specs.declared.listed.Listed.{Listed as CodeListed}
use Rattle.cert_check_frames.specs.Listed.{IsListed}
use Rattle.cert_check_frames.specs.Entries.{AreConventions, AreEntries, AreGraphs, AreSites}
use Rattle.cert_check_frames.proofs.listing.list.Given as goal

-- the functions so far
abbrev pub invariant-loop-index : goal.invariant-loop-index
invariant-loop-index l = record {
  count : length l.all.items ≡ l.index;
  within : l.index ≤ length l.entries;
  each : (q : Pair) (firsts : List (List (ℕ × ℕ))) (functions : List Function) → AreEntries q functions l.entries → AreConventions q functions l.conventions
      → AreGraphs q l.code l.source l.runs → AreSites q firsts l.sites.firsts.now l.sites.places.now
      → (k : ℕ) (code : CodeListed) (f : Listed) → slice_get l.all.items k ≡ Some code → slice_get (map (listed_of q firsts) functions) k ≡ Some f → IsListed code f;
}
