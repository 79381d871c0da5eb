use Rattle.std.proofs.Common.{◌≡◌, ◌≤◌, length}
use Rattle.sat_search_spec.specs.Trimming.{IsTrimming}
use Rattle.sat_search_analysis.specs.Passes.{IsBackward, AreLow}
use Rattle.sat_search_analysis.proofs.trimming.trim_steps.Given as goal

abbrev pub invariant-loop-index : goal.invariant-loop-index
invariant-loop-index l = record {
  low : AreLow l.places.items;
  short : length l.trimmed.items ≤ length l.places.items;
  count : length l.places.items ≡ l.index;
  trimming : IsBackward l.given l.log → IsTrimming l.given l.log l.needed l.index l.places.items l.trimmed.items;
}
