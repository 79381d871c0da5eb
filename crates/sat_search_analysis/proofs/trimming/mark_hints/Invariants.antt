use Rattle.std.proofs.Common.{take}
use Rattle.sat_search_analysis.specs.Passes.{IsMarkedBy}
use Rattle.sat_search_analysis.proofs.trimming.mark_hints.Given as goal

abbrev pub invariant-loop-hint : goal.invariant-loop-hint
invariant-loop-hint l = IsMarkedBy l.given (take l.hint-index l.hints) l.initial.needed l.needed
