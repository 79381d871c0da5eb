use Rattle.std.proofs.Common.{◌≡◌, take}
use Rattle.path_cond.specs.United.{ids_of}
use Rattle.path_cond.proofs.unite.find_ids.Given as goal

abbrev pub invariant-loop-source : goal.invariant-loop-source
invariant-loop-source l = l.found.items ≡ ids_of l.states (take l.source-index l.sources) l.number
