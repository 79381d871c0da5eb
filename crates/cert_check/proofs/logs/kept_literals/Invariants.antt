use Rattle.std.proofs.Common.{◌≡◌, map, take}
use Rattle.cert_text_parse.specs.Views.{literal_of}
use Rattle.cert_check.specs.Logs.{clipped}
use Rattle.cert_check.proofs.logs.kept_literals.Given as goal

abbrev pub invariant-loop-index : goal.invariant-loop-index
invariant-loop-index l = l.kept.items ≡ map clipped (map literal_of (take l.index l.literals))
